-- Meaning: the lines of operations and of states in a report.
use Rattle.std.specs.Prelude.{ℕ, List, ◌++◌, length, codes}
use Rattle.std.specs.Fmt.{decimal}
use Rattle.std.specs.List.{flat_map, range_with_len}
use Rattle.pp_core.specs.Catalogs.{Objects}
use Rattle.pp_core.specs.declared.entry.Item.{Item}
use Rattle.pp_objects.specs.declared.act.Op.{Op}
use Rattle.pp_objects.specs.declared.states.ObjectState.{ObjectState}
use Rattle.pp_text.specs.Texts.{op_bytes, state_bytes}

-- a text with its line end
abbrev pub line : List ℕ → List ℕ
line text = text ++ codes "\n"

-- the line of an operation
abbrev pub op_line : Objects → Item Op → List ℕ
op_line catalog entry =
    line (codes "op " ++ decimal entry.id ++ codes " " ++ op_bytes catalog entry.op)

-- the line of the state of the object at a place
abbrev pub state_line : Objects → List ObjectState → ℕ → List ℕ
state_line catalog states place = line (state_bytes catalog states place)

-- the lines of the states of all objects, in their order
abbrev pub state_lines : Objects → List ObjectState → List ℕ
state_lines catalog states =
    flat_map (state_line catalog states) (range_with_len 0 (length catalog))
