-- Meaning: what `opaque` prints of an accepted run, line by line.
use Rattle.std.specs.Prelude.{ℕ, List, ◌++◌, codes, length}
use Rattle.std.specs.Fmt.{decimal}
use Rattle.std.specs.List.{flat_map}
use Rattle.pp_core.specs.Catalogs.{Objects}
use Rattle.pp_objects.specs.declared.act.Op.{Op}
use Rattle.pp_opacity.specs.declared.zombie.Zombie.{Zombie}
use Rattle.pp_text.specs.Lines.{line, op_line}

-- of an opaque run: how many steps it has, and how many transactions committed
abbrev pub opaque_text : (steps count : ℕ) → List ℕ
opaque_text steps count =
    line (codes "opaque steps " ++ decimal steps ++ codes " committed " ++ decimal count)

-- where the first zombie of a run is: the number of the step, and the line of its record
abbrev pub place_line : (step at_line : ℕ) → List ℕ
place_line step at_line =
    line (codes "zombie step " ++ decimal step ++ codes " line " ++ decimal at_line)

-- what it is: its transaction, how many operations it has, and the ends of its window
abbrev pub view_line : Zombie Op → List ℕ
view_line z =
    line (codes "view " ++ z.tx ++ codes " ops " ++ decimal (length z.items)
    ++ codes " from " ++ decimal z.least ++ codes " to " ++ decimal z.most)

-- of a run that is not opaque: its first zombie, and the operations of this
abbrev pub zombie_text : Objects → (at_line : ℕ) → Zombie Op → List ℕ
zombie_text catalog at_line z =
    place_line z.step at_line ++ view_line z ++ flat_map (op_line catalog) z.items
