-- Proof machinery: the line of an entry as it is written.
use Rattle.std.specs.Prelude.{ℕ, List, [], ◌∷◌, ◌++◌}
use Rattle.pp_core.specs.Catalogs.{Objects}
use Rattle.pp_core.specs.declared.entry.Item.{Item}
use Rattle.pp_objects.specs.declared.act.Op.{Op}
use Rattle.pp_certificate_lines.specs.Lines.{entry_bytes}

-- the line of an entry with its end
abbrev pub entry_line : Objects → Item Op → List ℕ
entry_line catalog p = entry_bytes catalog p ++ 10 ∷ []
