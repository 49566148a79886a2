-- Proof machinery: the step of one entry in a walk over a local log.
use Rattle.std.specs.Prelude.{List, [], ◌∷◌}
use Rattle.std.specs.Prelude.{if◌then◌else◌}
use Rattle.pp_core.specs.Steps.{Step, Push, Unpull}
use Rattle.pp_core.specs.declared.entry.LocalEntry.{LocalEntry}
use Rattle.pp_model.specs.Config.{Unpushed, is_mark}
use Rattle.pp_model.specs.Names.{Name}
use Rattle.pp_records.specs.Expansions.{is_pulled_from}

-- PUSH of an own unpushed entry
abbrev pub push_of : {Op : Type 0} → Name → LocalEntry Op → List (Step Op)
push_of t e = if is_mark e.mark Unpushed then Push t e.id ∷ [] else []

-- UNPULL of an entry that was pulled from this source
abbrev pub unpull_of : {Op : Type 0} → Name → Name → LocalEntry Op → List (Step Op)
unpull_of t source e = if is_pulled_from source e then Unpull t e.id ∷ [] else []
