-- Proof machinery: a transaction of the run as code has it, and lists of steps that grow.
use Rattle.std.specs.Prelude.{◌≡◌, ◌≤◌, List, ◌++◌}
use Rattle.pp_core.specs.Steps.{Step}
use Rattle.pp_core.specs.declared.step.Step.{Step as StepOf}
use Rattle.pp_objects.specs.declared.act.Op.{Op}
use Rattle.pp_styles.specs.Meanings.{meanings}
use Rattle.pp_cmd_drill.specs.Drill.{name_of}
use Rattle.pp_cmd_drill.specs.declared.transaction.Transaction.{Transaction}

-- The transaction has the name of its number, which is at most 20,000.
pub record IsNumbered (t : Transaction) : Type 0 where
  pub named : t.name ≡ name_of t.number
  pub few : t.number ≤ 20_000

-- further steps are after those of the old list
abbrev pub Adds : (old new : List (StepOf Op)) → List (Step Op) → Type 0
Adds old new more = meanings new ≡ meanings old ++ more
