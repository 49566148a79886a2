-- How far each command raises the counter of operations, in one definition for all commands. No
-- clause of `run` names it: the contract of `perform` does, and the fields `most` and `least` in
-- `Commands.antt` are proved from it.
use Rattle.std.specs.Prelude.{◌≡◌, ℕ, List, Option, None, Some}
use Rattle.pp_core.specs.declared.status.Status.{Status}
use Rattle.pp_core.specs.declared.status.Status.TheVariants as statuses
use Rattle.pp_input_reader.specs.Sources.{WhereTold}
use Rattle.pp_judge.specs.Certified.{IsDecided}
use Rattle.pp_judge.specs.Costs.{CostsAtLeast, CostsAtMost, StepsCostAtLeast, StepsCostAtMost}
use Rattle.pp_judge.specs.Inputs.{scan}
use Rattle.pp_cmd_views.specs.Costs.{ViewsCostAtMost}
use Rattle.pp_cmd_opaque.specs.Bounds.{OpaqueCostsAtMost}
use Rattle.pp_cmd_quick.specs.Costs.{QuickCostsAtLeast, QuickCostsAtMost}
use Rattle.pp_cmd_judge.specs.Costs.{JudgeCostsAtLeast, JudgeCostsAtMost}
use Rattle.pp_cmd_judge.specs.Inputs.{judge_scan}
use Rattle.pp_cmd_drill.specs.Reports.{drill_scan}
use Rattle.pp_cmd_recheck.specs.Costs.{CheckCostsAtLeast, CheckCostsAtMost}
use Rattle.pp_run.specs.declared.words.Command.{Command}
use Rattle.pp_run.specs.declared.words.Command.TheVariants.{Certify, Drill, Expand, Focus, Judge}
use Rattle.pp_run.specs.declared.words.Command.TheVariants.{Opaque, Quick, Recheck, Swaps, Views}

-- The greatest rise of the counter, from old to new, at every status. `certify` and `drill` rise at
-- most by the greatest cost of the start, the steps and the serial run. The other commands have
-- their own bounds. A line of a certificate costs two at most. `focus` and bad arguments cost
-- nothing.
abbrev pub RisesAtMost : Option Command → Option (List ℕ) → (old new : ℕ) → Type 0
RisesAtMost None left old new = new ≡ old
RisesAtMost (Some Certify) left old new = WhereTold left λ bytes. CostsAtMost (scan bytes) old new
RisesAtMost (Some Expand) left old new =
    WhereTold left λ bytes. StepsCostAtMost (scan bytes) old new
RisesAtMost (Some Judge) left old new =
    WhereTold left λ bytes. JudgeCostsAtMost (judge_scan bytes) old new
RisesAtMost (Some Quick) left old new =
    WhereTold left λ bytes. QuickCostsAtMost (scan bytes) old new
RisesAtMost (Some Swaps) left old new =
    WhereTold left λ bytes. StepsCostAtMost (scan bytes) old new
RisesAtMost (Some Recheck) left old new = WhereTold left λ bytes. CheckCostsAtMost bytes old new
RisesAtMost (Some Views) left old new =
    WhereTold left λ bytes. ViewsCostAtMost (scan bytes) old new
RisesAtMost (Some Opaque) left old new =
    WhereTold left λ bytes. OpaqueCostsAtMost (scan bytes) old new
RisesAtMost (Some (Drill n)) left old new = CostsAtMost (drill_scan n) old new
RisesAtMost (Some (Focus name)) left old new = WhereTold left λ bytes. new ≡ old

-- The least rise of the counter at this status. With a verdict it is one for each step that applies
-- or takes back one operation and meets its criteria. For `quick` it is one for each record that is
-- an operation, before the one that fails, if one does. For `judge` it is what the judge of the style
-- costs. `certify`, `judge`, `quick` and `drill` add the serial run of an accepted run. For `recheck`
-- it is one for each entry and for each serial entry, and only at accepted.
abbrev pub RisesAtLeast : Option Command → Option (List ℕ) → Status → (old new : ℕ) → Type 0
RisesAtLeast None left status old new = Unit {0}
RisesAtLeast (Some Certify) left status old new = IsDecided status →
    WhereTold left λ bytes. CostsAtLeast status (scan bytes) old new
RisesAtLeast (Some Expand) left status old new = IsDecided status →
    WhereTold left λ bytes. StepsCostAtLeast status (scan bytes) old new
RisesAtLeast (Some Judge) left status old new = IsDecided status →
    WhereTold left λ bytes. JudgeCostsAtLeast status (judge_scan bytes) old new
RisesAtLeast (Some Quick) left status old new = IsDecided status →
    WhereTold left λ bytes. QuickCostsAtLeast status (scan bytes) old new
RisesAtLeast (Some Swaps) left status old new = IsDecided status →
    WhereTold left λ bytes. StepsCostAtLeast status (scan bytes) old new
RisesAtLeast (Some Recheck) left status old new = status ≡ statuses.Accepted →
    WhereTold left λ bytes. CheckCostsAtLeast bytes old new
RisesAtLeast (Some Views) left status old new = IsDecided status →
    WhereTold left λ bytes. StepsCostAtLeast status (scan bytes) old new
RisesAtLeast (Some Opaque) left status old new = IsDecided status →
    WhereTold left λ bytes. StepsCostAtLeast status (scan bytes) old new
RisesAtLeast (Some (Drill n)) left status old new = status ≡ statuses.Accepted →
    CostsAtLeast statuses.Accepted (drill_scan n) old new
RisesAtLeast (Some (Focus name)) left status old new = Unit {0}
