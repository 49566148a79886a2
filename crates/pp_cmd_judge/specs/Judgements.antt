-- Meaning: how `judge` reports an input.
use Rattle.std.specs.Prelude.{◌≡◌, ◌⊎◌, ◌↔◌, ℕ, Bool, true, false, List, Option, None, Some}
use Rattle.std.specs.Io.KnownBytes.{Consumes}
use Rattle.pp_core.specs.declared.call.Style.{Style}
use Rattle.pp_core.specs.declared.call.Style.TheVariants as styles
use Rattle.pp_core.specs.declared.status.Status.{Status}
use Rattle.pp_core.specs.declared.status.Status.TheVariants as statuses
use Rattle.pp_records.specs.Inputs.{IsReportBehind}
use Rattle.pp_records.specs.Records.{RunRecord}
use Rattle.pp_records.specs.Runs.{HasOneMore, Lined, Records}
use Rattle.pp_format_read.specs.declared.header.Header.{Header}
use Rattle.pp_model.specs.Config.{first}
use Rattle.pp_model.specs.Rules.{StartMeets}
use Rattle.pp_objects.specs.declared.act.Op.{Op}
use Rattle.pp_input_reader.specs.declared.cause.Cause.{Cause}
use Rattle.pp_input_reader.specs.declared.cause.Cause.TheVariants.{TooManySteps}
use Rattle.pp_judge.specs.Accepted.{EachStepMeets}
use Rattle.pp_judge.specs.Objects.{object_of, setting_of, start_of}
use Rattle.pp_judge.specs.Rejected.{TellsEvident}
use Rattle.pp_judge.specs.Reports.{IsTold, RunReport}
use Rattle.pp_judge.specs.Scans.{InputScan}
use Rattle.pp_cmd_quick.specs.Decisions.{steps_behind}
use Rattle.pp_cmd_judge.specs.Inputs.{early_judge_scan, judge_scan}

-- ---- the fault

-- The styles whose runs are judged by driving the machine, which counts its steps in 32 bits. Only
-- these have a limit on steps.
abbrev pub is_driven : Style → Bool
is_driven styles.Rules = false
is_driven styles.Boosted = false
is_driven styles.Optimistic = false
is_driven styles.Hardware = true
is_driven styles.Dependent = true

-- The header, if there is one, is of a style without a limit on steps.
abbrev pub HasAnySteps : Option (Lined Header) → Type 0
HasAnySteps None = Unit {0}
HasAnySteps (Some header) = is_driven header.what.style ≡ false

-- The style has a limit on steps. The start and 4,294,967,295 steps meet their criteria, and the
-- record on this line has one more.
abbrev pub PassesStepsOn : Option (Lined Header) → Records (RunRecord Op) → ℕ → Type 0
PassesStepsOn None records line = ⊥
PassesStepsOn (Some header) records line =
    (is_driven header.what.style ≡ true)
    × StartMeets (object_of header.what) (start_of header.what)
    × HasOneMore (object_of header.what) 4_294_967_295 (first (start_of header.what))
    (steps_behind header.what records) line

-- The fault of an input: TooManySteps if a record passes the limit on steps, and otherwise the fault
-- of the scan. Of the early scan it is the early fault.
abbrev pub IsJudgeFault : InputScan → Option (ℕ × Cause) → Type 0
IsJudgeFault sc fault =
    ((line : ℕ) × PassesStepsOn sc.header sc.records line × (fault ≡ Some (line, TooManySteps)))
    ⊎ (((line : ℕ) → PassesStepsOn sc.header sc.records line → ⊥) × (fault ≡ sc.fault))

-- what was read has no fault that no further byte can change
abbrev pub JudgeReadsNoFault : Option (List ℕ) → Option (List ℕ) → Type 0
JudgeReadsNoFault old new =
    (bytes : List ℕ) × Consumes old new bytes × IsJudgeFault (early_judge_scan bytes) None

-- ---- the report

-- The report of an input: its fault, if it has one. Otherwise it is the report of its run, which
-- ends with the first step that violates a criterion, however many steps come before it.
abbrev pub IsJudgement : InputScan → RunReport → Type 0
IsJudgement sc report = (fault : Option (ℕ × Cause)) × IsJudgeFault sc fault
    × IsReportBehind setting_of fault sc report

-- the status and the text of the report of an input, which are those of `certify`
abbrev pub IsJudgeOutput : List ℕ → Status → List ℕ → Type 0
IsJudgeOutput bytes status text = (report : RunReport) × IsJudgement (judge_scan bytes) report
    × IsTold (judge_scan bytes).header report status text

-- The status is accepted exactly if the input has no fault and each of its steps meets its criteria.
abbrev pub IsJudgedExactly : List ℕ → Status → Type 0
IsJudgedExactly bytes status = (status ≡ statuses.Accepted)
    ↔ (IsJudgeFault (judge_scan bytes) None × EachStepMeets (judge_scan bytes))

-- Every report of an input (there is one at most) is a rejection whose evidence shows why.
abbrev pub IsJudgedEvident : InputScan → Type 0
IsJudgedEvident sc =
    (report : RunReport) → IsJudgement sc report → TellsEvident sc.header report
