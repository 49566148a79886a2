-- Meaning: the laws of what `quick` decides.
use Rattle.std.specs.Prelude.{◌≡◌, ◌≢◌, ℕ, zero, suc, List, slice_get, Some}
use Rattle.pp_core.specs.declared.call.Style.TheVariants.{Boosted}
use Rattle.pp_core.specs.declared.status.Status.{Status}
use Rattle.pp_records.specs.Inputs as reports
use Rattle.pp_records.specs.Inputs.{IsReport}
use Rattle.pp_records.specs.Records.{RunRecord}
use Rattle.pp_records.specs.Runs.{Lined, Records}
use Rattle.pp_format_read.specs.declared.header.Header.{Header}
use Rattle.pp_model.specs.Config.{Step}
use Rattle.pp_model.specs.Rules.{Accepted, Rejected, Verdict}
use Rattle.pp_objects.specs.declared.act.Op.{Op}
use Rattle.pp_input_reader.specs.declared.cause.Cause.TheVariants.{TooManySteps}
use Rattle.pp_judge.specs.Objects.{setting_of}
use Rattle.pp_judge.specs.Reports.{RunReport}
use Rattle.pp_judge.specs.Scans.{InputScan}
use Rattle.pp_cmd_quick.specs.Decisions.{Accepts, Decision, Faulty, IsDecision, IsDecisionOf, IsQuick}
use Rattle.pp_cmd_quick.specs.Decisions.{IsVerdictBehind, Rejects, acceptance, steps_behind}

-- The decision reports this verdict on all steps of the records. Step 0 is the start, whose line is
-- that of the header.
abbrev pub TellsVerdict : Lined Header → Records (RunRecord Op) → Verdict → Decision → Type 0
TellsVerdict header rs Accepted decision = decision ≡ acceptance header.what rs
TellsVerdict header rs (Rejected zero criterion) decision = decision ≡ Rejects header.line
TellsVerdict header rs (Rejected (suc i) criterion) decision = (step : Lined (Step Op))
    × (slice_get (steps_behind header.what rs) i ≡ Some step) × (decision ≡ Rejects step.line)

-- The decision agrees with this report of `certify`: the same fault on the same line, the same
-- serial run, or a rejection on the same line. Nothing is said if the report is TooManySteps.
abbrev pub IsSameDecision : RunReport → Decision → Type 0
IsSameDecision (reports.Faulty line cause) decision =
    cause ≢ TooManySteps → decision ≡ Faulty line cause
IsSameDecision (reports.Accepts steps committed final) decision =
    (records : ℕ) × (decision ≡ Accepts records committed final)
IsSameDecision (reports.StartRejected line criterion) decision = decision ≡ Rejects line
IsSameDecision (reports.StepRejected number line criterion before step) decision =
    decision ≡ Rejects line

-- The law of what `quick` decides.
pub record DecisionLaw : Type 0 where
  -- An input has at most one status and one text.
  pub one : (bytes : List ℕ) (s s' : Status) (t t' : List ℕ) → IsQuick bytes s t →
      IsQuick bytes s' t' → (s ≡ s') × (t ≡ t')
  -- Records after a header cannot be without a decision and a verdict on all their steps. (Which
  -- step fails cannot be computed from the criteria alone.)
  pub some : (header : Lined Header) (rs : Records (RunRecord Op)) →
      ((decision : Decision) (v : Verdict) → IsDecisionOf header rs decision →
      IsVerdictBehind header.what rs v → ⊥) → ⊥
  -- The decision reports this verdict, of which there is at most one. There is no limit on steps.
  pub verdict : (header : Lined Header) (rs : Records (RunRecord Op)) (decision : Decision)
      (v : Verdict) → IsDecisionOf header rs decision → IsVerdictBehind header.what rs v →
      TellsVerdict header rs v decision
  -- The decision about an input of style boosted agrees with the report of `certify`.
  pub agrees : (sc : InputScan) (header : Lined Header) (report : RunReport) (decision : Decision) →
      sc.header ≡ Some header → header.what.style ≡ Boosted →
      IsReport setting_of TooManySteps sc report → IsDecision sc decision →
      IsSameDecision report decision
