-- Meaning: what is promised of the results of commands, besides their outputs.
use Rattle.std.specs.Prelude.{◌≡◌, ◌↔◌, ℕ, List, Option, None}
use Rattle.std.specs.Io.KnownBytes.{Appends}
use Rattle.pp_core.specs.declared.status.Status.{Status}
use Rattle.pp_core.specs.declared.status.Status.TheVariants as statuses
use Rattle.pp_core.specs.declared.call.Style.TheVariants.{Boosted}
use Rattle.pp_records.specs.Inputs.{IsReport}
use Rattle.pp_records.specs.Laws.{OneRunLaw}
use Rattle.pp_records.specs.Records.{RunRecord}
use Rattle.pp_records.specs.Runs.{Lined, bare}
use Rattle.pp_format_read.specs.declared.header.Header.{Header}
use Rattle.pp_model.specs.Config.{Start, Step}
use Rattle.pp_model.specs.Rules.{IsVerdict, Verdict}
use Rattle.pp_input_reader.specs.declared.cause.Cause.TheVariants.{TooManySteps}
use Rattle.pp_objects.specs.Objects.{place_of}
use Rattle.pp_objects.specs.declared.act.Op.{Op}
use Rattle.pp_summary.specs.Laws.{BriefsDecide, IsBriefed, KeepsBoosted}
use Rattle.pp_attempts.specs.Laws.{SeesKeptPeaks}
use Rattle.pp_judge.specs.Accepted.{HasRun}
use Rattle.pp_judge.specs.Inputs.{scan}
use Rattle.pp_judge.specs.Objects.{object_of, setting_of, start_of, translation_of}
use Rattle.pp_judge.specs.Reports.{RunReport}
use Rattle.pp_judge.specs.Scans.{InputScan}
use Rattle.pp_cmd_focus.specs.Outputs.{IsFocusStatus, focus_fault}
use Rattle.pp_cmd_judge.specs.Inputs.{judge_scan}
use Rattle.pp_cmd_opaque.specs.Meanings.{IsFirstZombie}
use Rattle.pp_cmd_quick.specs.Costs.{AreTriedAfter}
use Rattle.pp_cmd_quick.specs.Decisions.{Decision, IsDecision, IsDecisionOf, IsVerdictBehind}
use Rattle.pp_cmd_quick.specs.Laws.{IsSameDecision, TellsVerdict}

-- The records after any header have exactly one run, and any steps have exactly one verdict. That
-- there is one is a double negation: it is impossible that there is none. The criteria are
-- statements, not tests, so the first step that fails cannot be computed from them.
pub record HaveOneRun (header : Header) : Type 0 where
  pub run : OneRunLaw (object_of header) (translation_of header)
  pub some_verdict : (h : Option (Start Op)) (steps : List (Step Op)) →
      ((v : Verdict) → IsVerdict (object_of header) h steps v → ⊥) → ⊥
  pub one_verdict : (h : Option (Start Op)) (steps : List (Step Op)) (v w : Verdict) →
      IsVerdict (object_of header) h steps v → IsVerdict (object_of header) h steps w → v ≡ w

-- What `quick` decides for an input with this header, and laws of boosted configurations over its
-- objects.
pub record IsDecidedAsRun (sc : InputScan) (header : Lined Header) : Type 0 where
  -- It is impossible that there is no decision or no verdict.
  pub some : ((decision : Decision) (v : Verdict) → IsDecisionOf header sc.records decision →
      IsVerdictBehind header.what sc.records v → ⊥) → ⊥
  -- The decision is the verdict on all steps of the records, however many there are.
  pub verdict : (decision : Decision) (v : Verdict) → IsDecisionOf header sc.records decision →
      IsVerdictBehind header.what sc.records v → TellsVerdict header sc.records v decision
  -- The costs of exactly one list of records are summed. It is impossible that there is none.
  pub some_tried : ((tried : List (RunRecord Op)) →
      AreTriedAfter header.what sc.records tried → ⊥) → ⊥
  pub one_tried : (a b : List (RunRecord Op)) → AreTriedAfter header.what sc.records a →
      AreTriedAfter header.what sc.records b → a ≡ b
  -- `certify` reports the same, on the same line, unless it reports TooManySteps.
  pub agrees : (report : RunReport) (decision : Decision) → header.what.style ≡ Boosted →
      IsReport setting_of TooManySteps sc report → IsDecision sc decision →
      IsSameDecision report decision
  -- The first configuration is boosted if the start meets its criteria. In a boosted configuration
  -- a record is good exactly if each of its steps meets its criteria. A good record leads to a
  -- boosted configuration.
  pub keeps_boosted : KeepsBoosted (object_of header.what) place_of
  -- The brief of a boosted configuration determines which records are good, and the brief after a
  -- good one.
  pub is_briefed : IsBriefed (object_of header.what) place_of
  -- So briefs decide a whole run. For a rejected run they find the record of the first step that
  -- fails.
  pub decides : BriefsDecide (object_of header.what) place_of

-- In an accepted run, the last attempt of a committed transaction has a number if the transaction
-- took back nothing after it. The number is at most the place of the transaction among the
-- committed ones, from 0.
abbrev pub SeesKept : InputScan → Type 0
SeesKept sc = (r : HasRun sc) →
    SeesKeptPeaks (object_of r.header.what) (start_of r.header.what) (bare r.run)

-- The known bytes grow by the text of the first zombie of the input's run.
abbrev pub PrintsZombie : List ℕ → Option (List ℕ) → Option (List ℕ) → Type 0
PrintsZombie bytes old new =
    (text : List ℕ) × IsFirstZombie (scan bytes) text × Appends old new text

-- The status is accepted exactly if the input has no fault, and its header has an object of this
-- name. Otherwise it is that of a fault.
abbrev pub IsFocusedExactly : List ℕ → List ℕ → Status → Type 0
IsFocusedExactly name bytes status =
    ((status ≡ statuses.Accepted) ↔ (focus_fault name (judge_scan bytes) ≡ None))
    × IsFocusStatus status
