-- Meaning: what `quick` decides about an input, and what it prints.
use Rattle.std.specs.Prelude.{◌≡◌, ◌⊎◌, ℕ, Bool, true, false, List, length, map, if◌then◌else◌}
use Rattle.std.specs.Prelude.{Option, None, Some}
use Rattle.std.specs.Io.KnownBytes.{Consumes}
use Rattle.pp_core.specs.declared.call.Style.{Style}
use Rattle.pp_core.specs.declared.call.Style.TheVariants as styles
use Rattle.pp_core.specs.declared.status.Status.{Status}
use Rattle.pp_core.specs.declared.status.Status.TheVariants as statuses
use Rattle.pp_records.specs.Records.{RunRecord}
use Rattle.pp_records.specs.Runs.{Lined, LinedSteps, Records, bare}
use Rattle.pp_format_read.specs.declared.header.Header.{Header}
use Rattle.pp_model.specs.Config.{first}
use Rattle.pp_model.specs.Object.{state}
use Rattle.pp_model.specs.Rules.{IsVerdict, RunsFrom, StartMeets, Verdict}
use Rattle.pp_model.specs.Serial.{Attempt, attempts, committed_tx, serial}
use Rattle.pp_objects.specs.declared.act.Op.{Op}
use Rattle.pp_objects.specs.declared.states.ObjectState.{ObjectState}
use Rattle.pp_summary.specs.Failures.{FailsIn, all_steps}
use Rattle.pp_input_reader.specs.declared.cause.Cause.{Cause}
use Rattle.pp_input_reader.specs.declared.cause.Cause.TheVariants.{NotBoosted}
use Rattle.pp_input_reader.specs.FaultTexts.{fault_text}
use Rattle.pp_judge.specs.Inputs.{early_scan, scan}
use Rattle.pp_judge.specs.Objects.{object_of, start_of, translation_of}
use Rattle.pp_judge.specs.Scans.{InputScan}
use Rattle.pp_cmd_quick.specs.Reports.{quick_accepted_text, quick_rejected_text}

-- ---- the fault

-- the style of boosted runs
abbrev pub is_boosted : Style → Bool
is_boosted styles.Rules = false
is_boosted styles.Boosted = true
is_boosted styles.Optimistic = false
is_boosted styles.Hardware = false
is_boosted styles.Dependent = false

-- If a header is of a style that is not taken, this cause is the fault of its line.
abbrev pub style_fault : (Style → Bool) → Cause → Option (Lined Header) → Option (ℕ × Cause) →
    Option (ℕ × Cause)
style_fault is_taken cause None fault = fault
style_fault is_taken cause (Some header) fault =
    if is_taken header.what.style then fault else Some (header.line, cause)

-- The fault of an input: its header is of another style, or the fault of its scan. There is no
-- limit on steps. For the early scan it is the early fault.
abbrev pub quick_fault : InputScan → Option (ℕ × Cause)
quick_fault sc = style_fault is_boosted NotBoosted sc.header sc.fault

-- What was read has no fault that no further byte can change.
abbrev pub QuickReadsNoFault : Option (List ℕ) → Option (List ℕ) → Type 0
QuickReadsNoFault old new =
    (bytes : List ℕ) × Consumes old new bytes × (quick_fault (early_scan bytes) ≡ None)

-- ---- the decision

-- A decision: the fault; or the number of records, what they commit and the state that this leads
-- to; or the line of the start or the record that fails.
pub data Decision : Type 0 where
  Faulty : (line : ℕ) (cause : Cause) → Decision
  Accepts : (records : ℕ) (committed : List (Attempt Op)) (final : List ObjectState) → Decision
  Rejects : (line : ℕ) → Decision

-- All steps of the records after a header, however many there are.
abbrev pub steps_behind : Header → Records (RunRecord Op) → LinedSteps Op
steps_behind header rs = all_steps (translation_of header) (start_of header) rs

-- The verdict of all steps of the records.
abbrev pub IsVerdictBehind : Header → Records (RunRecord Op) → Verdict → Type 0
IsVerdictBehind header rs v =
    IsVerdict (object_of header) (start_of header) (bare (steps_behind header rs)) v

-- The start and each step meet their criteria.
abbrev pub AllHold : Header → Records (RunRecord Op) → Type 0
AllHold header rs = StartMeets (object_of header) (start_of header)
    × RunsFrom (object_of header) (first (start_of header)) (bare (steps_behind header rs))

-- The start fails, and its header is on this line; or the record on this line has the first step
-- that fails.
abbrev pub FailsOn : Lined Header → Records (RunRecord Op) → ℕ → Type 0
FailsOn header rs line =
    ((StartMeets (object_of header.what) (start_of header.what) → ⊥) × (line ≡ header.line))
    ⊎ ((r : Lined (RunRecord Op))
    × FailsIn (object_of header.what) (translation_of header.what) (start_of header.what) rs r
    × (line ≡ r.line))

-- The decision that all steps meet their criteria, with what they and the start commit.
abbrev pub acceptance : Header → Records (RunRecord Op) → Decision
acceptance header rs =
    let committed = attempts (start_of header) (bare (steps_behind header rs)) in
    Accepts (length rs) committed (state (object_of header) (serial committed))

-- The decision about the records after a header, without a fault.
abbrev pub IsDecisionOf : Lined Header → Records (RunRecord Op) → Decision → Type 0
IsDecisionOf header rs decision =
    (AllHold header.what rs × (decision ≡ acceptance header.what rs))
    ⊎ ((line : ℕ) × FailsOn header rs line × (decision ≡ Rejects line))

abbrev pub IsDecisionBehind : Option (ℕ × Cause) → InputScan → Decision → Type 0
IsDecisionBehind (Some fault) sc decision = decision ≡ Faulty fault.0 fault.1
IsDecisionBehind None sc decision = (header : Lined Header) × (sc.header ≡ Some header)
    × IsDecisionOf header sc.records decision

-- The decision about an input: its fault, if it has one, and otherwise that of its records.
abbrev pub IsDecision : InputScan → Decision → Type 0
IsDecision sc decision = IsDecisionBehind (quick_fault sc) sc decision

-- ---- what is printed

-- The status and the text of a decision.
abbrev pub IsDecisionTold : Option (Lined Header) → Decision → Status → List ℕ → Type 0
IsDecisionTold header (Faulty line cause) status text =
    (status ≡ statuses.InputFault) × (text ≡ fault_text line cause)
IsDecisionTold header (Accepts records committed final) status text =
    (status ≡ statuses.Accepted) × ((h : Lined Header) × (header ≡ Some h)
    × (text ≡ quick_accepted_text h.what.catalog records (map committed_tx committed) final))
IsDecisionTold header (Rejects line) status text =
    (status ≡ statuses.Rejected) × (text ≡ quick_rejected_text line)

-- The status and the text of the decision about an input.
abbrev pub IsQuick : List ℕ → Status → List ℕ → Type 0
IsQuick bytes status text = (decision : Decision) × IsDecision (scan bytes) decision
    × IsDecisionTold (scan bytes).header decision status text
