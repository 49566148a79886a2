-- Meaning: the report of an input, and the text that expands it.
use Rattle.std.specs.Prelude.{◌≡◌, ℕ, List, map, Option, None, Some}
use Rattle.pp_core.specs.declared.call.Kind.{Kind}
use Rattle.pp_core.specs.declared.status.Status.{Status}
use Rattle.pp_core.specs.declared.status.Status.TheVariants as statuses
use Rattle.pp_core.specs.declared.step.Rule.TheVariants as rules
use Rattle.pp_core.specs.Steps.{rule_of}
use Rattle.pp_records.specs.Inputs.{Accepts, Faulty, IsReport, IsRunReport, Report, StartRejected}
use Rattle.pp_records.specs.Inputs.{StepRejected}
use Rattle.pp_records.specs.Runs.{Lined, bare}
use Rattle.pp_format_read.specs.declared.header.Header.{Header}
use Rattle.pp_format_write.specs.RunTexts.{run_text}
use Rattle.pp_model.specs.Config.{Start}
use Rattle.pp_model.specs.Serial.{committed_tx}
use Rattle.pp_objects.specs.Objects.{kinds_of, objects}
use Rattle.pp_objects.specs.declared.act.Op.{Op}
use Rattle.pp_objects.specs.declared.states.ObjectState.{ObjectState}
use Rattle.pp_report.specs.Reports.{accepted_text, rejected_text}
use Rattle.pp_machine.specs.Evidence.{evidence}
use Rattle.pp_machine.specs.Starts.{start_evidence}
use Rattle.pp_machine.specs.declared.detail.Detail.{Detail}
use Rattle.pp_machine.specs.declared.detail.Detail.TheVariants.{Nothing}
use Rattle.pp_input_reader.specs.declared.cause.Cause.{Cause}
use Rattle.pp_input_reader.specs.declared.cause.Cause.TheVariants.{TooManySteps}
use Rattle.pp_input_reader.specs.FaultTexts.{fault_text}
use Rattle.pp_judge.specs.Accepted.{HasRun}
use Rattle.pp_judge.specs.Inputs.{scan}
use Rattle.pp_judge.specs.Objects.{setting_of, start_of}
use Rattle.pp_judge.specs.Scans.{InputScan}

-- what is reported of a run over the objects of its header
abbrev pub RunReport : Type 0
RunReport = Report Op (List ObjectState) Cause

-- the evidence of a start, over objects of these kinds, that first violates this criterion
abbrev pub detail_of_start : List Kind → Option (Start Op) → ℕ → Detail Op
detail_of_start kinds None criterion = Nothing
detail_of_start kinds (Some z) criterion = start_evidence objects kinds z criterion

-- The status and the text of a report. Accepted: the committed transactions, each with its own
-- operations, and the state that they lead to one after another. Rejected: the step and the first
-- criterion that it violates, with the evidence in the configuration before it. Step 0 is the
-- start, and its line is that of the header.
abbrev pub IsTold : Option (Lined Header) → RunReport → Status → List ℕ → Type 0
IsTold header (Faulty at_line cause) status text =
    (status ≡ statuses.InputFault) × (text ≡ fault_text at_line cause)
IsTold None (Accepts steps committed final) status text = ⊥
IsTold (Some header) (Accepts steps committed final) status text = (status ≡ statuses.Accepted)
    × (text ≡ accepted_text header.what.catalog steps (map committed_tx committed) final)
IsTold None (StartRejected at_line criterion) status text = ⊥
IsTold (Some header) (StartRejected at_line criterion) status text =
    let kinds = kinds_of header.what.catalog in (status ≡ statuses.Rejected)
    × (text ≡ rejected_text header.what.catalog 0 at_line rules.Start criterion
    (detail_of_start kinds (start_of header.what) criterion))
IsTold None (StepRejected number at_line criterion before step) status text = ⊥
IsTold (Some header) (StepRejected number at_line criterion before step) status text =
    let kinds = kinds_of header.what.catalog in (status ≡ statuses.Rejected)
    × (text ≡ rejected_text header.what.catalog number at_line (rule_of step) criterion
    (evidence objects kinds before step criterion))

-- the status and the text of records without a fault
abbrev pub IsRunTold : InputScan → Status → List ℕ → Type 0
IsRunTold sc status text = (report : RunReport)
    × IsRunReport setting_of sc.header sc.records report × IsTold sc.header report status text

-- the status and the text that certify an input
abbrev pub IsCertified : List ℕ → Status → List ℕ → Type 0
IsCertified bytes status text = (report : RunReport)
    × IsReport setting_of TooManySteps (scan bytes) report
    × IsTold (scan bytes).header report status text

-- the run of the records, printed as a run of style rules over the same objects, with the same start
abbrev pub IsRunPrinted : InputScan → List ℕ → Type 0
IsRunPrinted sc text = (r : HasRun sc)
    × (text ≡ run_text r.header.what.catalog r.header.what.start (bare r.run))

-- the text that expands an input, by how it is certified: the same report of a fault, and else its
-- run, of which a step that fails is the last
abbrev pub IsExpansionOf : InputScan → Status → (report text : List ℕ) → Type 0
IsExpansionOf sc statuses.Accepted report text = IsRunPrinted sc text
IsExpansionOf sc statuses.Rejected report text = IsRunPrinted sc text
IsExpansionOf sc statuses.InputFault report text = text ≡ report
IsExpansionOf sc statuses.BadWords report text = ⊥
IsExpansionOf sc statuses.ReadFault report text = ⊥
IsExpansionOf sc statuses.WriteFault report text = ⊥
IsExpansionOf sc statuses.OutOfMemory report text = ⊥
IsExpansionOf sc statuses.TooLarge report text = ⊥

-- the status and the text that expand an input: it has the status with which it is certified
abbrev pub IsExpanded : List ℕ → Status → List ℕ → Type 0
IsExpanded bytes status text = (report : List ℕ) × IsCertified bytes status report
    × IsExpansionOf (scan bytes) status report text
