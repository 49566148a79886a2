-- Meaning: what a rejected run promises of its evidence.
use Rattle.std.specs.Prelude.{◌≢◌, ℕ, List, Option, None, Some}
use Rattle.pp_core.specs.declared.call.Kind.{Kind}
use Rattle.pp_records.specs.Inputs.{Accepts, Faulty, IsReport, StartRejected, StepRejected}
use Rattle.pp_records.specs.Runs.{Lined}
use Rattle.pp_format_read.specs.declared.header.Header.{Header}
use Rattle.pp_model.specs.Config.{Config, Start, Step}
use Rattle.pp_model.specs.Rules.{criteria, start_criteria}
use Rattle.pp_model.specs.Sound.{Sound}
use Rattle.pp_objects.specs.Objects.{kinds_of, objects}
use Rattle.pp_objects.specs.declared.act.Op.{Op}
use Rattle.pp_machine.specs.Evidence.{evidence}
use Rattle.pp_machine.specs.Shown.{FailsAt, HoldsAtNumber, facts}
use Rattle.pp_machine.specs.StartAnswers.{start_facts}
use Rattle.pp_machine.specs.Starts.{start_evidence}
use Rattle.pp_machine.specs.declared.detail.Detail.{Detail}
use Rattle.pp_machine.specs.declared.detail.Detail.TheVariants.{Nothing}
use Rattle.pp_kind.specs.Object.{rules_of}
use Rattle.pp_input_reader.specs.declared.cause.Cause.TheVariants.{TooManySteps}
use Rattle.pp_judge.specs.Objects.{setting_of, start_of}
use Rattle.pp_judge.specs.Reports.{RunReport}
use Rattle.pp_judge.specs.Scans.{InputScan}

-- The fact of this criterion of a start, over objects of these kinds, is true of its evidence.
abbrev pub IsStartEvident : List Kind → Option (Start Op) → ℕ → Type 0
IsStartEvident kinds None criterion = ⊥
IsStartEvident kinds (Some z) criterion =
    HoldsAtNumber objects (start_facts objects kinds z) criterion
    (start_evidence objects kinds z criterion)

-- The fact of this criterion of a step is true of its evidence, and the configuration before the
-- step is sound.
abbrev pub IsStepEvident : List Kind → Config Op → Step Op → ℕ → Type 0
IsStepEvident kinds before step criterion =
    Sound (rules_of objects kinds) before
    × HoldsAtNumber objects (facts objects kinds before step) criterion
    (evidence objects kinds before step criterion)

-- If the fact of a criterion of a start is true of any detail, the start violates the criterion.
abbrev pub StartFactRefutes : List Kind → Option (Start Op) → ℕ → Type 0
StartFactRefutes kinds None criterion = ⊥
StartFactRefutes kinds (Some z) criterion = (detail : Detail Op) →
    HoldsAtNumber objects (start_facts objects kinds z) criterion detail
    → FailsAt (start_criteria (rules_of objects kinds) (Some z)) criterion

-- The same of a criterion of a step, if the detail says something.
abbrev pub StepFactRefutes : List Kind → Config Op → Step Op → ℕ → Type 0
StepFactRefutes kinds before step criterion = (detail : Detail Op) →
    HoldsAtNumber objects (facts objects kinds before step) criterion detail → detail ≢ Nothing
    → FailsAt (criteria (rules_of objects kinds) before step) criterion

-- what is reported is a rejection, whose evidence is such
abbrev pub TellsEvident : Option (Lined Header) → RunReport → Type 0
TellsEvident header (Faulty at_line cause) = ⊥
TellsEvident header (Accepts steps committed final) = ⊥
TellsEvident None (StartRejected at_line criterion) = ⊥
TellsEvident (Some header) (StartRejected at_line criterion) =
    let kinds = kinds_of header.what.catalog in
    IsStartEvident kinds (start_of header.what) criterion
    × StartFactRefutes kinds (start_of header.what) criterion
TellsEvident None (StepRejected number at_line criterion before step) = ⊥
TellsEvident (Some header) (StepRejected number at_line criterion before step) =
    let kinds = kinds_of header.what.catalog in
    IsStepEvident kinds before step criterion × StepFactRefutes kinds before step criterion

-- Every report of an input (there is one at most) is a rejection whose evidence shows why.
abbrev pub IsEvident : InputScan → Type 0
IsEvident sc =
    (report : RunReport) → IsReport setting_of TooManySteps sc report →
    TellsEvident sc.header report
