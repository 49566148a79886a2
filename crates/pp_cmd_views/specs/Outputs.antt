-- Meaning: the status and the text of `views`.
use Rattle.std.specs.Prelude.{◌≡◌, ◌≤◌, ◌<◌, ◌⊎◌, ℕ, List, length, map}
use Rattle.pp_core.specs.declared.limits.TheConstants.{MOST_VIEWED}
use Rattle.pp_core.specs.declared.status.Status.{Status}
use Rattle.pp_core.specs.declared.status.Status.TheVariants as statuses
use Rattle.pp_core.specs.Steps.{Step}
use Rattle.pp_records.specs.Runs.{bare}
use Rattle.pp_format_read.specs.declared.header.Header.{Header}
use Rattle.pp_model.specs.Serial.{attempts, committed_tx}
use Rattle.pp_objects.specs.declared.act.Op.{Op}
use Rattle.pp_attempts.specs.Peaks.{operations, peaks}
use Rattle.pp_attempts.specs.declared.view.View.{View}
use Rattle.pp_attempts.specs.Views.{AreViews}
use Rattle.pp_judge.specs.Accepted.{HasRun}
use Rattle.pp_judge.specs.Inputs.{scan}
use Rattle.pp_judge.specs.Objects.{object_of, start_of}
use Rattle.pp_judge.specs.Reports.{IsCertified}
use Rattle.pp_judge.specs.Scans.{InputScan}
use Rattle.pp_cmd_views.specs.Texts.{too_large_text, views_text}

-- The text of an accepted run with this header: the number of its steps, that of its committed
-- transactions, and the views of its peaks over them.
abbrev pub IsViewsText : Header → List (Step Op) → List ℕ → Type 0
IsViewsText header steps text =
    let committed = map committed_tx (attempts (start_of header) steps) in (vs : List View)
    × AreViews (object_of header) committed (peaks steps) vs
    × (text ≡ views_text (length steps) (length committed) vs)

-- The status and the text. If the attempts have more than 2,000,000 operations, the text has only
-- their number.
abbrev pub IsStepsTold : Header → List (Step Op) → Status → List ℕ → Type 0
IsStepsTold header steps status text =
    let count = operations (peaks steps) in
    ((count ≤ MOST_VIEWED) × (status ≡ statuses.Accepted) × IsViewsText header steps text)
    ⊎ ((MOST_VIEWED < count) × (status ≡ statuses.TooLarge) × (text ≡ too_large_text count))

-- The status and the text for the run of a scan.
abbrev pub IsRunTold : InputScan → Status → List ℕ → Type 0
IsRunTold sc status text = (r : HasRun sc) × IsStepsTold r.header.what (bare r.run) status text

-- The output of `views`, from the output of `certify`. It is the same for a fault and for a
-- rejected run.
abbrev pub IsViewsOf : InputScan → (how : Status) → (report : List ℕ) → Status → List ℕ → Type 0
IsViewsOf sc statuses.Accepted report status text = IsRunTold sc status text
IsViewsOf sc statuses.Rejected report status text =
    (status ≡ statuses.Rejected) × (text ≡ report)
IsViewsOf sc statuses.InputFault report status text =
    (status ≡ statuses.InputFault) × (text ≡ report)
IsViewsOf sc statuses.BadWords report status text = ⊥
IsViewsOf sc statuses.ReadFault report status text = ⊥
IsViewsOf sc statuses.WriteFault report status text = ⊥
IsViewsOf sc statuses.OutOfMemory report status text = ⊥
IsViewsOf sc statuses.TooLarge report status text = ⊥

-- the status and the text of `views` for an input
abbrev pub IsViews : List ℕ → Status → List ℕ → Type 0
IsViews bytes status text = (how : Status) × (report : List ℕ) × IsCertified bytes how report
    × IsViewsOf (scan bytes) how report status text
