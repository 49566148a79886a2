-- Meaning: the laws of the outputs of `views`.
use Rattle.std.specs.Prelude.{◌≡◌, ℕ, List}
use Rattle.pp_core.specs.declared.status.Status.{Status}
use Rattle.pp_core.specs.declared.status.Status.TheVariants as statuses
use Rattle.pp_records.specs.Runs.{bare}
use Rattle.pp_attempts.specs.Laws.{SeesKeptPeaks}
use Rattle.pp_judge.specs.Accepted.{HasRun}
use Rattle.pp_judge.specs.Inputs.{scan}
use Rattle.pp_judge.specs.Objects.{object_of, start_of}
use Rattle.pp_judge.specs.Reports.{IsCertified}
use Rattle.pp_cmd_views.specs.Outputs.{IsViews}

-- An input has one status and one text at most.
abbrev pub OneOutputLaw : Type 0
OneOutputLaw =
    (bytes : List ℕ) (status other : Status) (text more : List ℕ) → IsViews bytes status text
    → IsViews bytes other more → (status ≡ other) × (text ≡ more)

-- In an accepted run, the last attempt of a committed transaction has a number if the transaction
-- took back nothing after it. The number is at most the place of the transaction among the
-- committed ones, from 0.
abbrev pub KeptViewLaw : Type 0
KeptViewLaw =
    (bytes report : List ℕ) → IsCertified bytes statuses.Accepted report
    → (r : HasRun (scan bytes))
    → SeesKeptPeaks (object_of r.header.what) (start_of r.header.what) (bare r.run)
