-- Meaning: the status and the text of `opaque`.
use Rattle.std.specs.Prelude.{◌≡◌, ◌⊎◌, ℕ, suc, List, length, slice_get, Some}
use Rattle.pp_core.specs.declared.status.Status.{Status}
use Rattle.pp_core.specs.declared.status.Status.TheVariants as statuses
use Rattle.pp_core.specs.Steps.{Step}
use Rattle.pp_records.specs.Runs.{LinedSteps, bare}
use Rattle.pp_format_read.specs.declared.header.Header.{Header}
use Rattle.pp_model.specs.Serial.{attempts}
use Rattle.pp_objects.specs.declared.act.Op.{Op}
use Rattle.pp_laws_opacity.specs.Opacity.{IsOpaque}
use Rattle.pp_laws_opacity.specs.Zombies.{IsZombie}
use Rattle.pp_opacity.specs.Results.{as_zombie}
use Rattle.pp_opacity.specs.declared.zombie.Zombie.{Zombie}
use Rattle.pp_judge.specs.Accepted.{HasRun}
use Rattle.pp_judge.specs.Inputs.{scan}
use Rattle.pp_judge.specs.Objects.{object_of, start_of}
use Rattle.pp_judge.specs.Reports.{IsCertified}
use Rattle.pp_judge.specs.Scans.{InputScan}
use Rattle.pp_cmd_opaque.specs.Texts.{opaque_text, zombie_text}

-- the step of this number, counted from 1, is one of the record on this line
abbrev pub IsStepOn : LinedSteps Op → (number at_line : ℕ) → Type 0
IsStepOn run number at_line = (i : ℕ) × (step : Step Op) × (number ≡ suc i)
    × (slice_get run i ≡ Some (record { line = at_line; what = step }))

-- The text of an opaque run with this header: the number of its steps, and that of its committed
-- transactions.
abbrev pub IsOpaqueText : Header → LinedSteps Op → List ℕ → Type 0
IsOpaqueText header run text = IsOpaque (object_of header) (start_of header) (bare run)
    × (text ≡ opaque_text (length run) (length (attempts (start_of header) (bare run))))

-- The text of a run that is not opaque: its first zombie, with the line of the step after which the
-- zombie is there.
abbrev pub IsZombieText : Header → LinedSteps Op → List ℕ → Type 0
IsZombieText header run text = (z : Zombie Op) × (at_line : ℕ)
    × IsZombie (object_of header) (start_of header) (bare run) (as_zombie z)
    × IsStepOn run z.step at_line
    × (text ≡ zombie_text header.catalog at_line z)

-- The status and the text of an accepted run. A run that is not opaque has the status of a
-- rejection.
abbrev pub IsRunOutput : Header → LinedSteps Op → Status → List ℕ → Type 0
IsRunOutput header run status text =
    ((status ≡ statuses.Accepted) × IsOpaqueText header run text)
    ⊎ ((status ≡ statuses.Rejected) × IsZombieText header run text)

-- the same of the run of a scan
abbrev pub IsScanOutput : InputScan → Status → List ℕ → Type 0
IsScanOutput sc status text = (r : HasRun sc) × IsRunOutput r.header.what r.run status text

-- by how the input is certified: the same report of a fault and of a rejected run
abbrev pub IsOutputOf : InputScan → (how : Status) → (report : List ℕ) → Status → List ℕ → Type 0
IsOutputOf sc statuses.Accepted report status text = IsScanOutput sc status text
IsOutputOf sc statuses.Rejected report status text =
    (status ≡ statuses.Rejected) × (text ≡ report)
IsOutputOf sc statuses.InputFault report status text =
    (status ≡ statuses.InputFault) × (text ≡ report)
IsOutputOf sc statuses.BadWords report status text = ⊥
IsOutputOf sc statuses.ReadFault report status text = ⊥
IsOutputOf sc statuses.WriteFault report status text = ⊥
IsOutputOf sc statuses.OutOfMemory report status text = ⊥
IsOutputOf sc statuses.TooLarge report status text = ⊥

-- the status and the text of `opaque` for an input
abbrev pub IsOpaqueOutput : List ℕ → Status → List ℕ → Type 0
IsOpaqueOutput bytes status text = (how : Status) × (report : List ℕ)
    × IsCertified bytes how report × IsOutputOf (scan bytes) how report status text
