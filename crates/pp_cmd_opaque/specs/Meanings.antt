-- Meaning: what the output of `opaque` says of an input.
use Rattle.std.specs.Prelude.{◌≡◌, ◌↔◌, ℕ, List, None}
use Rattle.pp_core.specs.declared.call.Style.TheVariants.{Boosted}
use Rattle.pp_core.specs.declared.status.Status.{Status}
use Rattle.pp_core.specs.declared.status.Status.TheVariants as statuses
use Rattle.pp_records.specs.Runs.{bare}
use Rattle.pp_laws_opacity.specs.Opacity.{IsOpaque}
use Rattle.pp_laws_opacity.specs.Orders.{HasOpaqueOrders}
use Rattle.pp_judge.specs.Accepted.{EachStepMeets, HasRun}
use Rattle.pp_judge.specs.Inputs.{IsFaultOf, scan}
use Rattle.pp_judge.specs.Objects.{object_of, start_of}
use Rattle.pp_judge.specs.Scans.{InputScan}
use Rattle.pp_cmd_opaque.specs.Outputs.{IsZombieText}

-- Every run of these records (there is one at most) is opaque.
abbrev pub HasOpaqueRun : InputScan → Type 0
HasOpaqueRun sc = (r : HasRun sc) →
    IsOpaque (object_of r.header.what) (start_of r.header.what) (bare r.run)

-- For each prefix of the run, one sequence of all its transactions and attempts explains what they
-- saw. It has the committed transactions in commit order, and it respects real time.
abbrev pub HasOrderedRun : InputScan → Type 0
HasOrderedRun sc = (r : HasRun sc) →
    HasOpaqueOrders (object_of r.header.what) (start_of r.header.what) (bare r.run)

-- The text is that of the first zombie of every run of these records.
abbrev pub IsFirstZombie : InputScan → List ℕ → Type 0
IsFirstZombie sc text = (r : HasRun sc) → IsZombieText r.header.what r.run text

-- The input has no fault, and its start and each of its steps meet their criteria.
abbrev pub MeetsAll : List ℕ → Type 0
MeetsAll bytes = IsFaultOf (scan bytes) None × EachStepMeets (scan bytes)

-- The status is accepted exactly if the input has no fault, its start and each of its steps meet
-- their criteria, and its run is opaque.
abbrev pub IsOpaqueExactly : List ℕ → Status → Type 0
IsOpaqueExactly bytes status = (status ≡ statuses.Accepted)
    ↔ (MeetsAll bytes × HasOpaqueRun (scan bytes))

-- If the start and each step meet their criteria in style boosted, the run is opaque.
abbrev pub IsBoostedOpaque : InputScan → Type 0
IsBoostedOpaque sc = (m : EachStepMeets sc) → m.header.what.style ≡ Boosted → HasOpaqueRun sc
