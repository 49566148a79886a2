-- Meaning: what an accepted run promises of its committed transactions.
use Rattle.std.specs.Prelude.{◌≡◌, ◌↔◌, ℕ, List, None, Some}
use Rattle.pp_core.specs.declared.status.Status.{Status}
use Rattle.pp_core.specs.declared.status.Status.TheVariants as statuses
use Rattle.pp_records.specs.Inputs.{steps_of}
use Rattle.pp_records.specs.Runs.{IsRun, Lined, LinedSteps, bare}
use Rattle.pp_format_read.specs.declared.header.Header.{Header}
use Rattle.pp_model.specs.Alone.{alone}
use Rattle.pp_model.specs.Config.{first}
use Rattle.pp_model.specs.Rules.{RunsFrom, StartMeets}
use Rattle.pp_model.specs.Serial.{Simulated, attempts}
use Rattle.pp_objects.specs.declared.act.Op.{Op}
use Rattle.pp_judge.specs.Inputs.{IsFaultOf, scan}
use Rattle.pp_judge.specs.Objects.{object_of, setting_of, start_of, translation_of}
use Rattle.pp_judge.specs.Scans.{InputScan}

-- The start meets its criteria, and so does each step that the records mean.
pub record EachStepMeets (sc : InputScan) : Type 0 where
  pub header : Lined Header
  pub first_line : sc.header ≡ Some header
  pub start : StartMeets (object_of header.what) (start_of header.what)
  pub steps : RunsFrom (object_of header.what) (first (start_of header.what))
      (bare (steps_of (setting_of header) sc.records))

-- The status is accepted exactly if the input has no fault and each of its steps meets its criteria.
abbrev pub IsExact : List ℕ → Status → Type 0
IsExact bytes status = (status ≡ statuses.Accepted)
    ↔ (IsFaultOf (scan bytes) None × EachStepMeets (scan bytes))

-- the header of a scan, and the run of its records
pub record HasRun (sc : InputScan) : Type 0 where
  pub header : Lined Header
  pub run : LinedSteps Op
  pub first_line : sc.header ≡ Some header
  pub steps : IsRun (object_of header.what) (translation_of header.what) (start_of header.what)
      sc.records run

-- There is a run, and in every run of these records (there is one at most) the committed
-- transactions, one after another in commit order, simulate it.
abbrev pub IsSimulated : InputScan → Type 0
IsSimulated sc = HasRun sc
    × ((r : HasRun sc) → Simulated (object_of r.header.what) (start_of r.header.what) (bare r.run))

-- The committed transactions, one after another without the others, are an accepted run with the
-- same committed transactions.
abbrev pub RunsAlone : Header → LinedSteps Op → Type 0
RunsAlone header run =
    let start = start_of header in let steps = bare run in
    RunsFrom (object_of header) (first start) (alone start steps)
    × (attempts start (alone start steps) ≡ attempts start steps)

-- There is a run, and in every run of these records the committed transactions run alone too.
abbrev pub IsAloneAccepted : InputScan → Type 0
IsAloneAccepted sc = HasRun sc × ((r : HasRun sc) → RunsAlone r.header.what r.run)
