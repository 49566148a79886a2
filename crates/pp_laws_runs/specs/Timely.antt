-- Meaning: an accepted input respects real time by its lines.
use Rattle.std.specs.Prelude.{ℕ, List}
use Rattle.pp_core.specs.declared.status.Status.TheVariants as statuses
use Rattle.pp_input.specs.declared.limits.Limits.{Limits}
use Rattle.pp_judge.specs.Accepted.{EachStepMeets, HasRun}
use Rattle.pp_judge.specs.Inputs.{scan, scan_within}
use Rattle.pp_judge.specs.Objects.{start_of}
use Rattle.pp_judge.specs.Reports.{IsCertified}
use Rattle.pp_judge.specs.Scans.{InputScan}
use Rattle.pp_laws_runs.specs.Lines.{LinesNeverFall, LinesRise, RespectsLines}

-- There is a run, and every run of these records (there is one at most) respects real time by its
-- lines.
abbrev pub IsTimely : InputScan → Type 0
IsTimely sc = HasRun sc × ((r : HasRun sc) → RespectsLines (start_of r.header.what) r.run)

-- The lines of the records of an input rise, whatever its limits are.
abbrev pub RisingLaw : Type 0
RisingLaw = (limits : Limits) (bytes : List ℕ) → LinesRise (scan_within limits bytes).records

-- A scan whose lines never fall is timely if each step meets its criteria, however many steps there
-- are.
abbrev pub TimelyLaw : Type 0
TimelyLaw = (sc : InputScan) → LinesNeverFall sc.records → EachStepMeets sc → IsTimely sc

-- An input is timely if `certify` accepts it.
abbrev pub CertifiedTimelyLaw : Type 0
CertifiedTimelyLaw = (bytes text : List ℕ) → IsCertified bytes statuses.Accepted text →
    IsTimely (scan bytes)
