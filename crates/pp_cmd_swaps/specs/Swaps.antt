-- Meaning: what `swaps` prints for an input: for an accepted run, its certificate of exchanges.
use Rattle.std.specs.Prelude.{◌≡◌, ◌⊎◌, ◌<◌, ◌≤◌, ◌++◌, ℕ, List, codes}
use Rattle.std.specs.Fmt.{decimal}
use Rattle.pp_core.specs.Catalogs.{Objects}
use Rattle.pp_core.specs.declared.limits.TheConstants.{MOST_SWAPS}
use Rattle.pp_core.specs.declared.status.Status.{Status}
use Rattle.pp_core.specs.declared.status.Status.TheVariants as statuses
use Rattle.pp_records.specs.Runs.{bare}
use Rattle.pp_input.specs.Joined.{joined_lines}
use Rattle.pp_model.specs.Config.{Config, after}
use Rattle.pp_objects.specs.declared.act.Op.{Op}
use Rattle.pp_certificate_exchanges.specs.Exchanges.{inverted}
use Rattle.pp_certificate_exchanges.specs.Laws.{log_of, target_of}
use Rattle.pp_text.specs.Lines.{line}
use Rattle.pp_certificate_lines.specs.Laws.{lines_of}
use Rattle.pp_judge.specs.Accepted.{HasRun}
use Rattle.pp_judge.specs.Inputs.{scan}
use Rattle.pp_judge.specs.Objects.{start_of}
use Rattle.pp_judge.specs.Reports.{IsCertified}
use Rattle.pp_judge.specs.Scans.{InputScan}

-- The configuration after the run of these records.
abbrev pub config_of : {sc : InputScan} → HasRun sc → Config Op
config_of r = after (start_of r.header.what) (bare r.run)

-- how many pairs of entries of the shared log change their order on the way to its target, the
-- serial run with the uncommitted entries after it
abbrev pub inverted_in : Config Op → ℕ
inverted_in c = inverted (log_of c) (target_of c)

-- the text of a certificate: its lines, each with a byte 10 after it
abbrev pub certificate_text : Objects → Config Op → List ℕ
certificate_text catalog c = joined_lines (lines_of catalog c)

-- what is printed instead of a certificate that would have this many exchanges, more than 1,000,000
abbrev pub too_large_text : ℕ → List ℕ
too_large_text count = line (codes "toolarge swaps " ++ decimal count)

-- A certificate has at most 1,000,000 exchanges.
abbrev pub IsSmallTold : Objects → Config Op → Status → List ℕ → Type 0
IsSmallTold catalog c status text = (inverted_in c ≤ MOST_SWAPS)
    × (status ≡ statuses.Accepted) × (text ≡ certificate_text catalog c)

-- if it would have more, only their number is reported
abbrev pub IsLargeTold : Config Op → Status → List ℕ → Type 0
IsLargeTold c status text = (MOST_SWAPS < inverted_in c)
    × (status ≡ statuses.TooLarge) × (text ≡ too_large_text (inverted_in c))

-- The status and the text for a configuration of these objects.
abbrev pub IsTold : Objects → Config Op → Status → List ℕ → Type 0
IsTold catalog c status text = IsSmallTold catalog c status text ⊎ IsLargeTold c status text

-- The status and the text for an input, from the output of `certify`. A fault and a rejected run
-- have the same report. Otherwise it is what is printed for the configuration after the run.
abbrev pub IsSwapsOf : InputScan → (how : Status) → (report : List ℕ) → Status → List ℕ → Type 0
IsSwapsOf sc statuses.Accepted report status text =
    (r : HasRun sc) × IsTold r.header.what.catalog (config_of r) status text
IsSwapsOf sc statuses.Rejected report status text =
    (status ≡ statuses.Rejected) × (text ≡ report)
IsSwapsOf sc statuses.InputFault report status text =
    (status ≡ statuses.InputFault) × (text ≡ report)
IsSwapsOf sc statuses.BadWords report status text = ⊥
IsSwapsOf sc statuses.ReadFault report status text = ⊥
IsSwapsOf sc statuses.WriteFault report status text = ⊥
IsSwapsOf sc statuses.OutOfMemory report status text = ⊥
IsSwapsOf sc statuses.TooLarge report status text = ⊥

-- the status and the text of `swaps` for an input
abbrev pub IsSwaps : List ℕ → Status → List ℕ → Type 0
IsSwaps bytes status text = (how : Status) × (report : List ℕ) × IsCertified bytes how report
    × IsSwapsOf (scan bytes) how report status text
