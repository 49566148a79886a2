-- Meaning: how far judging an optimistic run raises the counter of operations applied or taken back.
use Rattle.std.specs.Prelude.{◌≤◌, ◌+◌, ℕ, List, Option, None, Some}
use Rattle.pp_records.specs.Fronts.{new_front}
use Rattle.pp_records.specs.Records.{RunRecord}
use Rattle.pp_records.specs.Runs.{Lined, Records, bare}
use Rattle.pp_format_read.specs.declared.header.Header.{Header}
use Rattle.pp_laws_summary.specs.Summary.{Summary, summary_of}
use Rattle.pp_model.specs.Config.{first}
use Rattle.pp_model.specs.Rules.{StartMeets}
use Rattle.pp_objects.specs.Objects.{kinds_of, place_of}
use Rattle.pp_objects.specs.Parts.{part_of}
use Rattle.pp_kind_parts.specs.Silent.{silent_of}
use Rattle.pp_objects.specs.declared.act.Op.{Op}
use Rattle.pp_snapshots.specs.Costs.{AreTried, records_most}
use Rattle.pp_judge.specs.Costs.{start_at_most}
use Rattle.pp_judge.specs.Objects.{object_of, start_of}
use Rattle.pp_judge.specs.Scans.{InputScan}
use Rattle.pp_cmd_judge.specs.BoostedCosts.{NoneFails, search_most}

-- the summary before the first record
abbrev pub first_summary : Header → Summary Op
first_summary header =
    summary_of place_of
    (record { front = new_front (kinds_of header.catalog); config = first (start_of header) })

-- what the start of a header and these records cost at most, one after another
abbrev pub snapshots_most : Header → List (RunRecord Op) → ℕ
snapshots_most header tried =
    start_at_most (start_of header)
    + records_most place_of part_of silent_of (first_summary header) tried

-- The tried records after a header are all up to the first that is not good, this one included, or
-- all if each is good.
abbrev pub AreTriedAfter : Header → Records (RunRecord Op) → List (RunRecord Op) → Type 0
AreTriedAfter header records tried =
    AreTried (object_of header) place_of (first_summary header) (bare records) tried

-- This is true of what the start and the tried records cost at most. Without a header nothing costs.
abbrev pub OfTriedAfter : Option (Lined Header) → Records (RunRecord Op) → (ℕ → Type 0) → Type 0
OfTriedAfter None records P = P 0
OfTriedAfter (Some header) records P = (tried : List (RunRecord Op)) →
    AreTriedAfter header.what records tried → P (snapshots_most header.what tried)

-- the counter rises at most by what the start and the tried records cost
abbrev pub SnapshotsCostAtMost : InputScan → (old new : ℕ) → Type 0
SnapshotsCostAtMost sc old new = OfTriedAfter sc.header sc.records λ most. new ≤ old + most

-- the start meets its criteria
abbrev pub HasGoodStart : Option (Lined Header) → Type 0
HasGoodStart None = Unit {0}
HasGoodStart (Some header) = StartMeets (object_of header.what) (start_of header.what)

-- The counter rises at most by what deciding the start and the records costs, if none fails. In
-- any case it rises at most by that and what the search for the step of a rejection costs.
abbrev pub OptimisticCostAtMost : InputScan → (old new : ℕ) → Type 0
OptimisticCostAtMost sc old new =
    (HasGoodStart sc.header → NoneFails sc.header sc.records → SnapshotsCostAtMost sc old new)
    × SnapshotsCostAtMost sc (old + search_most sc.records) new
