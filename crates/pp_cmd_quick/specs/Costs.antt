-- Meaning: how far deciding an input raises the counter of operations applied or taken back.
use Rattle.std.specs.Prelude.{◌≤◌, ◌+◌, ℕ, List, Option, None, Some}
use Rattle.pp_core.specs.declared.status.Status.{Status}
use Rattle.pp_core.specs.declared.status.Status.TheVariants as statuses
use Rattle.pp_records.specs.Records.{RunRecord}
use Rattle.pp_records.specs.Runs.{Lined, Records, bare}
use Rattle.pp_format_read.specs.declared.header.Header.{Header}
use Rattle.pp_model.specs.Config.{first}
use Rattle.pp_objects.specs.Objects.{place_of}
use Rattle.pp_objects.specs.declared.act.Op.{Op}
use Rattle.pp_summary.specs.Brief.{Brief, brief}
use Rattle.pp_summary.specs.Failures.{FailsIn}
use Rattle.pp_summary.specs.Sums.{AreTried, count_ops, records_most}
use Rattle.pp_judge.specs.Costs.{OfRun, serial_length, start_at_most}
use Rattle.pp_judge.specs.Objects.{object_of, start_of, translation_of}
use Rattle.pp_judge.specs.Scans.{InputScan}

-- the brief before the first record
abbrev pub first_brief : Header → Brief Op
first_brief header = brief place_of (first (start_of header))

-- The most that the start of a header and these records cost, one by one.
abbrev pub tried_most : Header → List (RunRecord Op) → ℕ
tried_most header tried =
    start_at_most (start_of header) + records_most place_of (first_brief header) tried

-- Tried are the records after a header, up to the first that is not good, and that one. If all are
-- good, all are tried.
abbrev pub AreTriedAfter : Header → Records (RunRecord Op) → List (RunRecord Op) → Type 0
AreTriedAfter header records tried =
    AreTried (object_of header) place_of (first_brief header) (bare records) tried

-- P is true of the most that the start and the tried records cost. There is exactly one list of
-- tried records. Without a header the cost is 0.
abbrev pub OfTried : Option (Lined Header) → Records (RunRecord Op) → (ℕ → Type 0) → Type 0
OfTried None records P = P 0
OfTried (Some header) records P = (tried : List (RunRecord Op)) →
    AreTriedAfter header.what records tried → P (tried_most header.what tried)

-- The counter rises at most by this, without the serial run.
abbrev pub RecordsCostAtMost : InputScan → (old new : ℕ) → Type 0
RecordsCostAtMost sc old new = OfTried sc.header sc.records λ most. new ≤ old + most

-- The counter rises at most by this, with the serial run.
abbrev pub QuickCostsAtMost : InputScan → (old new : ℕ) → Type 0
QuickCostsAtMost sc old new = OfTried sc.header sc.records λ most.
    OfRun sc.header sc.records λ start steps. new ≤ old + most + serial_length start steps

-- P is true of the records before the one that fails. There is at most one list of them, and none
-- if the start fails.
abbrev pub OfTaken : Option (Lined Header) → Records (RunRecord Op) →
    (List (RunRecord Op) → Type 0) → Type 0
OfTaken None records P = Unit {0}
OfTaken (Some header) records P = (r : Lined (RunRecord Op)) →
    (f : FailsIn (object_of header.what) (translation_of header.what) (start_of header.what)
    records r) → P (bare f.before)

-- The counter rises by at least one for each operation before the record that fails.
abbrev pub TakenCostAtLeast : InputScan → (old new : ℕ) → Type 0
TakenCostAtLeast sc old new = OfTaken sc.header sc.records λ taken. old + count_ops taken ≤ new

-- The counter rises at least by one for each record that is an operation, and for an accepted run by
-- the length of the serial run too. For a rejected run only the records before the one that fails
-- count. Without a verdict nothing is required.
abbrev pub QuickCostsAtLeast : Status → InputScan → (old new : ℕ) → Type 0
QuickCostsAtLeast statuses.Accepted sc old new = OfRun sc.header sc.records λ start steps.
    old + count_ops (bare sc.records) + serial_length start steps ≤ new
QuickCostsAtLeast statuses.Rejected sc old new = TakenCostAtLeast sc old new
QuickCostsAtLeast statuses.BadWords sc old new = Unit {0}
QuickCostsAtLeast statuses.InputFault sc old new = Unit {0}
QuickCostsAtLeast statuses.ReadFault sc old new = Unit {0}
QuickCostsAtLeast statuses.WriteFault sc old new = Unit {0}
QuickCostsAtLeast statuses.OutOfMemory sc old new = Unit {0}
QuickCostsAtLeast statuses.TooLarge sc old new = Unit {0}
