-- Meaning: how far judging a boosted run raises the counter of operations applied or taken back.
use Rattle.std.specs.Prelude.{◌+◌, ℕ, length, Option, None, Some}
use Rattle.pp_records.specs.Records.{RunRecord}
use Rattle.pp_records.specs.Runs.{Lined, Records}
use Rattle.pp_format_read.specs.declared.header.Header.{Header}
use Rattle.pp_objects.specs.declared.act.Op.{Op}
use Rattle.pp_summary.specs.Failures.{FailsIn}
use Rattle.pp_judge.specs.Objects.{object_of, start_of, translation_of}
use Rattle.pp_judge.specs.Scans.{InputScan}
use Rattle.pp_cmd_quick.specs.Costs.{RecordsCostAtMost}

-- no record has a step that is the first to violate a criterion
abbrev pub NoneFails : Option (Lined Header) → Records (RunRecord Op) → Type 0
NoneFails None records = Unit {0}
NoneFails (Some header) records = (r : Lined (RunRecord Op)) →
    FailsIn (object_of header.what) (translation_of header.what) (start_of header.what) records r →
    ⊥

-- What the search for the step of a rejection costs at most: one for each record, and for each of
-- the 256 operations that a start may have.
abbrev pub search_most : Records (RunRecord Op) → ℕ
search_most records = length records + 256

-- The counter rises at most by what deciding the records costs, if none fails. In any case it rises
-- at most by that and what the search costs.
abbrev pub BoostedCostAtMost : InputScan → (old new : ℕ) → Type 0
BoostedCostAtMost sc old new = (NoneFails sc.header sc.records → RecordsCostAtMost sc old new)
    × RecordsCostAtMost sc (old + search_most sc.records) new
