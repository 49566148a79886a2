-- Proof machinery: what the summary as a judge decides about boosted runs.
use Rattle.std.specs.Prelude.{◌≡◌, ℕ, ◌+◌, ◌≤◌, Bool, true, false, List}
use Rattle.pp_core.specs.declared.call.Kind.{Kind}
use Rattle.pp_core.specs.declared.call.Style.TheVariants.{Boosted}
use Rattle.pp_records.specs.Records.{RunRecord}
use Rattle.pp_records.specs.Runs.{Records, bare}
use Rattle.pp_format_read.specs.declared.header.Header.{Header}
use Rattle.pp_model.specs.Rules.{StartMeets}
use Rattle.pp_objects.specs.declared.act.Op.{Op}
use Rattle.pp_objects.specs.Objects.{kinds_of, objects, place_of}
use Rattle.pp_summary.specs.Held.{Held, held_first}
use Rattle.pp_summary.specs.Reading.{HasRead}
use Rattle.pp_summary.specs.Sums.{count_ops}
use Rattle.pp_input.specs.Limits.{usual_limits}
use Rattle.pp_judge.specs.Judging.{Judging}
use Rattle.pp_judge.specs.Objects.{object_of, start_of}
use Rattle.pp_judge.specs.Scans.{InputScan}
use Rattle.pp_judge.specs.Tallies.{IsTallied, headed}
use Rattle.pp_judge.specs.declared.progress.Tally.{Tally}
use Rattle.pp_cmd_quick.specs.Costs.{RecordsCostAtMost, TakenCostAtLeast}
use Rattle.pp_cmd_quick.specs.Decisions.{FailsOn, quick_fault}
use Rattle.pp_cmd_quick.specs.declared.decider.Decider.{Decider}
use Rattle.pp_cmd_quick.specs.declared.decider.RejectedLine.{RejectedLine}

-- The start and the records after a header are good, and this is the Quick that took them.
pub record AreGoodBehind (header : Header) (records : Records (RunRecord Op))
    (quick : Held (List Kind) Op) : Type 0 where
  pub style : header.style ≡ Boosted
  pub shape : quick.shape ≡ kinds_of header.catalog
  pub few : quick.count ≤ 4_294_967_294
  pub read : HasRead objects place_of (kinds_of header.catalog) (start_of header) records quick

-- The limits are the usual ones. A record is good if all its steps meet their criteria. A rejection
-- is reported by its line.
abbrev pub quick_judging : Judging Decider RejectedLine
quick_judging = record {
  limits = usual_limits;
  IsGood = λ header records judge. AreGoodBehind header.what records judge.quick;
  IsRejectedBy = λ header records failed. (header.what.style ≡ Boosted)
      × FailsOn header records failed.line;
  IsFault = λ sc fault. quick_fault sc ≡ fault;
  AtMost = RecordsCostAtMost;
  GoodAtLeast = λ sc old new. old + count_ops (bare sc.records) ≤ new;
  RejectedAtLeast = TakenCostAtLeast;
}

-- The start and the records of a scan are good, and this is the Quick that took them, with its
-- counts.
pub record AreGood (sc : InputScan) (tally : Tally) (quick : Held (List Kind) Op) : Type 0 where
  pub follows : IsTallied sc tally
  pub good : AreGoodBehind tally.header sc.records quick

-- The start or a record of a scan failed on this line.
pub record HasFailed (sc : InputScan) (tally : Tally) (line : ℕ) : Type 0 where
  pub follows : IsTallied sc tally
  pub style : tally.header.style ≡ Boosted
  pub fails : FailsOn (headed follows.at tally.header) sc.records line

-- What taking the start of a header, if it has one, returns, and how it changes a new Quick.
abbrev pub StartsQuick : Header → Bool → Held (List Kind) Op → Type 0
StartsQuick header true quick =
    let kinds = kinds_of header.catalog in
    StartMeets (object_of header) (start_of header)
    × (quick ≡ held_first objects place_of kinds (start_of header))
StartsQuick header false quick = StartMeets (object_of header) (start_of header) → ⊥
