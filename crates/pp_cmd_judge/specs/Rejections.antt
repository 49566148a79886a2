-- Proof machinery: what a judge knows of a run of which the start or a step is rejected.
use Rattle.std.specs.Prelude.{ℕ, suc, ◌++◌}
use Rattle.std.proofs.Common.{sym, subst, append_assoc}
use Rattle.pp_records.specs.Records.{RunRecord}
use Rattle.pp_records.specs.Runs.{IsRun, Lined, LinedSteps, Records, bare}
use Rattle.pp_format_read.specs.declared.header.Header.{Header}
use Rattle.pp_model.specs.Rules.{IsVerdict, Rejected}
use Rattle.pp_objects.specs.declared.act.Op.{Op}
use Rattle.pp_report.specs.Reports.{IsDetailNamed}
use Rattle.pp_judge.specs.Objects.{object_of, start_of, translation_of}
use Rattle.pp_judge.specs.Running.{IsRejectionOf}
use Rattle.pp_judge.specs.declared.driven.Rejection.{Rejection}

-- The run of these records, and of these with any more after them, ends with the step that is
-- rejected so.
pub record IsRejectedBehind (header : Lined Header) (records : Records (RunRecord Op))
    (rejection : Rejection) : Type 0 where
  pub run : LinedSteps Op
  -- its number in the run, where 0 is the start, and that of its first violated criterion, from 0
  pub number : ℕ
  pub criterion : ℕ
  pub is : IsRejectionOf header.what header.line run number (suc criterion) rejection
  -- the objects that its evidence names are those of the header
  pub named : IsDetailNamed header.what.catalog rejection.detail
  pub verdict : IsVerdict (object_of header.what) (start_of header.what) (bare run)
      (Rejected number (suc criterion))
  pub stays : (more : Records (RunRecord Op)) → IsRun (object_of header.what)
      (translation_of header.what) (start_of header.what) (records ++ more) run

-- records after the rejected step change nothing
pub rejected_stays : (h : Lined Header) (rs more : Records (RunRecord Op)) (rejection : Rejection) →
    IsRejectedBehind h rs rejection → IsRejectedBehind h (rs ++ more) rejection
rejected_stays h rs more rejection e = record {
  run = e.run;
  number = e.number;
  criterion = e.criterion;
  is = e.is;
  named = e.named;
  verdict = e.verdict;
  stays = λ others.
      subst (λ (w : Records (RunRecord Op)). IsRun (object_of h.what) (translation_of h.what)
      (start_of h.what) w e.run) (sym (append_assoc rs more others)) (e.stays (more ++ others));
}
