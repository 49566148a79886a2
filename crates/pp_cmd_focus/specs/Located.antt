-- Proof machinery: what the judge that takes every record says of runs.
use Rattle.std.specs.Prelude.{◌≡◌, ℕ}
use Rattle.pp_core.specs.Values.{value_of}
use Rattle.pp_records.specs.Records.{RunRecord}
use Rattle.pp_records.specs.Runs.{Lined, Records}
use Rattle.pp_objects.specs.declared.act.Op.{Op}
use Rattle.pp_format_read.specs.declared.header.Header.{Header}
use Rattle.pp_format_write.specs.Statable.{IsWritableStart}
use Rattle.pp_judge.specs.Judging.{Judging}
use Rattle.pp_cmd_judge.specs.Inputs.{judge_limits}
use Rattle.pp_cmd_focus.specs.Records.{known, split_last}
use Rattle.pp_cmd_focus.specs.Subjects.{last_subject}
use Rattle.pp_cmd_focus.specs.declared.located.Located.{Located}
use Rattle.pp_cmd_focus.specs.declared.located.Never.{Never}

-- what is known after a header and these records
pub record IsLocated (header : Lined Header) (records : Records (RunRecord Op))
    (located : Located) : Type 0 where
  pub writable : IsWritableStart header.what.catalog header.what.start
  pub line : located.line ≡ header.line
  pub objects : (id : ℕ) → value_of located.objects id ≡ known header.what records id
  pub subject : located.subject ≡ last_subject header.what (split_last records)

-- Every record is good, the fault is that of the scan, and the counter stays.
abbrev pub located_judging : Judging Located Never
located_judging = record {
  limits = judge_limits;
  IsGood = IsLocated;
  IsRejectedBy = λ header records rejection. ⊥;
  IsFault = λ sc fault. sc.fault ≡ fault;
  AtMost = λ sc old new. new ≡ old;
  GoodAtLeast = λ sc old new. Unit {0};
  RejectedAtLeast = λ sc old new. Unit {0};
}
