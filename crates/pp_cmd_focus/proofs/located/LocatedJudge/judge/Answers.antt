use Rattle.std.proofs.Common.{ℕ, Option, ap, sym, ◌∙◌}
use Rattle.std.specs.Option.{option_or}
use Rattle.pp_core.specs.Values.{value_of}
use Rattle.pp_records.specs.Records.{record_meaning}
use Rattle.pp_cmd_focus.specs.Records.{applied_by, known, object_of_id}
use Rattle.pp_cmd_focus.specs.Subjects.{last_subject}
use Rattle.pp_cmd_focus.proofs.Knowing.{known_more, split_more}
use Rattle.pp_cmd_focus.proofs.Subjects.{same_subject}
use Rattle.pp_cmd_focus.proofs.located.LocatedJudge.judge.Goals as goal

pub returns-clause-judged : goal.returns-clause-judged
returns-clause-judged g c =
    let header = c.args.header.now in
    let r = record_meaning c.args.recorded.now in
    record {
      is = λ at before good. record {
        writable = good.writable;
        line = good.line;
        objects = λ id. c.in_ok-add_record.ensures id
            ∙ ap (λ (v : Option ℕ). option_or v (object_of_id (applied_by r) id)) (good.objects id)
            ∙ sym (known_more header before (record { line = c.args._line; what = r }) id);
        subject = c.in_ok-subject.ensures
            ∙ same_subject (value_of c.args.self.objects) (known header before) good.objects r
            ∙ sym (ap (last_subject header) (split_more before (record { line = c.args._line; what = r })));
      };
      least = λ at before good old least. tt;
    }
