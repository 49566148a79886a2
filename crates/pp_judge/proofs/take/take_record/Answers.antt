use Rattle.std.proofs.Common.{◌≡◌, false, sym, subst, ◌∙◌, ap}
use Rattle.std.proofs.lemmas.Result.{err_from_is_err_and}
use Rattle.pp_records.specs.Records.{record_meaning}
use Rattle.pp_input.specs.Lines.{NumberedLine}
use Rattle.pp_input_reader.proofs.Takers.{if_fault}
use Rattle.pp_format_read.specs.Records.{record_of}
use Rattle.pp_judge.specs.Tallies.{IsRecordFault, is_too_many}
use Rattle.pp_judge.specs.Progresses.{LeadsTo, progress_of}
use Rattle.pp_judge.specs.declared.progress.Progress.TheVariants.{Running}
use Rattle.pp_judge.proofs.Taking.{record_cost, record_on, refused_faulty, still_cost}
use Rattle.pp_judge.proofs.Tallying.{few_begins}
use Rattle.pp_format_write.proofs.StepsRead.{is_statable}
use Rattle.pp_judge.proofs.take.take_record.Goals as goal

pub returns-in_err-recorded-clause-stop : goal.returns-in_err-recorded-clause-stop
returns-in_err-recorded-clause-stop g c =
    let line : NumberedLine = (c.args.line.now.number, c.args.line.now.text) in
    let p = err_from_is_err_and c.from_residual.result c.from_residual.ensures.1 in
    rw (p.1, p.2) (if_fault c.in_err-recorded.field-0.0 _ _
    (λ at cause said. (
      said.0,
      refused_faulty g.J.Judge.judging g.met.J.Judge.laws c.args.tally (Running c.args.tally c.args.judge) line c.args.ticks.now cause (λ sc old covers. covers.follows) c.requires.other
          (subst (λ most. IsRecordFault most c.args.tally (record_of c.args.tally.header line.1) cause) (ap (λ limits. limits.transactions) c.limits-most.ensures.limits) said.1),
    ))
    c.in_err-recorded.ensures.err)

pub returns-in_err-recorded-clause-most : goal.returns-in_err-recorded-clause-most
returns-in_err-recorded-clause-most g c =
    still_cost g.J.Judge.judging g.met.J.Judge.laws (Running c.args.tally c.args.judge) (c.args.line.now.number, c.args.line.now.text) c.args.ticks.now

pub with_record-requires-clause-begins : goal.with_record-requires-clause-begins
with_record-requires-clause-begins g c = few_begins c.requires.next.sc c.args.tally c.requires.next.covers.follows

pub returns-clause-ok : goal.returns-clause-ok
returns-clause-ok g c =
    let line : NumberedLine = (c.args.line.now.number, c.args.line.now.text) in
    let M = g.J.Judge.judging in
    let r = record_meaning c.in_ok-recorded.recorded in
    let judged = c.in_ok-judged.judged in
    let now = c.args.ticks.now in
    let new = c.judge.new.ticks in
    subst (λ p. LeadsTo M (Running c.args.tally c.args.judge) line now p new) (sym (c.progress_of.ensures ∙ ap (λ t. progress_of t judged) c.with_record.ensures))
    (record_on M c.args.tally c.args.judge line r now new c.requires.other c.in_ok-recorded.ensures.read
    (subst (λ most. is_too_many most c.args.tally (record_meaning c.in_ok-recorded.recorded) ≡ false) (ap (λ limits. limits.transactions) c.limits-most.ensures.limits) c.in_ok-recorded.ensures.few) judged c.in_ok-judged.ensures.judged c.judge.ensures.most)

pub returns-clause-most : goal.returns-clause-most
returns-clause-most g c =
    let line : NumberedLine = (c.args.line.now.number, c.args.line.now.text) in
    record_cost g.J.Judge.judging c.args.tally c.args.judge line (record_meaning c.in_ok-recorded.recorded) c.args.ticks.now c.judge.new.ticks c.requires.other c.in_ok-recorded.ensures.read
    (subst (λ most. is_too_many most c.args.tally (record_meaning c.in_ok-recorded.recorded) ≡ false) (ap (λ limits. limits.transactions) c.limits-most.ensures.limits) c.in_ok-recorded.ensures.few) c.judge.ensures.most

pub judge-requires-clause-statable : goal.judge-requires-clause-statable
judge-requires-clause-statable g c =
    is_statable c.args.tally.header c.args.line.now.text (record_meaning c.in_ok-recorded.recorded) c.in_ok-recorded.ensures.read
