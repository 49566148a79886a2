use Rattle.std.proofs.Common.{◌≡◌, false, ap, sym, subst}
use Rattle.std.proofs.lemmas.Result.{err_from_is_err_and}
use Rattle.pp_records.specs.Records.{record_meaning}
use Rattle.pp_input.specs.Lines.{NumberedLine}
use Rattle.pp_input_reader.proofs.Takers.{if_fault}
use Rattle.pp_format_read.specs.Records.{record_of}
use Rattle.pp_judge.specs.Tallies.{IsRecordFault, is_too_many}
use Rattle.pp_judge.specs.Progresses.{LeadsTo}
use Rattle.pp_judge.specs.declared.progress.Progress.TheVariants.{Rejected}
use Rattle.pp_judge.proofs.Taking.{passed_on, refused_faulty}
use Rattle.pp_judge.proofs.Tallying.{few_begins}
use Rattle.pp_judge.proofs.take.pass_record.Goals as goal

pub returns-in_err-recorded-clause-stop : goal.returns-in_err-recorded-clause-stop
returns-in_err-recorded-clause-stop g c =
    let line : NumberedLine = (c.args.line.now.number, c.args.line.now.text) in
    let p = err_from_is_err_and c.from_residual.result c.from_residual.ensures.1 in
    rw (p.1, p.2) (if_fault c.in_err-recorded.field-0.0 _ _
    (λ at cause said. (
      said.0,
      λ now. refused_faulty g.J.Judge.judging g.met.J.Judge.laws c.args.tally (Rejected c.args.tally c.args.rejection) line now cause (λ sc old covers. covers.follows) c.requires.other
          (subst (λ most. IsRecordFault most c.args.tally (record_of c.args.tally.header line.1) cause) (ap (λ limits. limits.transactions) c.limits-most.ensures.limits) said.1),
    ))
    c.in_err-recorded.ensures.err)

pub with_record-requires-clause-begins : goal.with_record-requires-clause-begins
with_record-requires-clause-begins g c =
    let n = c.requires.next.1 in
    few_begins n.sc c.args.tally n.covers.follows

pub returns-clause-ok : goal.returns-clause-ok
returns-clause-ok g c = λ now.
    let line : NumberedLine = (c.args.line.now.number, c.args.line.now.text) in
    let M = g.J.Judge.judging in
    let r = record_meaning c.in_ok-recorded.recorded in
    subst (λ t. LeadsTo M (Rejected c.args.tally c.args.rejection) line now (Rejected t c.args.rejection) now) (sym c.with_record.ensures)
    (passed_on M g.met.J.Judge.laws c.args.tally c.args.rejection line r now c.requires.other c.in_ok-recorded.ensures.read
    (subst (λ most. is_too_many most c.args.tally (record_meaning c.in_ok-recorded.recorded) ≡ false) (ap (λ limits. limits.transactions) c.limits-most.ensures.limits) c.in_ok-recorded.ensures.few))
