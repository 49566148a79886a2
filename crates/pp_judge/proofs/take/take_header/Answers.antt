use Rattle.std.proofs.Common.{◌≡◌, Ok, sym, subst, rules}
use Rattle.pp_input.specs.Lines.{NumberedLine}
use Rattle.pp_format_read.specs.Headers.{header_of}
use Rattle.pp_judge.specs.Progresses.{Covers}
use Rattle.pp_judge.specs.Scans.{nothing, scan_line}
use Rattle.pp_judge.proofs.Taking.{header_covers, still_nothing}
use Rattle.pp_format_write.proofs.HeadersRead.{can_start}
use Rattle.pp_judge.proofs.Writable.{start_written}
use Rattle.pp_judge.proofs.take.take_header.Goals as goal

pub returns-in-Err-clause-most : goal.returns-in-Err-clause-most
returns-in-Err-clause-most g c =
    still_nothing g.J.Judge.judging g.met.J.Judge.laws (c.args.line.now.number, c.args.line.now.text) c.args.ticks.now

pub returns-clause-ok : goal.returns-clause-ok
returns-clause-ok g c =
    let line : NumberedLine = (c.args.line.now.number, c.args.line.now.text) in
    let M = g.J.Judge.judging in
    let header = c.in-Ok.header in
    let read : header_of line.1 ≡ Ok header = search rules in
    subst (λ p. Covers M (scan_line M.limits.transactions nothing line) p c.args.ticks.now c.begin.new.ticks) (sym c.progress_of.ensures)
    (header_covers M line header c.requires.positive c.args.ticks.now c.begin.new.ticks c.begin.ensures.most c.requires.other read c.in_ok-judged.judged c.in_ok-judged.ensures.judged c.in_ok-judged.ensures.least)

pub begin-requires-clause-writable : goal.begin-requires-clause-writable
begin-requires-clause-writable g c =
    let header = c.in-Ok.header in
    let read : header_of c.args.line.now.text ≡ Ok header = search rules in
    start_written header.catalog header.start (can_start c.args.line.now.text header read)
