use Rattle.pp_input.specs.Lines.{NumberedLine}
use Rattle.pp_certificate_lines.proofs.Takers.{faulty_here, leads_on, next_number}
use Rattle.pp_certificate_lines.proofs.taker.CheckingTakesLines.take.Goals as goal

pub returns-in-Ok-clause-ok : goal.returns-in-Ok-clause-ok
returns-in-Ok-clause-ok g c =
    let line : NumberedLine = (c.args.line.now.number, c.args.line.now.text) in
    let taken = rw (c.in-Ok.is, c.bytes.ensures) at c.in_ok-checking.ensures.leads in
    let takes = rw (c.in-Ok.is, c.bytes.ensures) at c.in_ok-checking.ensures.taken in
    let counted = rw c.bytes.ensures at c.in_ok-checking.ensures.cost in
    leads_on c.args.self c.args.ticks.now c.take_text.new.ticks line c.in-Ok.checking
    c.take_text.ensures.bound counted takes taken

pub returns-in-Err-clause-stop : goal.returns-in-Err-clause-stop
returns-in-Err-clause-stop g c =
    let line : NumberedLine = (c.args.line.now.number, c.args.line.now.text) in
    let number = next_number c.requires.0 (c.args.self, c.args.ticks.now) line c.requires.1 in
    let refused = rw (c.in-Err.is, c.bytes.ensures) at c.in_ok-checking.ensures.leads in
    faulty_here c.args.self c.args.ticks.now line c.in-Err.why number refused
