use Rattle.std.proofs.Common.{◌≡◌, ◌≤◌, ◌<◌, ◌+◌, true, arith, rules, sym, subst}
use Rattle.std.proofs.lemmas.Result.{IfErr-weaker, IfOk-weaker}
use Rattle.std.specs.Prelude.{IfErr, Some}
use Rattle.pp_input.specs.Lines.{NumberedLine, blank}
use Rattle.pp_input_reader.specs.Takers.{IfFault}
use Rattle.pp_input_reader.proofs.Takers.{if_fault, if_ok_two}
use Rattle.pp_judge.specs.Progresses.{CostsOn, HasFaultOn, IsNextLine, LeadsTo, lines_of}
use Rattle.pp_judge.proofs.Examining.{costs_on, leads_on, next_line, stops_on, takes_on}
use Rattle.pp_judge.proofs.Taking.{blank_on, header_leads, header_on, still_cost}
use Rattle.pp_judge.proofs.take.ProgressRejectionTakesLines.take.Goals as goal

-- ---- a blank line

pub with_blank-requires : goal.with_blank-requires
with_blank-requires g c =
    let line : NumberedLine = (c.args.line.now.number, c.args.line.now.text) in
    let next = next_line g.J.Judge.judging c.requires.0 c.args.ticks.now c.args.self line c.requires.1 in
    let few : line.0 < 4_294_967_295 = next.next in
    let below : lines_of c.args.self < 4_294_967_295 = omega (arith, next.number, few) in
    below

pub returns-then-is_blank-clause-ok : goal.returns-then-is_blank-clause-ok
returns-then-is_blank-clause-ok g c =
    let line : NumberedLine = (c.args.line.now.number, c.args.line.now.text) in
    let M = g.J.Judge.judging in
    let now = c.args.ticks.now in
    let next = next_line M c.requires.0 now c.args.self line c.requires.1 in
    let is : blank c.args.line.now.text ≡ true = search rules in
    leads_on M c.args.self line now c.with_blank.result now next (subst (λ p. LeadsTo M c.args.self line now p now) (sym c.with_blank.ensures) (blank_on M c.args.self line now is))

-- ---- the header

pub take_header-requires-clause-positive : goal.take_header-requires-clause-positive
take_header-requires-clause-positive g c =
    let line : NumberedLine = (c.args.line.now.number, c.args.line.now.text) in
    let next = next_line g.J.Judge.judging c.requires.0 c.args.ticks.now c.args.self line c.requires.1 in
    omega (arith, next.number)

pub returns-in-Waiting-clause-ok : goal.returns-in-Waiting-clause-ok
returns-in-Waiting-clause-ok g c =
    let line : NumberedLine = (c.args.line.now.number, c.args.line.now.text) in
    let M = g.J.Judge.judging in
    let now = c.args.ticks.now in
    let new = c.take_header.new.ticks in
    let next = next_line M c.requires.0 now c.args.self line c.requires.1 in
    takes_on M c.args.self line now new c.take_header.result next
    (if_ok_two c.take_header.result _ _ _ (λ p covers count. subst (λ from. LeadsTo M from line now p new) (sym c.in-Waiting.is)
    (header_leads M _ line now p new (subst (λ from. IsNextLine M from line now) c.in-Waiting.is next) covers count)) c.take_header.ensures.ok c.take_header.ensures.lines)

pub returns-in-Waiting-clause-stop : goal.returns-in-Waiting-clause-stop
returns-in-Waiting-clause-stop g c =
    let line : NumberedLine = (c.args.line.now.number, c.args.line.now.text) in
    let M = g.J.Judge.judging in
    let now = c.args.ticks.now in
    stops_on M g.met.J.Judge.laws c.args.self line now c.take_header.result
    (IfErr-weaker c.take_header.result _ _ (λ stop told. if_fault stop _ _ (λ at cause said. (
      said.0,
      subst (λ from. HasFaultOn M from line now cause) (sym c.in-Waiting.is) (header_on M (λ s n. M.IsFault s (Some (line.0, cause))) 0 line now said.1),
    )) told) c.take_header.ensures.stop)

pub returns-in-Waiting-clause-cost : goal.returns-in-Waiting-clause-cost
returns-in-Waiting-clause-cost g c =
    let line : NumberedLine = (c.args.line.now.number, c.args.line.now.text) in
    let M = g.J.Judge.judging in
    let now = c.args.ticks.now in
    let new = c.take_header.new.ticks in
    costs_on M c.args.self line now new c.take_header.result (subst (λ from. CostsOn M from line now new) (sym c.in-Waiting.is) (header_on M (λ s n. M.AtMost s n new) 0 line now c.take_header.ensures.most))

-- ---- a record

pub take_record-requires-clause-next : goal.take_record-requires-clause-next
take_record-requires-clause-next g c =
    let line : NumberedLine = (c.args.line.now.number, c.args.line.now.text) in
    let M = g.J.Judge.judging in
    subst (λ from. IsNextLine M from line c.args.ticks.now) c.in-Running.is (next_line M c.requires.0 c.args.ticks.now c.args.self line c.requires.1)

pub returns-in-Running-clause-ok : goal.returns-in-Running-clause-ok
returns-in-Running-clause-ok g c =
    let line : NumberedLine = (c.args.line.now.number, c.args.line.now.text) in
    let M = g.J.Judge.judging in
    let now = c.args.ticks.now in
    let new = c.take_record.new.ticks in
    let next = next_line M c.requires.0 now c.args.self line c.requires.1 in
    takes_on M c.args.self line now new c.take_record.result next
    (IfOk-weaker c.take_record.result _ _ (λ p leads. subst (λ from. LeadsTo M from line now p new) (sym c.in-Running.is) leads) c.take_record.ensures.ok)

pub returns-in-Running-clause-stop : goal.returns-in-Running-clause-stop
returns-in-Running-clause-stop g c =
    let line : NumberedLine = (c.args.line.now.number, c.args.line.now.text) in
    let M = g.J.Judge.judging in
    let now = c.args.ticks.now in
    stops_on M g.met.J.Judge.laws c.args.self line now c.take_record.result
    (subst (λ from. IfErr c.take_record.result (λ stop. IfFault stop (λ at cause. (at ≡ line.0) × HasFaultOn M from line now cause))) (sym c.in-Running.is) c.take_record.ensures.stop)

pub returns-in-Running-clause-cost : goal.returns-in-Running-clause-cost
returns-in-Running-clause-cost g c =
    let line : NumberedLine = (c.args.line.now.number, c.args.line.now.text) in
    let M = g.J.Judge.judging in
    let now = c.args.ticks.now in
    let new = c.take_record.new.ticks in
    costs_on M c.args.self line now new c.take_record.result (subst (λ from. CostsOn M from line now new) (sym c.in-Running.is) c.take_record.ensures.most)

-- ---- a record after a rejection

pub pass_record-requires-clause-next : goal.pass_record-requires-clause-next
pass_record-requires-clause-next g c =
    let line : NumberedLine = (c.args.line.now.number, c.args.line.now.text) in
    let M = g.J.Judge.judging in
    (c.args.ticks.now, subst (λ from. IsNextLine M from line c.args.ticks.now) c.in-Rejected.is (next_line M c.requires.0 c.args.ticks.now c.args.self line c.requires.1))

pub returns-in-Rejected-clause-ok : goal.returns-in-Rejected-clause-ok
returns-in-Rejected-clause-ok g c =
    let line : NumberedLine = (c.args.line.now.number, c.args.line.now.text) in
    let M = g.J.Judge.judging in
    let now = c.args.ticks.now in
    let next = next_line M c.requires.0 now c.args.self line c.requires.1 in
    takes_on M c.args.self line now now c.pass_record.result next
    (IfOk-weaker c.pass_record.result _ _ (λ p on. subst (λ from. LeadsTo M from line now p now) (sym c.in-Rejected.is) (on now)) c.pass_record.ensures.ok)

pub returns-in-Rejected-clause-stop : goal.returns-in-Rejected-clause-stop
returns-in-Rejected-clause-stop g c =
    let line : NumberedLine = (c.args.line.now.number, c.args.line.now.text) in
    let M = g.J.Judge.judging in
    let now = c.args.ticks.now in
    stops_on M g.met.J.Judge.laws c.args.self line now c.pass_record.result
    (IfErr-weaker c.pass_record.result _ _ (λ stop told. if_fault stop _ _ (λ at cause said. (said.0, subst (λ from. HasFaultOn M from line now cause) (sym c.in-Rejected.is) (said.1 now))) told) c.pass_record.ensures.stop)

pub returns-in-Rejected-clause-cost : goal.returns-in-Rejected-clause-cost
returns-in-Rejected-clause-cost g c =
    let line : NumberedLine = (c.args.line.now.number, c.args.line.now.text) in
    costs_on g.J.Judge.judging c.args.self line c.args.ticks.now c.args.ticks.now c.pass_record.result (still_cost g.J.Judge.judging g.met.J.Judge.laws c.args.self line c.args.ticks.now)
