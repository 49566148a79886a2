use Rattle.std.proofs.Common.{arith, subst, sym}
use Rattle.pp_records.specs.Records.{record_meaning}
use Rattle.pp_judge.specs.Judging.{Judges}
use Rattle.pp_judge.specs.declared.judge.Judged.TheVariants.{Good}
use Rattle.pp_cmd_judge.specs.Engines.{Takes}
use Rattle.pp_cmd_judge.specs.StyleJudging.{style_judging}
use Rattle.pp_cmd_judge.proofs.RunJudging.{can_find, can_take, judges_bad, judges_good, judges_most, offset_fits, searched_most, steps_fit}
use Rattle.pp_cmd_judge.proofs.run_judge.RunJudge.judge.Goals as goal

-- ---- what is asked

pub count_steps-more-requires : goal.count_steps-more-requires
count_steps-more-requires g c =
    let W = g.E.Engine.engine in
    let laws = g.met.E.Engine.laws in
    let header = c.args._header.now in
    let judge = c.args.self in
    let r = record_meaning c.args.recorded.now in
    can_take W laws header judge c.requires.good r c.requires.readable c.requires.styled

pub take_record-requires : goal.take_record-requires
take_record-requires g c =
    let W = g.E.Engine.engine in
    let laws = g.met.E.Engine.laws in
    let header = c.args._header.now in
    let judge = c.args.self in
    let r = record_meaning c.args.recorded.now in
    can_take W laws header judge c.requires.good r c.requires.readable c.requires.styled

pub find_step-requires-clause-may : goal.find_step-requires-clause-may
find_step-requires-clause-may g c =
    let W = g.E.Engine.engine in
    let laws = g.met.E.Engine.laws in
    let header = c.args._header.now in
    let judge = c.args.self in
    let r = record_meaning c.args.recorded.now in
    let now = c.args.ticks.now in
    let new = c.take_record.new.ticks in
    let next = c.in_ok-engine.engine in
    let refuses = subst (λ b. Takes W judge.engine r b next now new) c.if-good.false c.in_ok-engine.ensures.takes in
    can_find W laws judge.engine r next now new (can_take W laws header judge c.requires.good r c.requires.readable c.requires.styled) refuses

pub find_step-requires-clause-refused : goal.find_step-requires-clause-refused
find_step-requires-clause-refused g c =
    let W = g.E.Engine.engine in
    let laws = g.met.E.Engine.laws in
    let header = c.args._header.now in
    let judge = c.args.self in
    let r = record_meaning c.args.recorded.now in
    let now = c.args.ticks.now in
    let new = c.take_record.new.ticks in
    let next = c.in_ok-engine.engine in
    let refuses = subst (λ b. Takes W judge.engine r b next now new) c.if-good.false c.in_ok-engine.ensures.takes in
    refuses.refused

pub overflow_add-steps : goal.overflow_add-steps
overflow_add-steps g c =
    let steps = steps_fit g.E.Engine.engine g.met.E.Engine.laws c.args._header.now c.args.self c.requires.good in
    omega (arith, c.count_steps-more.ensures.bound, steps)

pub overflow_add-result : goal.overflow_add-result
overflow_add-result g c =
    let W = g.E.Engine.engine in
    let laws = g.met.E.Engine.laws in
    let header = c.args._header.now in
    let judge = c.args.self in
    let r = record_meaning c.args.recorded.now in
    let now = c.args.ticks.now in
    let new = c.take_record.new.ticks in
    let next = c.in_ok-engine.engine in
    let refuses = subst (λ b. Takes W judge.engine r b next now new) c.if-good.false c.in_ok-engine.ensures.takes in
    let more = c.count_steps-more.result in
    let steps = steps_fit W laws header judge c.requires.good in
    let offset = offset_fits W laws header judge c.requires.good r next c.in_ok-violation.violation more now new refuses c.in_ok-violation.ensures.found c.count_steps-more.ensures.count in
    omega (arith, c.count_steps-more.ensures.bound, steps, offset)

pub overflow_add-result-else-good : goal.overflow_add-result-else-good
overflow_add-result-else-good g c =
    let W = g.E.Engine.engine in
    let laws = g.met.E.Engine.laws in
    let header = c.args._header.now in
    let judge = c.args.self in
    let r = record_meaning c.args.recorded.now in
    let now = c.args.ticks.now in
    let new = c.take_record.new.ticks in
    let next = c.in_ok-engine.engine in
    let refuses = subst (λ b. Takes W judge.engine r b next now new) c.if-good.false c.in_ok-engine.ensures.takes in
    let more = c.count_steps-more.result in
    let steps = steps_fit W laws header judge c.requires.good in
    let offset = offset_fits W laws header judge c.requires.good r next c.in_ok-violation.violation more now new refuses c.in_ok-violation.ensures.found c.count_steps-more.ensures.count in
    omega (arith, c.count_steps-more.ensures.bound, steps, offset)

-- ---- what it costs

pub returns-in_err-engine-clause-most : goal.returns-in_err-engine-clause-most
returns-in_err-engine-clause-most g c =
    let W = g.E.Engine.engine in
    let laws = g.met.E.Engine.laws in
    let header = c.args._header.now in
    let judge = c.args.self in
    let r = record_meaning c.args.recorded.now in
    judges_most W laws header judge r c.args.line c.args.ticks.now c.take_record.new.ticks c.take_record.ensures.most

pub returns-then-good-clause-most : goal.returns-then-good-clause-most
returns-then-good-clause-most g c =
    let W = g.E.Engine.engine in
    let laws = g.met.E.Engine.laws in
    let header = c.args._header.now in
    let judge = c.args.self in
    let r = record_meaning c.args.recorded.now in
    judges_most W laws header judge r c.args.line c.args.ticks.now c.take_record.new.ticks c.take_record.ensures.most

pub returns-in_err-violation-clause-most : goal.returns-in_err-violation-clause-most
returns-in_err-violation-clause-most g c =
    let W = g.E.Engine.engine in
    let laws = g.met.E.Engine.laws in
    let header = c.args._header.now in
    let judge = c.args.self in
    let r = record_meaning c.args.recorded.now in
    let now = c.args.ticks.now in
    let new = c.take_record.new.ticks in
    let next = c.in_ok-engine.engine in
    let refuses = subst (λ b. Takes W judge.engine r b next now new) c.if-good.false c.in_ok-engine.ensures.takes in
    searched_most W laws header judge r c.args.line now new next c.find_step.new.ticks refuses c.find_step.ensures.bound

pub returns-in_ok-violation-clause-most : goal.returns-in_ok-violation-clause-most
returns-in_ok-violation-clause-most g c =
    let W = g.E.Engine.engine in
    let laws = g.met.E.Engine.laws in
    let header = c.args._header.now in
    let judge = c.args.self in
    let r = record_meaning c.args.recorded.now in
    let now = c.args.ticks.now in
    let new = c.take_record.new.ticks in
    let next = c.in_ok-engine.engine in
    let refuses = subst (λ b. Takes W judge.engine r b next now new) c.if-good.false c.in_ok-engine.ensures.takes in
    searched_most W laws header judge r c.args.line now new next c.find_step.new.ticks refuses c.find_step.ensures.bound

-- ---- how the record is judged

pub returns-then-good-clause-judged : goal.returns-then-good-clause-judged
returns-then-good-clause-judged g c =
    let W = g.E.Engine.engine in
    let laws = g.met.E.Engine.laws in
    let header = c.args._header.now in
    let judge = c.args.self in
    let r = record_meaning c.args.recorded.now in
    let now = c.args.ticks.now in
    let new = c.take_record.new.ticks in
    let next = c.in_ok-engine.engine in
    let takes = subst (λ b. Takes W judge.engine r b next now new) c.if-good.true c.in_ok-engine.ensures.takes in
    subst (λ j. Judges style_judging header (W.wrap judge) r c.args.line (Good j) now new) (sym c.wrap.ensures)
    (judges_good W laws header judge r c.args.line now new next c.count_steps-more.result takes c.count_steps-more.ensures.count c.count_steps-more.ensures.bound)

pub returns-in_ok-violation-clause-judged : goal.returns-in_ok-violation-clause-judged
returns-in_ok-violation-clause-judged g c =
    let W = g.E.Engine.engine in
    let laws = g.met.E.Engine.laws in
    let header = c.args._header.now in
    let judge = c.args.self in
    let r = record_meaning c.args.recorded.now in
    let now = c.args.ticks.now in
    let new = c.take_record.new.ticks in
    let next = c.in_ok-engine.engine in
    let refuses = subst (λ b. Takes W judge.engine r b next now new) c.if-good.false c.in_ok-engine.ensures.takes in
    judges_bad W laws header judge r c.args.line now new next c.in_ok-violation.violation c.find_step.new.ticks refuses c.find_step.ensures.rises c.requires.readable c.in_ok-violation.ensures.found
