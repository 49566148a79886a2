use Rattle.std.proofs.Common.{[], subst, sym}
use Rattle.pp_judge.specs.Tallies.{headed}
use Rattle.pp_cmd_judge.specs.Engines.{Starts}
use Rattle.pp_cmd_judge.specs.StyleJudging.{IsGoodBy}
use Rattle.pp_cmd_judge.proofs.RunJudging.{begun_bad, begun_bad_least, begun_good, begun_good_least, begun_most, rises_twice}
use Rattle.pp_cmd_judge.proofs.run_judge.RunJudge.begin.Goals as goal

pub reject_start-requires-clause-bad : goal.reject_start-requires-clause-bad
reject_start-requires-clause-bad g c = subst (λ b. Starts g.E.Engine.engine c.args.header.now b c.in_ok-engine.engine) c.if-good.false c.in_ok-engine.ensures.starts

-- ---- a good start

pub returns-then-good-clause-judged : goal.returns-then-good-clause-judged
returns-then-good-clause-judged g c =
    let W = g.E.Engine.engine in
    let header = c.args.header.now in
    let started = subst (λ b. Starts W header b c.in_ok-engine.engine) c.if-good.true c.in_ok-engine.ensures.starts in
    subst (λ judge. IsGoodBy (headed c.args.line header) [] judge) (sym c.wrap.ensures) (begun_good W g.met.E.Engine.laws c.args.line header c.requires.style c.in_ok-engine.engine started)

pub returns-then-good-clause-most : goal.returns-then-good-clause-most
returns-then-good-clause-most g c = begun_most g.E.Engine.engine g.met.E.Engine.laws c.args.line c.args.header.now c.requires.style c.args.ticks.now c.start.new.ticks (c.start.ensures.most c.args.line)

pub returns-then-good-clause-least : goal.returns-then-good-clause-least
returns-then-good-clause-least g c = let header = c.args.header.now in begun_good_least header.style c.args.line header c.args.ticks.now c.start.new.ticks c.start.ensures.rises

pub returns-in_err-engine-clause-most : goal.returns-in_err-engine-clause-most
returns-in_err-engine-clause-most g c = begun_most g.E.Engine.engine g.met.E.Engine.laws c.args.line c.args.header.now c.requires.style c.args.ticks.now c.start.new.ticks (c.start.ensures.most c.args.line)

-- ---- a bad one

pub returns-in_ok-rejection-clause-judged : goal.returns-in_ok-rejection-clause-judged
returns-in_ok-rejection-clause-judged g c =
    let W = g.E.Engine.engine in
    let header = c.args.header.now in
    let started = subst (λ b. Starts W header b c.in_ok-engine.engine) c.if-good.false c.in_ok-engine.ensures.starts in
    begun_bad W g.met.E.Engine.laws c.args.line header c.requires.style c.in_ok-engine.engine c.in_ok-rejection.rejection started c.in_ok-rejection.ensures.line c.in_ok-rejection.ensures.rejected

pub returns-in_ok-rejection-clause-most : goal.returns-in_ok-rejection-clause-most
returns-in_ok-rejection-clause-most g c =
    begun_most g.E.Engine.engine g.met.E.Engine.laws c.args.line c.args.header.now c.requires.style c.args.ticks.now c.reject_start.new.ticks
    (c.in_ok-engine.ensures.again c.if-good.false c.args.line c.reject_start.new.ticks c.reject_start.ensures.bound)

pub returns-in_err-rejection-clause-most : goal.returns-in_err-rejection-clause-most
returns-in_err-rejection-clause-most g c =
    begun_most g.E.Engine.engine g.met.E.Engine.laws c.args.line c.args.header.now c.requires.style c.args.ticks.now c.reject_start.new.ticks
    (c.in_ok-engine.ensures.again c.if-good.false c.args.line c.reject_start.new.ticks c.reject_start.ensures.bound)

pub returns-in_ok-rejection-clause-least : goal.returns-in_ok-rejection-clause-least
returns-in_ok-rejection-clause-least g c =
    let header = c.args.header.now in
    begun_bad_least header.style c.args.line header c.args.ticks.now c.reject_start.new.ticks (rises_twice c.args.ticks.now c.start.new.ticks c.reject_start.new.ticks c.start.ensures.rises c.reject_start.ensures.rises)
