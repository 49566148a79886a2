use Rattle.std.proofs.Common.{subst, sym}
use Rattle.pp_machine.specs.declared.machine.Outcome.TheVariants.{Done}
use Rattle.pp_judge.specs.Running.{HasStarted}
use Rattle.pp_judge.proofs.DrivenSteps.{begun_bad, begun_good}
use Rattle.pp_judge.proofs.driven.DrivenJudge.begin.Goals as goal

pub returns-in-False-clause-judged : goal.returns-in-False-clause-judged
returns-in-False-clause-judged g c =
    let header = c.args.header.now in
    let started = subst (λ o. HasStarted header o c.in_ok-machine.machine) c.in-False.is c.in_ok-machine.ensures.starts in
    begun_bad g.W.Observer.HasSeen c.args.line c.in-False.criterion header c.in-False.detail c.in_ok-machine.machine c.in_ok-observer.observer started c.in_ok-observer.ensures

pub returns-in_ok-machine-in-Done-clause-judged : goal.returns-in_ok-machine-in-Done-clause-judged
returns-in_ok-machine-in-Done-clause-judged g c =
    let header = c.args.header.now in
    let done = subst (λ o. HasStarted header o c.in_ok-machine.machine) c.in-Done.is c.in_ok-machine.ensures.starts in
    let started = subst (λ m. HasStarted header Done m) (sym c.in_ok-machine-in-Done.ensures) done in
    begun_good g.W.Observer.HasSeen c.args.line header c.in_ok-front.front c.in_ok-machine-in-Done.machine c.in_ok-observer.observer c.in_ok-front.ensures started c.in_ok-observer.ensures
