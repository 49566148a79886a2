use Rattle.std.proofs.Common.{subst}
use Rattle.pp_judge.specs.Running.{HasStarted}
use Rattle.pp_cmd_judge.proofs.Violating.{start_rejected}
use Rattle.pp_cmd_judge.proofs.rejection.reject_start.Goals as goal

pub returns-clause-rejected : goal.returns-clause-rejected
returns-clause-rejected g c =
    let header = c.args.header.now in
    start_rejected c.args.line c.in-False.criterion header c.in-False.detail c.in_ok-_machine._machine
    (subst (λ o. HasStarted header o c.in_ok-_machine._machine) c.in-False.is c.in_ok-_machine.ensures.starts)
