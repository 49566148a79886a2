use Rattle.std.proofs.Common.{None, Some}
use Rattle.pp_certificate_lines.proofs.Checkings.{named_closes}
use Rattle.pp_certificate_lines.proofs.checking.close_over.Goals as goal

pub returns-in-Some-clause-closes : goal.returns-in-Some-clause-closes
returns-in-Some-clause-closes g c =
    let shown = rw c.in-Some.is at c.in_ok-shown.ensures.shown in
    let allowed = rw c.in-Some.is at c.in_ok-shown.ensures.allowed in
    λ lines cov. named_closes lines c.args.catalog c.args.checker (Some c.in-Some.shown) shown allowed
    cov

pub returns-in-None-clause-closes : goal.returns-in-None-clause-closes
returns-in-None-clause-closes g c =
    let shown = rw c.in-None.is at c.in_ok-shown.ensures.shown in
    λ lines cov. named_closes lines c.args.catalog c.args.checker None shown tt cov
