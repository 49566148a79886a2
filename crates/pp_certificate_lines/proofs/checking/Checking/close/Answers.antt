use Rattle.std.proofs.Common.{subst}
use Rattle.pp_certificate_lines.specs.Checkings.{Covers}
use Rattle.pp_certificate_lines.specs.declared.checking.Checking.{Checking}
use Rattle.pp_certificate_lines.proofs.Checkings.{blank_closes}
use Rattle.pp_certificate_lines.proofs.checking.Checking.close.Goals as goal

pub returns-in-Before-clause-closes : goal.returns-in-Before-clause-closes
returns-in-Before-clause-closes g c = λ lines cov.
    blank_closes lines c.in-Before._checker
    (subst (λ (v : Checking). Covers lines v) c.in-Before.is cov)
