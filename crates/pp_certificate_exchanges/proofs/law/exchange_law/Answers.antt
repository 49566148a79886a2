use Rattle.pp_certificate_exchanges.proofs.Follows.{exchanges_allowed}
use Rattle.pp_certificate_exchanges.proofs.law.exchange_law.Goals as goal

pub returns : goal.returns
returns g c = λ shape x is k r h. exchanges_allowed _ x is k r h
