use Rattle.pp_certificate_exchanges.proofs.Targets.{in_order}
use Rattle.pp_certificate_exchanges.proofs.law.order_law.Goals as goal

pub returns : goal.returns
returns g v = λ shape c s. in_order _ c s
