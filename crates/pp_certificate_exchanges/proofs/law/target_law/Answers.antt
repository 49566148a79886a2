use Rattle.pp_certificate_exchanges.proofs.Targets.{targets}
use Rattle.pp_certificate_exchanges.proofs.law.target_law.Goals as goal

pub returns : goal.returns
returns g c = targets g.S.Spec.object g.met.S.Spec.lawful
