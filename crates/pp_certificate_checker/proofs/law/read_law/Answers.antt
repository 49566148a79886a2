use Rattle.pp_certificate_checker.proofs.Read.{read_on}
use Rattle.pp_certificate_checker.proofs.law.read_law.Goals as goal

pub returns : goal.returns
returns g c =
    λ read lines more n s t v h r. read_on g.S.Spec.object read more v lines n s t h r
