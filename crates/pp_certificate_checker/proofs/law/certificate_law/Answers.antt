use Rattle.pp_certificate_checker.proofs.Written.{written}
use Rattle.pp_certificate_checker.proofs.law.certificate_law.Goals as goal

pub returns : goal.returns
returns g v = λ shape plain read write spells c sound few each. written g.S.Spec.object shape plain
    read write spells g.met.S.Spec.lawful c sound few each
