use Rattle.pp_certificate_checker.specs.Certificates.{Fresh}
use Rattle.pp_certificate_checker.proofs.Checked.{read_sound}
use Rattle.pp_certificate_checker.proofs.Own.{shows_own}
use Rattle.pp_certificate_checker.proofs.Decided.{read_once, read_some}
use Rattle.pp_certificate_checker.proofs.law.checked_law.Goals as goal

pub returns : goal.returns
returns g c = record {
  allowed = λ read lines h r. read_sound g.S.Spec.object g.met.S.Spec.lawful read 1 Fresh lines h tt
      r;
  own = λ read lines h r. shows_own g.S.Spec.object g.met.S.Spec.lawful read lines h r;
  once = λ read lines v w a b. read_once g.S.Spec.object read 1 Fresh lines v w a b;
  some = λ read lines. read_some g.S.Spec.object g.met.S.Spec.lawful read 1 Fresh lines;
}
