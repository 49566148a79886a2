use Rattle.pp_certificate_checker.proofs.Checked.{taken_sound}
use Rattle.pp_certificate_checker.proofs.Kept.{turned, all_ranged}
use Rattle.pp_certificate_checker.proofs.law.taken_law.Goals as goal

pub returns : goal.returns
returns g c = record {
  step = λ s t line h r. taken_sound g.S.Spec.object g.met.S.Spec.lawful s line t h r;
  turned = λ shape list count is t h. turned g.S.Spec.object shape is list count t h;
  ranged = λ list is h. all_ranged g.S.Spec.object is list h;
}
