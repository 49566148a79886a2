-- Proof machinery: the laws of the judge that takes every record.
use Rattle.std.proofs.Common.{refl, sym, ap, ◌∙◌}
use Rattle.pp_judge.specs.Judging.{JudgingLaws}
use Rattle.pp_judge.specs.Scans.{InputScan}
use Rattle.pp_cmd_focus.specs.Located.{located_judging}

pub located_laws : JudgingLaws located_judging
located_laws = record {
  not_both = λ header records judge rejection good bad. bad;
  one_fault = λ sc f g is same. sym is ∙ same;
  first_fault = λ fault. refl;
  good_fault = λ header records judge fault good. refl;
  rejected_fault = λ header records rejection fault bad. refl;
  fault_stays = λ sc wider fault w is. ap (λ (s : InputScan). s.fault) (w.fault fault is) ∙ is;
  rejection_stays = λ header records more rejection bad. bad;
  first_most = λ old. refl;
  most_widens = λ sc wider old new w same. same;
  rejected_least_stays = λ header records more rejection old new bad least. tt;
}
