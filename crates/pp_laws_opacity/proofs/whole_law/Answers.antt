use Rattle.pp_kind.specs.Object.{rules_of}
use Rattle.std.proofs.Common.{◌++◌, subst, sym}
use Rattle.pp_model.specs.Object.{Allowed, ops}
use Rattle.pp_model.specs.Serial.{own_of}
use Rattle.pp_laws_opacity.proofs.Orders.{counted, seen_in_whole}
use Rattle.pp_laws_opacity.proofs.whole_law.Goals as goal

pub returns : goal.returns
returns g c = λ shape. record {
  sees = λ h past ss t n met run b l.
      let same = seen_in_whole (rules_of g.S.Spec.object shape) h met past ss t n run b l in (
        λ k. subst (λ w. Allowed (rules_of g.S.Spec.object shape) (w ++ ops (own_of t past))) (sym same) k,
        λ k. subst (λ w. Allowed (rules_of g.S.Spec.object shape) (w ++ ops (own_of t past))) same k,
      );
  count = λ h past. counted h past;
}
