-- Two operations that swap in one shape that both fit swap in each shape.
use Rattle.std.proofs.Common.{◌≡◌, IsTrue, List, Option, None, Some, refl, subst}
use Rattle.pp_kind.specs.Object.{Object, IsLawful, IsRefutedBy, Swaps, SwapsIn}
use Rattle.pp_kind.proofs.Lists.{refuted_nowhere}

module _ {Shape State Op Undo : Type 0} (o : Object Shape State Op Undo) where
  -- Two operations that swap in one shape that both fit swap in each shape.
  pub swaps_everywhere : IsLawful o → (shape : Shape) (a b : Op) → IsTrue (o.fits shape a) → IsTrue (o.fits shape b) → SwapsIn o shape a b → Swaps o a b
  swaps_everywhere laws shape a b f g h = by (o.refuting a b) refl
    where
      by : (r : Option (List Op × List Op)) → o.refuting a b ≡ r → Swaps o a b
      by None e = (laws.unrefuted a b).0 e
      by (Some lists) e = absurd (refuted_nowhere o a b lists (subst (IsRefutedBy o a b) e (laws.refuted a b)) shape f g h)
