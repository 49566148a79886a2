-- Proof machinery: a kind of one shape, with a test for the pairs that swap.
use Rattle.std.proofs.Common.{◌≡◌, Bool, true, false, IsTrue, List, ◌∷◌, ◌++◌, ◌↔◌, if◌then◌else◌}
use Rattle.std.proofs.Common.{Some, None, refl, sym, ◌∙◌, ap, subst}
use Rattle.pp_kind.specs.Object.{Object, IsAllowed, AllRanged, Swaps, SwapsNowhere, Refutes}
use Rattle.pp_kind.specs.Object.{IsRefutedBy, Commutes}
use Rattle.pp_kind.proofs.Lists.{commuting_swap, refuted_nowhere}

-- The pairs that the test allows to swap commute, and for each other pair the lists show that it does not swap.
pub record IsTold {State Op Undo : Type 0} (o : Object (Unit {0}) State Op Undo)
    (test : Op → Op → Bool) (lists : Op → Op → List Op × List Op) : Type 0 where
  pub refuting : (a b : Op) → o.refuting a b ≡ (if test a b then None else Some (lists a b))
  pub commutes : (a b : Op) → test a b ≡ true → Commutes o a b
  pub allowed : (a b : Op) → test a b ≡ false
      → IsAllowed o tt ((lists a b).0 ++ (a ∷ b ∷ (lists a b).1))
  pub turned : (a b : Op) → test a b ≡ false
      → IsAllowed o tt ((lists a b).0 ++ (b ∷ a ∷ (lists a b).1)) → ⊥
  pub ranged_before : (a b : Op) → IsTrue (o.ranged a) → IsTrue (o.ranged b)
      → AllRanged o (lists a b).0
  pub ranged_after : (a b : Op) → IsTrue (o.ranged a) → IsTrue (o.ranged b)
      → AllRanged o (lists a b).1

unrefuted_by : {A : Type 0} (t : Bool) (lists : A) → (if t then None else Some lists) ≡ None
    → t ≡ true
unrefuted_by true lists e = refl
unrefuted_by false lists e = cc

module _ {State Op Undo : Type 0} (o : Object (Unit {0}) State Op Undo) (test : Op → Op → Bool)
    (lists : Op → Op → List Op × List Op) (told : IsTold o test lists) where
  refutes : (a b : Op) → test a b ≡ false → Refutes o a b (lists a b).0 (lists a b).1
  refutes a b e = record {
    allowed = λ shape f g. told.allowed a b e;
    changed = λ shape f g. told.turned a b e;
    ranged_before = told.ranged_before a b;
    ranged_after = told.ranged_after a b;
  }

  exact_by : (a b : Op) (t : Bool) → test a b ≡ t → Swaps o a b → t ≡ true
  exact_by a b true e h = refl
  exact_by a b false e h = absurd
      (told.turned a b e ((h tt).always (lists a b).0 (lists a b).1 (told.allowed a b e)))

  -- A pair swaps exactly if the test lets it.
  pub swaps_exact : (a b : Op) → (test a b ≡ true) ↔ Swaps o a b
  swaps_exact a b = (
    (λ t. commuting_swap o a b (told.commutes a b t)),
    (λ h. exact_by a b (test a b) refl h),
  )

  -- and else it swaps nowhere
  pub swaps_nowhere : (a b : Op) → test a b ≡ false → SwapsNowhere o a b
  swaps_nowhere a b e = refuted_nowhere o a b (lists a b) (refutes a b e)

  -- there are lists exactly for the pairs that do not swap, and they refute them
  pub unrefuted : (a b : Op) → (o.refuting a b ≡ None) ↔ Swaps o a b
  unrefuted a b = (
    (λ e. (swaps_exact a b).0 (unrefuted_by (test a b) (lists a b) (sym (told.refuting a b) ∙ e))),
    (λ h. told.refuting a b ∙ ap (λ (t : Bool). if t then None else Some (lists a b))
        ((swaps_exact a b).1 h)),
  )

  refuted_by : (a b : Op) (t : Bool) → test a b ≡ t
      → IsRefutedBy o a b (if t then None else Some (lists a b))
  refuted_by a b true e = tt
  refuted_by a b false e = refutes a b e

  -- The lists of a pair, if there are any, refute its swap.
  pub refuted : (a b : Op) → IsRefutedBy o a b (o.refuting a b)
  refuted a b = subst (IsRefutedBy o a b) (sym (told.refuting a b)) (refuted_by a b (test a b) refl)
