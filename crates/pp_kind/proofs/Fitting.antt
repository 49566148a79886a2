-- Operations of an allowed list fit its shape, and lists of ranged operations.
use Rattle.std.proofs.Common.{◌≡◌, IsTrue, List, [], ◌∷◌, ◌++◌, refl, sym, ◌∙◌, subst, inl, inr}
use Rattle.pp_model.specs.Lists.{In}
use Rattle.pp_kind.specs.Object.{Object, AllowedFrom, AllRanged, IsAllowed, IsLawful}

module _ {Shape State Op Undo : Type 0} (o : Object Shape State Op Undo) where
  fits_from : IsLawful o → (shape : Shape) (s : State) (l : List Op) → o.shape s ≡ shape → AllowedFrom o s l → (a : Op) → In a l → IsTrue (o.fits shape a)
  fits_from laws shape s [] e h a i = elim i [ ]
  fits_from laws shape s (b ∷ l) e h a (inl j) = subst (λ (x : Op). IsTrue (o.fits shape x)) (sym j) (subst (λ (k : Shape). IsTrue (o.fits k b)) e h.0.0)
  fits_from laws shape s (b ∷ l) e h a (inr j) = fits_from laws shape (o.next s b) l (laws.next_shape s b h.0 ∙ e) h.1 a j

  -- each operation of an allowed list fits
  pub fits_in : IsLawful o → (shape : Shape) (l : List Op) → IsAllowed o shape l → (a : Op) → In a l → IsTrue (o.fits shape a)
  fits_in laws shape l h a i = fits_from laws shape (o.start shape) l (laws.start_shape shape) h a i

  -- Each operation of a ranged list is ranged.
  pub ranged_in : (l : List Op) → AllRanged o l → (a : Op) → In a l → IsTrue (o.ranged a)
  ranged_in [] h a i = elim i [ ]
  ranged_in (b ∷ l) h a (inl e) = subst (λ (z : Op). IsTrue (o.ranged z)) (sym e) h.0
  ranged_in (b ∷ l) h a (inr i) = ranged_in l h.1 a i

  -- A list is ranged if each of its operations is ranged.
  pub in_ranged : (l : List Op) → ((a : Op) → In a l → IsTrue (o.ranged a)) → AllRanged o l
  in_ranged [] h = tt
  in_ranged (b ∷ l) h = (h b (inl refl), in_ranged l (λ a i. h a (inr i)))

  -- A ranged list stays ranged with a ranged operation at its end.
  pub ranged_more : (l : List Op) (a : Op) → AllRanged o l → IsTrue (o.ranged a) → AllRanged o (l ++ a ∷ [])
  ranged_more [] a h r = (r, tt)
  ranged_more (b ∷ l) a h r = (h.0, ranged_more l a h.1 r)
