-- An id is told to stand in a log where its place is found.
use Rattle.std.specs.Prelude.{◌≡◌, ◌==◌, eqb, ◌||◌, ℕ, Bool, true, false, cond, List, [], ◌∷◌}
use Rattle.std.specs.Prelude.{zero, suc, position, find, slice_get, is_some, Option, Some, None}
use Rattle.std.proofs.Common.{refl, ap, sym, ◌∙◌}
use Rattle.std.proofs.Math.Bool.{or-true}
use Rattle.std.proofs.lemmas.Bool.{eq-eqb}
use Rattle.std.proofs.lemmas.Option.{same_Some}
use Rattle.pp_model.specs.Config.{LocalEntry}
use Rattle.pp_model.proofs.Finding.{place_found, place_none, place_there}
use Rattle.pp_records.specs.Expansions.{stands_in}

module _ {Op : Type 0} (i : ℕ) where
  told : (l : List (LocalEntry Op)) → is_some (find (λ e. e.id == i) l) ≡ stands_in l i
  told [] = refl
  told (e ∷ l) = step (eqb e.id i) e (find (λ (e : LocalEntry Op). e.id == i) l) (stands_in l i) (told l)
    where
      step : (b : Bool) (e : LocalEntry Op) (o : Option (LocalEntry Op)) (r : Bool) → is_some o ≡ r → is_some (cond b (Some e) o) ≡ (b || r)
      step true e o r h = refl
      step false e o r h = h

  by_entry : (l : List (LocalEntry Op)) (k : ℕ) (o : Option (LocalEntry Op)) → slice_get l k ≡ o → position (λ e. e.id == i) l ≡ Some k → true ≡ is_some (find (λ e. e.id == i) l)
  by_entry l k None h p = absurd (place_there (λ (e : LocalEntry Op). e.id == i) l k p h)
  by_entry l k (Some e) h p = ap (λ (w : Option (LocalEntry Op)). is_some w) (sym (place_found (λ (e : LocalEntry Op). e.id == i) l k e p h))

  by_place : (l : List (LocalEntry Op)) (o : Option ℕ) → position (λ e. e.id == i) l ≡ o → is_some o ≡ is_some (find (λ e. e.id == i) l)
  by_place l None p = ap (λ (w : Option (LocalEntry Op)). is_some w) (sym (place_none (λ (e : LocalEntry Op). e.id == i) l p))
  by_place l (Some k) p = by_entry l k (slice_get l k) refl p

  -- An id is in a local log exactly if its position is found there.
  pub standing : (l : List (LocalEntry Op)) → is_some (position (λ e. e.id == i) l) ≡ stands_in l i
  standing l = by_place l (position (λ (e : LocalEntry Op). e.id == i) l) refl ∙ told l

  -- and where an entry of it is seen
  pub stands_there : (l : List (LocalEntry Op)) (k : ℕ) (e : LocalEntry Op) → slice_get l k ≡ Some e → e.id ≡ i → stands_in l i ≡ true
  stands_there [] k e there is = absurd (cc)
  stands_there (f ∷ l) zero e there is =
      ap (λ (b : Bool). b || stands_in l i) (eq-eqb f.id i (ap (λ (g : LocalEntry Op). g.id) (same_Some f e there) ∙ is))
  stands_there (f ∷ l) (suc k) e there is = ap (λ (b : Bool). (f.id == i) || b) (stands_there l k e there is) ∙ or-true (f.id == i)
