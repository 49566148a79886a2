-- What is looked at of logs, one more at a time.
use Rattle.std.proofs.Common.{◌≡◌, ◌≤◌, ◌<◌, ◌+◌, ◌==◌, ℕ, suc, true, false, List, [], ◌∷◌}
use Rattle.std.proofs.Common.{◌++◌, length, map, take, Option, Some, None, is_some, position, get_or, sym}
use Rattle.std.proofs.Common.{ap, subst, ◌∙◌, arith, inl, inr, take-suc}
use Rattle.std.specs.List.{slice_get}
use Rattle.std.proofs.lemmas.Bool.{cases_lt}
use Rattle.std.proofs.lemmas.Option.{get_or_from_slice_get, same_Some}
use Rattle.pp_core.specs.declared.entry.LocalEntry.{LocalEntry}
use Rattle.pp_core.specs.declared.entry.SharedEntry.{SharedEntry}
use Rattle.pp_records.specs.Expansions.{stands_in}
use Rattle.pp_model.specs.Config.{Unpushed, is_mark, shared_item}
use Rattle.pp_model.specs.Object.{HasDistinctIds}
use Rattle.pp_styles.specs.Knowing.{HoldsPositions}
use Rattle.pp_styles.proofs.Standing.{standing}
use Rattle.pp_styles.proofs.Taking.{with_position, without_position}

-- one id more stands in a local log
pub stands_next : {Op : Type 0} (ids : List ℕ) (l : List (LocalEntry Op)) (from at d : ℕ) (r : Option ℕ) → r ≡ position (λ e. e.id == get_or ids at d) l → is_some r ≡ true →
    ((i id : ℕ) → from ≤ i → i < at → slice_get ids i ≡ Some id → stands_in l id ≡ true) →
    (i id : ℕ) → from ≤ i → i < at + 1 → slice_get ids i ≡ Some id → stands_in l id ≡ true
stands_next ids l from at d r found is before i id above below here = elim (cases_lt i at) [
  | inl early ↦ before i id above early here
  | inr late ↦
      let same : i ≡ at = omega arith in
      let read : get_or ids at d ≡ id = ap (λ (n : ℕ). get_or ids n d) (sym same) ∙ get_or_from_slice_get ids i id d here in
      subst (λ (n : ℕ). stands_in l n ≡ true) read (sym (standing (get_or ids at d) l) ∙ ap is_some (sym found) ∙ is)
]

-- one entry more is not unpushed
pub pushed_next : {Op : Type 0} (l : List (LocalEntry Op)) (from at : ℕ) (f : LocalEntry Op) → slice_get l at ≡ Some f → is_mark f.mark Unpushed ≡ false →
    ((i : ℕ) (e : LocalEntry Op) → from ≤ i → i < at → slice_get l i ≡ Some e → is_mark e.mark Unpushed ≡ false) →
    (i : ℕ) (e : LocalEntry Op) → from ≤ i → i < at + 1 → slice_get l i ≡ Some e → is_mark e.mark Unpushed ≡ false
pushed_next {Op} l from at f there off before i e above below here = elim (cases_lt i at) [
  | inl early ↦ before i e above early here
  | inr late ↦
      let same : i ≡ at = omega arith in
      let read : f ≡ e = same_Some f e (sym there ∙ ap (λ (n : ℕ). slice_get l n) (sym same) ∙ here) in
      subst (λ (g : LocalEntry Op). is_mark g.mark Unpushed ≡ false) read off
]

-- The first i + 1 elements are the first i and the one at position i.
pub take_next : (xs : List ℕ) (i d : ℕ) → i < length xs → take (i + 1) xs ≡ take i xs ++ get_or xs i d ∷ []
take_next xs i d below = ap (λ (n : ℕ). take n xs) one_more ∙ take-suc xs i d below
  where
    one_more : i + 1 ≡ suc i
    one_more = omega arith

module _ {Op : Type 0} (G : List (SharedEntry Op)) (d : HasDistinctIds (map shared_item G)) (ids at : List ℕ) (i e : ℕ) (below : i < length ids) (h : HoldsPositions (take i ids) G at) where
  -- one id more has its position among those that are kept
  pub position_next : (q : ℕ) → Some q ≡ position (λ g. g.id == get_or ids i e) G → HoldsPositions (take (i + 1) ids) G (at ++ q ∷ [])
  position_next q found =
      subst (λ (w : List ℕ). HoldsPositions w G (at ++ q ∷ [])) (sym (take_next ids i e below))
      (with_position G d (take i ids) at (get_or ids i e) q h (sym found))

  -- If the next id is not in the shared log, the positions kept are those of one more id.
  pub no_position_next : None ≡ position (λ g. g.id == get_or ids i e) G → HoldsPositions (take (i + 1) ids) G at
  no_position_next none =
      subst (λ (w : List ℕ). HoldsPositions w G at) (sym (take_next ids i e below))
      (without_position G d (take i ids) at (get_or ids i e) h (sym none))
