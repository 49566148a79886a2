-- Distinct ids, item by item, as the proofs of a log take them apart.
use Rattle.std.proofs.Common.{◌≡◌, ℕ, zero, suc, List, [], ◌∷◌, ◌++◌, length, refl, sym, ◌∙◌, ap}
use Rattle.std.proofs.Common.{subst, inl, inr, Some}
use Rattle.std.specs.List.{slice_get, remove}
use Rattle.pp_core.specs.declared.entry.Item.{Item}
use Rattle.pp_model.specs.Lists.{In}
use Rattle.pp_model.specs.Object.{HasDistinctIds}
use Rattle.pp_log.specs.Parts.{there}
use Rattle.pp_log.proofs.Parted.{is_at, there_at, there_off}

-- No item has this id.
abbrev pub IsNew : {Op : Type 0} → ℕ → List (Item Op) → Type 0
IsNew id [] = Unit {0}
IsNew id (e ∷ x) = (id ≡ e.id → ⊥) × IsNew id x

-- No two items have one id.
abbrev pub AreDistinct : {Op : Type 0} → List (Item Op) → Type 0
AreDistinct [] = Unit {0}
AreDistinct (e ∷ x) = IsNew e.id x × AreDistinct x

new_of : {Op : Type 0} (id : ℕ) (x : List (Item Op)) → ((q : Item Op) → In q x → id ≡ q.id → ⊥) → IsNew id x
new_of id [] h = tt
new_of id (e ∷ x) h = (h e (inl refl), new_of id x (λ q k. h q (inr k)))

not_new : {Op : Type 0} (id : ℕ) (x : List (Item Op)) (q : Item Op) → IsNew id x → In q x → id ≡ q.id → ⊥
not_new id [] q n k is = k
not_new {Op} id (e ∷ x) q n k is = elim k [ inl same ↦ n.0 (is ∙ ap (λ (d : Item Op). d.id) same) | inr later ↦ not_new id x q n.1 later is ]

-- Items with distinct ids are distinct item by item (`AreDistinct`).
pub apart : {Op : Type 0} (x : List (Item Op)) → HasDistinctIds x → AreDistinct x
apart [] h = tt
apart (e ∷ x) h = (new_of e.id x (λ q k. h e q (inl (refl, k))), apart x (λ p q k. h p q (inr k)))

-- Items that are distinct item by item have distinct ids (`HasDistinctIds`).
pub told : {Op : Type 0} (x : List (Item Op)) → AreDistinct x → HasDistinctIds x
told [] h p q k is = k
told {Op} (e ∷ x) h p q k is = elim k [ inl here ↦ not_new e.id x q h.0 here.1 (ap (λ (d : Item Op). d.id) (sym here.0) ∙ is) | inr later ↦ told x h.1 p q later is ]

-- one more item
new-push : {Op : Type 0} (id : ℕ) (x : List (Item Op)) (e : Item Op) → IsNew id x → (id ≡ e.id → ⊥) → IsNew id (x ++ e ∷ [])
new-push id [] e h n = (n, tt)
new-push id (f ∷ x) e h n = (h.0, new-push id x e h.1 n)

distinct-push : {Op : Type 0} (x : List (Item Op)) (e : Item Op) → AreDistinct x → IsNew e.id x → AreDistinct (x ++ e ∷ [])
distinct-push [] e h n = (tt, tt)
distinct-push (f ∷ x) e h n = (new-push f.id x e h.0 (λ k. n.0 (sym k)), distinct-push x e h.1 n.1)

-- Distinct ids stay distinct with one more item of a new id at the end.
pub one_more_id : {Op : Type 0} (x : List (Item Op)) (e : Item Op) → HasDistinctIds x → IsNew e.id x → HasDistinctIds (x ++ e ∷ [])
one_more_id x e h n = told (x ++ e ∷ []) (distinct-push x e (apart x h) n)

-- one item less
new_remove : {Op : Type 0} (id : ℕ) (x : List (Item Op)) (i : ℕ) → IsNew id x → IsNew id (remove x i)
new_remove id [] zero h = tt
new_remove id [] (suc i) h = tt
new_remove id (e ∷ x) zero h = h.1
new_remove id (e ∷ x) (suc i) h = (h.0, new_remove id x i h.1)

distinct_remove : {Op : Type 0} (x : List (Item Op)) (i : ℕ) → AreDistinct x → AreDistinct (remove x i)
distinct_remove [] zero h = tt
distinct_remove [] (suc i) h = tt
distinct_remove (e ∷ x) zero h = h.1
distinct_remove (e ∷ x) (suc i) h = (new_remove e.id x i h.0, distinct_remove x i h.1)

-- Distinct ids stay distinct without the item at a position.
pub one_id_less : {Op : Type 0} (x : List (Item Op)) (i : ℕ) → HasDistinctIds x → HasDistinctIds (remove x i)
one_id_less x i h = told (remove x i) (distinct_remove x i (apart x h))

-- A new id is not that of an item in the list.
pub new_not : {Op : Type 0} (id : ℕ) (v : List (Item Op)) (k : ℕ) (f : Item Op) → IsNew id v → slice_get v k ≡ Some f → id ≡ f.id → ⊥
new_not id [] k f h e is = cc
new_not id (g ∷ v) zero f h e is = let same : g ≡ f = cc in h.0 (is ∙ ap (λ (k : Item _). k.id) (sym same))
new_not id (g ∷ v) (suc k) f h e is = new_not id v k f h.1 e is

new_mid : {Op : Type 0} (id : ℕ) (u v : List (Item Op)) (e : Item Op) → IsNew id (u ++ e ∷ v) → id ≡ e.id → ⊥
new_mid id [] v e h is = h.0 is
new_mid id (g ∷ u) v e h is = new_mid id u v e h.1 is

-- If ids are distinct, an item with the id of e is at the position of e.
pub distinct_index : {Op : Type 0} (u v : List (Item Op)) (e : Item Op) (k : ℕ) (f : Item Op) → AreDistinct (u ++ e ∷ v) → slice_get (u ++ e ∷ v) k ≡ Some f → f.id ≡ e.id → k ≡ length u
distinct_index [] v e zero f h g is = refl
distinct_index [] v e (suc k) f h g is = absurd (new_not e.id v k f h.0 g (sym is))
distinct_index {Op} (d ∷ u) v e zero f h g is = let same : d ≡ f = cc in absurd (new_mid d.id u v e h.0 (ap (λ (k : Item Op). k.id) same ∙ is))
distinct_index (d ∷ u) v e (suc k) f h g is = ap suc (distinct_index u v e k f h.1 g is)

-- the ids of a place
new_there : {Op : Type 0} (place : Op → ℕ) (p id : ℕ) (x : List (Item Op)) → IsNew id x → IsNew id (there place p x)
new_there place p id [] h = tt
new_there place p id (e ∷ x) h = elim (is_at place e p) [
  | inl k ↦ subst (IsNew id) (sym (there_at place p e x k)) (h.0, new_there place p id x h.1)
  | inr k ↦ subst (IsNew id) (sym (there_off place p e x k)) (new_there place p id x h.1)
]

-- The items of a place among distinct items are distinct.
pub distinct_there : {Op : Type 0} (place : Op → ℕ) (p : ℕ) (x : List (Item Op)) → AreDistinct x → AreDistinct (there place p x)
distinct_there place p [] h = tt
distinct_there {Op} place p (e ∷ x) h =
    let P : List (Item Op) → Type 0 = AreDistinct in
    elim (is_at place e p) [
      | inl k ↦ subst P (sym (there_at place p e x k)) (new_there place p e.id x h.0, distinct_there place p x h.1)
      | inr k ↦ subst P (sym (there_off place p e x k)) (distinct_there place p x h.1)
    ]
