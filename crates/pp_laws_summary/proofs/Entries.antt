-- Which ids are in a local log, and what is allowed of its operations.
use Rattle.std.specs.Prelude.{◌≡◌, ◌≢◌, ◌⊎◌, ℕ, ◌==◌, Bool, true, false, not, ◌||◌, List, [], ◌∷◌, ◌++◌, map}
use Rattle.std.proofs.Common.{refl, sym, ap, ◌∙◌}
use Rattle.std.proofs.lemmas.Bool.{eqb-true, eq-eqb}
use Rattle.std.proofs.lemmas.Bool.Decides.{eqb_tells}
use mathlib.Core.Logic.{inl, inr}
use Rattle.pp_model.specs.Lists.{In}
use Rattle.pp_model.specs.Object.{ops}
use Rattle.pp_model.specs.Config.{LocalEntry, SharedEntry, item, shared_item, local_ops, shared_ops}
use Rattle.pp_model.specs.Serial.{has_id}
use Rattle.pp_records.specs.Expansions.{stands_in}

-- One of two is true if their disjunction is.
pub or_true : (a b : Bool) → (a || b) ≡ true → (a ≡ true) ⊎ (b ≡ true)
or_true true b e = inl refl
or_true false b e = inr e

-- A disjunction is true if its second part is.
pub or_right : (a b : Bool) → b ≡ true → (a || b) ≡ true
or_right true b e = refl
or_right false b e = e

-- An id is in L if an entry of L has it.
pub is_there : {Op : Type 0} (id : ℕ) (L : List (LocalEntry Op)) (e : LocalEntry Op) → In e L → e.id ≡ id → stands_in L id ≡ true
is_there id [] e i n = absurd i
is_there {Op} id (a ∷ L) e (inl i) n = ap (λ (b : Bool). b || stands_in L id) (eq-eqb a.id id (ap (λ (w : LocalEntry Op). w.id) (sym i) ∙ n))
is_there id (a ∷ L) e (inr i) n = or_right (a.id == id) (stands_in L id) (is_there id L e i n)

-- An id that is in L is that of an entry.
pub entry_in : {Op : Type 0} (id : ℕ) (L : List (LocalEntry Op)) → stands_in L id ≡ true → (e : LocalEntry Op) × In e L × (e.id ≡ id)
entry_in id [] h = absurd (cc)
entry_in id (a ∷ L) h = elim (or_true (a.id == id) (stands_in L id) h) [
  | inl k ↦ (a, inl refl, eqb-true a.id id k)
  | inr k ↦ let r = entry_in id L k in (r.0, inr r.1, r.2)
]

-- An id that no entry of L has is not in L.
pub not_there : {Op : Type 0} (id : ℕ) (L : List (LocalEntry Op)) → ((e : LocalEntry Op) → In e L → e.id ≡ id → ⊥) → stands_in L id ≡ false
not_there id L n = go (stands_in L id) refl
  where
    go : (b : Bool) → stands_in L id ≡ b → stands_in L id ≡ false
    go true e = let r = entry_in id L e in absurd (n r.0 r.1 r.2)
    go false e = e

-- An entry of another id does not change whether an id is in L.
pub stands_in-snoc : {Op : Type 0} (id : ℕ) (L : List (LocalEntry Op)) (e : LocalEntry Op) → e.id ≢ id → stands_in (L ++ e ∷ []) id ≡ stands_in L id
stands_in-snoc id [] e n = elim (eqb_tells e.id id) [ inl r ↦ absurd (n r.1) | inr r ↦ ap (λ (b : Bool). b || false) r.0 ]
stands_in-snoc id (a ∷ L) e n = ap (λ (b : Bool). (a.id == id) || b) (stands_in-snoc id L e n)

-- A Boolean that is not true is false.
pub was_false : (b : Bool) → not b ≡ true → b ≡ false
was_false true e = cc
was_false false e = refl

-- The items of G have the operations of G.
pub ops_items : {Op : Type 0} (G : List (SharedEntry Op)) → ops (map shared_item G) ≡ shared_ops G
ops_items [] = refl
ops_items {Op} (g ∷ G) = ap (λ (w : List Op). g.op ∷ w) (ops_items G)

-- The items of L have the operations of L.
pub ops_local : {Op : Type 0} (L : List (LocalEntry Op)) → ops (map item L) ≡ local_ops L
ops_local [] = refl
ops_local {Op} (e ∷ L) = ap (λ (w : List Op). e.op ∷ w) (ops_local L)

-- Two numbers are equal, or not.
pub same_or_not : (a b : ℕ) → (a ≡ b) ⊎ (a ≢ b)
same_or_not a b = elim (eqb_tells a b) [ inl r ↦ inl r.1 | inr r ↦ inr r.1 ]

-- An id that is found in a list is in it.
pub has_in : (i : ℕ) (js : List ℕ) → has_id i js ≡ true → In i js
has_in i [] e = absurd (cc)
has_in i (j ∷ js) e = elim (or_true (j == i) (has_id i js) e) [ inl k ↦ inl (sym (eqb-true j i k)) | inr k ↦ inr (has_in i js k) ]

-- An id that is in a list is found.
pub in_has : (i : ℕ) (js : List ℕ) → In i js → has_id i js ≡ true
in_has i [] h = absurd h
in_has i (j ∷ js) (inl e) = ap (λ (b : Bool). b || has_id i js) (eq-eqb j i (sym e))
in_has i (j ∷ js) (inr h) = or_right (j == i) (has_id i js) (in_has i js h)
