-- Lists that are filtered, cut and changed.
use Rattle.std.specs.Prelude.{◌≡◌, ◌≤◌, Bool, true, false, cond, ◌&&◌, ◌||◌, ◌+◌, ℕ, List, [], ◌∷◌, ◌++◌, drop, filter, length, map, take}
use Rattle.std.specs.List.{list_any}
use Rattle.std.proofs.Common.{refl, sym, ap, ◌∙◌, arith, length-append, take-append-drop}
use Rattle.std.proofs.Math.Seq.{take-append_seam, drop-append_seam}
use Rattle.std.proofs.lemmas.List.Elements.{filter-append}
use Rattle.pp_laws_summary.proofs.AtPlace.{filter_twice}
use Rattle.pp_laws_summary.proofs.Relog.{filter_map, filter_same, filter_within}

-- A conjunction may be turned.
and_turned : (a b : Bool) → (a && b) ≡ (b && a)
and_turned true true = refl
and_turned true false = refl
and_turned false true = refl
and_turned false false = refl

-- Two filters may be turned.
pub filters_turned : {A : Type 0} (p q : A → Bool) (l : List A) → filter p (filter q l) ≡ filter q (filter p l)
filters_turned {A} p q l = filter_twice p q l ∙ filter_same (λ (x : A). q x && p x) (λ (x : A). p x && q x) l (λ x i. and_turned (q x) (p x)) ∙ sym (filter_twice q p l)

-- A filter of what it passed changes nothing.
pub filter_again : {A : Type 0} (p : A → Bool) (l : List A) → filter p (filter p l) ≡ filter p l
filter_again p l = filter_within p p l (λ x i h. h)

-- A change that the test does not see may be turned with the filter.
pub filter_unseen : {A : Type 0} (p : A → Bool) (f : A → A) (l : List A) → ((x : A) → p (f x) ≡ p x) → filter p (map f l) ≡ map f (filter p l)
filter_unseen {A} p f l h = filter_map p f l ∙ ap (λ (w : List A). map f w) (filter_same (λ (x : A). p (f x)) p l (λ x i. h x))

cut : {A : Type 0} (p : A → Bool) (n : ℕ) (l : List A) → filter p l ≡ filter p (take n l) ++ filter p (drop n l)
cut {A} p n l = ap (λ (w : List A). filter p w) (sym (take-append-drop n l)) ∙ filter-append p (take n l) (drop n l)

-- The elements among the first n that pass a test are the first ones that pass.
pub take_passed : {A : Type 0} (p : A → Bool) (n : ℕ) (l : List A) → take (length (filter p (take n l))) (filter p l) ≡ filter p (take n l)
take_passed {A} p n l = ap (λ (w : List A). take (length (filter p (take n l))) w) (cut p n l) ∙ take-append_seam (filter p (take n l)) (filter p (drop n l))

-- The elements after the first n that pass a test are the later ones that pass.
pub drop_passed : {A : Type 0} (p : A → Bool) (n : ℕ) (l : List A) → drop (length (filter p (take n l))) (filter p l) ≡ filter p (drop n l)
drop_passed {A} p n l = ap (λ (w : List A). drop (length (filter p (take n l))) w) (cut p n l) ∙ drop-append_seam (filter p (take n l)) (filter p (drop n l))

-- A filter passes an element exactly if there is one to pass.
pub any_passed : {A : Type 0} (p : A → Bool) (l : List A) → list_any p (filter p l) ≡ list_any p l
any_passed p [] = refl
any_passed {A} p (x ∷ l) = by (p x) refl (any_passed p l)
  where
    by : (b : Bool) → p x ≡ b → list_any p (filter p l) ≡ list_any p l → list_any p (cond b (x ∷ filter p l) (filter p l)) ≡ (p x || list_any p l)
    by true e h = ap (λ (z : Bool). p x || z) h
    by false e h = h ∙ ap (λ (z : Bool). z || list_any p l) (sym e)

-- No more passes of the first elements than of all.
pub length_passed : {A : Type 0} (p : A → Bool) (n : ℕ) (l : List A) → length (filter p (take n l)) ≤ length (filter p l)
length_passed {A} p n l =
    let e : length (filter p l) ≡ length (filter p (take n l)) + length (filter p (drop n l)) = ap (λ (w : List A). length w) (cut p n l) ∙ length-append (filter p (take n l)) (filter p (drop n l)) in
    omega arith
