-- How long filtered lists are, and counts of places.
use Rattle.std.specs.Prelude.{◌≡◌, ◌≢◌, ◌⊎◌, ◌==◌, ◌≤◌, ◌+◌, ℕ, suc, nat_eq, Bool, true, false, cond, not, ◌&&◌, List, [], ◌∷◌, ◌++◌, filter, length, map, Some}
use Rattle.std.specs.Map.{keys_of, lookup}
use Rattle.std.proofs.Common.{refl, sym, ap, subst, ◌∙◌, arith, length-append}
use Rattle.std.proofs.lemmas.Bool.{eqb-true, eq-eqb, ne_eqb}
use Rattle.std.proofs.lemmas.Bool.Decides.{eqb_tells}
use Rattle.std.proofs.lemmas.List.{length-map}
use Rattle.std.proofs.lemmas.Option.{same_Some}
use mathlib.Core.Logic.{inl, inr}
use Rattle.pp_model.specs.Lists.{Before, In}
use Rattle.pp_model.proofs.Lists.{before_from_filter, before_from_map, from_filter, from_map, in_cases, in_filter, in_left, in_map, in_right, split_at}
use Rattle.pp_summary.specs.Seen.{HaveOwnPlaces, seen_total}
use Rattle.pp_laws_summary.proofs.Relog.{filter_within}

module _ {A : Type 0} where
  -- A list is as long as its elements that pass a test and those that do not, together.
  pub length_parts : (test : A → Bool) (l : List A) → length l ≡ length (filter test l) + length (filter (λ x. not (test x)) l)
  length_parts test [] = refl
  length_parts test (x ∷ l) = by (test x) (length_parts test l)
    where
      by : (b : Bool) → length l ≡ length (filter test l) + length (filter (λ x. not (test x)) l) →
          suc (length l) ≡ length (cond b (x ∷ filter test l) (filter test l)) + length (cond (not b) (x ∷ filter (λ y. not (test y)) l) (filter (λ y. not (test y)) l))
      by true k = omega arith
      by false k = omega arith

  -- Two filters, one after another, are one.
  pub filter_twice : (p q : A → Bool) (l : List A) → filter p (filter q l) ≡ filter (λ x. q x && p x) l
  filter_twice p q [] = refl
  filter_twice p q (x ∷ l) = by (q x) (filter_twice p q l)
    where
      by : (b : Bool) → filter p (filter q l) ≡ filter (λ y. q y && p y) l →
          filter p (cond b (x ∷ filter q l) (filter q l)) ≡ cond (b && p x) (x ∷ filter (λ y. q y && p y) l) (filter (λ y. q y && p y) l)
      by true k = ap (λ (w : List A). cond (p x) (x ∷ w) w) k
      by false k = k

  -- The elements that pass a test are as many as those that also pass a second test and those that do not, together.
  pub filter_parts : (p q : A → Bool) (l : List A) → length (filter q l) ≡ length (filter (λ x. q x && p x) l) + length (filter (λ x. q x && not (p x)) l)
  filter_parts p q l =
      let a : length (filter p (filter q l)) ≡ length (filter (λ x. q x && p x) l) = ap (λ (w : List A). length w) (filter_twice p q l) in
      let b : length (filter (λ x. not (p x)) (filter q l)) ≡ length (filter (λ x. q x && not (p x)) l) = ap (λ (w : List A). length w) (filter_twice (λ x. not (p x)) q l) in
      let c = length_parts p (filter q l) in
      omega arith

-- The numbers differ.
abbrev pub Distinct : List ℕ → Type 0
Distinct xs = (i j : ℕ) → Before i j xs → i ≢ j

-- Different numbers that are all in another list are no more than this has.
shorter : (xs ys : List ℕ) → Distinct xs → ((i : ℕ) → In i xs → In i ys) → length xs ≤ length ys
shorter [] ys distinct within = omega arith
shorter (x ∷ xs) ys distinct within =
    let s = split_at x ys (within x (inl refl)) in
    let rest : length xs ≤ length (s.0 ++ s.1) = shorter xs (s.0 ++ s.1) (λ i j b. distinct i j (inr b)) (λ q i. left s.0 s.1 q i (subst (In q) s.2 (within q (inr i)))) in
    omega (arith, rest, ap length s.2, length-append s.0 s.1, length-append s.0 (x ∷ s.1))
  where
    left : (front back : List ℕ) (q : ℕ) → In q xs → In q (front ++ x ∷ back) → In q (front ++ back)
    left front back q i there =
        elim (in_cases q front (x ∷ back) there) [
          | inl f ↦ in_left q front back f
          | inr b ↦ elim b [ inl e ↦ absurd (distinct x q (inl (refl, i)) (sym e)) | inr t ↦ in_right q front back t ]
        ]

-- Two lists of different numbers that have the same ones are equally long.
same_length : (xs ys : List ℕ) → Distinct xs → Distinct ys → ((i : ℕ) → In i xs → In i ys) → ((i : ℕ) → In i ys → In i xs) → length xs ≡ length ys
same_length xs ys d e into back =
    let a = shorter xs ys d into in
    let b = shorter ys xs e back in
    omega arith

-- The elements that pass a test are as many as the distinct ids of such elements.
pub count_ids : {A : Type 0} (id_of : A → ℕ) (test : A → Bool) (l : List A) (ids : List ℕ) → ((a b : A) → Before a b l → id_of a ≡ id_of b → ⊥) → Distinct ids →
    ((a : A) → In a l → test a ≡ true → In (id_of a) ids) → ((i : ℕ) → In i ids → (a : A) × In a l × (test a ≡ true) × (id_of a ≡ i)) → length (filter test l) ≡ length ids
count_ids {A} id_of test l ids d e into back =
    sym (length-map (filter test l) id_of)
    ∙ same_length (map id_of (filter test l)) ids
    (λ i j b s. let m = before_from_map id_of i j (filter test l) b in d m.0 m.1 (before_from_filter test m.0 m.1 l m.2) (sym m.3 ∙ s ∙ m.4))
    e
    (λ i j. let m = from_map id_of i (filter test l) j in let f = from_filter test m.0 l m.1 in subst (λ (k : ℕ). In k ids) (sym m.2) (into m.0 f.0 f.1))
    (λ i j. let b = back i j in subst (λ (k : ℕ). In k (map id_of (filter test l))) b.3 (in_map id_of b.0 (filter test l) (in_filter test b.0 l b.1 b.2)))

in_keys : (q k : ℕ) (entries : List (ℕ × ℕ)) → In (q, k) entries → In q (keys_of entries)
in_keys q k [] i = absurd i
in_keys q k (e ∷ entries) (inl h) = inl (ap (λ (p : ℕ × ℕ). p.0) h)
in_keys q k (e ∷ entries) (inr h) = inr (in_keys q k entries h)

-- A place with its count is looked up.
pub count_looked_up : (entries : List (ℕ × ℕ)) → HaveOwnPlaces entries → (q k : ℕ) → In (q, k) entries → lookup (nat_eq q) entries ≡ Some k
count_looked_up [] d q k i = absurd i
count_looked_up (e ∷ entries) d q k (inl h) =
    ap (λ (b : Bool). cond b (Some e.1) (lookup (nat_eq q) entries)) (eq-eqb q e.0 (ap (λ (p : ℕ × ℕ). p.0) h)) ∙ ap (λ (p : ℕ × ℕ). Some p.1) (sym h)
count_looked_up (e ∷ entries) d q k (inr h) =
    ap (λ (b : Bool). cond b (Some e.1) (lookup (nat_eq q) entries)) (ne_eqb q e.0 (λ s. d e.0 q (inl (refl, in_keys q k entries h)) (sym s)))
    ∙ count_looked_up entries (λ a b i. d a b (inr i)) q k h

-- A place and the count that a lookup finds for it are an entry of the list.
pub count_there : (entries : List (ℕ × ℕ)) (q k : ℕ) → lookup (nat_eq q) entries ≡ Some k → In (q, k) entries
count_there [] q k h = absurd (cc)
count_there (e ∷ entries) q k h = elim (eqb_tells q e.0) [
  | inl r ↦
      let n : e.1 ≡ k = same_Some e.1 k (sym (ap (λ (b : Bool). cond b (Some e.1) (lookup (nat_eq q) entries)) r.0) ∙ h) in
      inl (ap (λ (m : ℕ). (m, k)) r.1 ∙ ap (λ (m : ℕ). (e.0, m)) (sym n))
  | inr r ↦ inr (count_there entries q k (sym (ap (λ (b : Bool). cond b (Some e.1) (lookup (nat_eq q) entries)) r.0) ∙ h))
]

-- Elements that have a place each.
module _ {A : Type 0} (place_of : A → ℕ) where
  abbrev here : ℕ → List A → List A
  here q l = filter (λ a. place_of a == q) l

  abbrev elsewhere : ℕ → List A → List A
  elsewhere q l = filter (λ a. not (place_of a == q)) l

  same_here : (p q : ℕ) → p ≢ q → (l : List A) → here q (elsewhere p l) ≡ here q l
  same_here p q n l = filter_within (λ a. place_of a == q) (λ a. not (place_of a == p)) l
      (λ a i h. ap not (ne_eqb (place_of a) p (λ e. n (sym e ∙ eqb-true (place_of a) q h))))

  -- If the places are those of the entries, with these counts, the list has as many elements as these
  -- are together.
  pub total_is : (entries : List (ℕ × ℕ)) (l : List A) → HaveOwnPlaces entries → ((q k : ℕ) → In (q, k) entries → length (here q l) ≡ k) →
      ((a : A) → In a l → (k : ℕ) × In (place_of a, k) entries) → length l ≡ seen_total entries
  total_is [] [] d c w = refl
  total_is [] (a ∷ l) d c w = absurd ((w a (inl refl)).1)
  total_is (e ∷ entries) l d c w =
      let first : length (here e.0 l) ≡ e.1 = c e.0 e.1 (inl refl) in
      let rest : length (elsewhere e.0 l) ≡ seen_total entries =
      total_is entries (elsewhere e.0 l) (λ p q b. d p q (inr b))
      (λ q k i. ap (λ (w : List A). length w) (same_here e.0 q (d e.0 q (inl (refl, in_keys q k entries i))) l) ∙ c q k (inr i)) still in
      let parts = length_parts (λ a. place_of a == e.0) l in
      omega arith
    where
      still : (a : A) → In a (elsewhere e.0 l) → (k : ℕ) × In (place_of a, k) entries
      still a i =
          let f = from_filter (λ (z : A). not (place_of z == e.0)) a l i in
          let r = w a f.0 in
          elim r.1 [
            | inl h ↦ absurd (let z : false ≡ true = sym (ap not (eq-eqb (place_of a) e.0 (ap (λ (p : ℕ × ℕ). p.0) h))) ∙ f.1 in cc)
            | inr h ↦ (r.0, h)
          ]

  -- If each place has at least its count, the counts together are at most as many.
  pub total_within : (entries : List (ℕ × ℕ)) (l : List A) → HaveOwnPlaces entries → ((q k : ℕ) → In (q, k) entries → k ≤ length (here q l)) → seen_total entries ≤ length l
  total_within [] l d c = omega arith
  total_within (e ∷ entries) l d c =
      let first : e.1 ≤ length (here e.0 l) = c e.0 e.1 (inl refl) in
      let rest : seen_total entries ≤ length (elsewhere e.0 l) =
      total_within entries (elsewhere e.0 l) (λ p q b. d p q (inr b))
      (λ q k i. let s = same_here e.0 q (d e.0 q (inl (refl, in_keys q k entries i))) l in subst (λ (w : List A). k ≤ length w) (sym s) (c q k (inr i))) in
      let parts = length_parts (λ a. place_of a == e.0) l in
      omega arith
