-- Proof machinery: candidates in a row, each beginning as the one before it.
use Rattle.std.specs.Prelude.{◌≡◌, ◌≤◌, ◌<◌, ◌+◌, ◌-◌, ◌⊎◌, ℕ, suc, zero, false, List, [], ◌∷◌, ◌++◌}
use Rattle.std.specs.Prelude.{length, map, take, drop}
use Rattle.std.specs.List.{AllByRecursion, Contains, IsDistinct}
use Rattle.std.specs.List.Sorted.{IsPermutation}
use Rattle.std.proofs.Common.{refl, sym, ap, subst, ◌∙◌, arith, get_or, eqb, inl, inr}
use Rattle.std.proofs.Math.Seq.{drop-append_seam}
use Rattle.std.proofs.lemmas.List.{drop-append-le, drop-drop, length-append, length-drop, map-append, take-append-drop}
use Rattle.std.proofs.lemmas.List.{take-append-le, take_all, take_more}
use Rattle.std.proofs.lemmas.List.Sorted.{Contains-permutation, IsPermutation-sym, sum_by-IsPermutation}
use Rattle.std.proofs.lemmas.List.Sums.{sum_by_push}
use Rattle.std.proofs.lemmas.Bool.{cases_eq, eq-eqb, ne_eqb}
use Rattle.std.proofs.lemmas.Map.Keys.{IsDistinct-IsPermutation}
use Rattle.pp_model.specs.Lists.{In}
use Rattle.pp_model.specs.Object.{Item, ops}
use Rattle.pp_model.proofs.Lists.{in_cases, in_left, in_map, in_right}
use Rattle.pp_attempts.specs.Peaks.{Peak, operations}
use Rattle.pp_attempts.specs.Trying.{AreAlikeTo, AreApart, ArePositions, Candidate, HasRest, HaveRests, Share, StandsAt, length_at, positions_of}
use Rattle.pp_attempts.proofs.Fronts.{in_default}
use Rattle.pp_attempts.proofs.Viewing.{below_next, operations_next}

-- A position of a list has one element.
pub stand_same : {A : Type 0} (xs : List A) (i : ℕ) (x y : A) → StandsAt xs i x → StandsAt xs i y → x ≡ y
stand_same [] i x y a b = absurd (let l = a.0 in omega (arith, l))
stand_same (z ∷ xs) zero x y a b = a.1 ∙ sym b.1
stand_same (z ∷ xs) (suc i) x y a b =
    let l = a.0 in
    let k = b.0 in
    stand_same xs i x y (omega (arith, l), a.1) (omega (arith, k), b.1)

-- A position below the length of a list has an element.
pub some_stands : {A : Type 0} (xs : List A) (i : ℕ) → i < length xs → (x : A) × StandsAt xs i x
some_stands [] i there = absurd (omega (arith, there))
some_stands (x ∷ xs) zero there = (x, (there, refl))
some_stands (x ∷ xs) (suc i) there =
    let r = some_stands xs i (omega (arith, there)) in
    (r.0, (there, (r.1).1))

-- ---- a list with one element more

-- An element of a list with one added at the end is in the list, or is the added one.
pub in_last : {A : Type 0} (x y : A) (xs : List A) → In x (xs ++ y ∷ []) → In x xs ⊎ (x ≡ y)
in_last x y xs n = elim (in_cases x xs (y ∷ []) n) [ inl a ↦ inl a | inr b ↦ elim b [ inl e ↦ inr e | inr never ↦ absurd never ] ]

-- An element that is added at the end is in the list.
pub in_end : {A : Type 0} (x : A) (xs : List A) → In x (xs ++ x ∷ [])
in_end x xs = in_right x xs (x ∷ []) (inl refl)

-- Distinct positions stay distinct with one more that is not among them.
pub apart_more : (is : List ℕ) (j : ℕ) → AreApart is → (In j is → ⊥) → AreApart (is ++ j ∷ [])
apart_more [] j h out = ((λ n. n), tt)
apart_more (i ∷ is) j h out = (
  (λ n. elim (in_last i j is n) [ inl a ↦ h.0 a | inr e ↦ out (inl (sym e)) ]),
  apart_more is j h.1 (λ n. out (inr n)),
)

-- ---- the positions of peaks

-- The length that is looked up at the position of an attempt is that of its operations.
pub length_there : {Op : Type 0} (ps : List (Peak Op)) (i : ℕ) (p : Peak Op) → StandsAt ps i p → length_at ps i ≡ length p.ops
length_there [] i p s = absurd (let l = s.0 in omega (arith, l))
length_there {Op} (q ∷ ps) zero p s = ap (λ (w : Peak Op). length w.ops) (sym s.1)
length_there (q ∷ ps) (suc i) p s = let l = s.0 in length_there ps i p (omega (arith, l), s.1)

-- The positions of the first n attempts, with n itself, are those of the first n + 1.
pub one_position_more : {Op : Type 0} (ps : List (Peak Op)) (n : ℕ) (is js : List ℕ) (p : Peak Op) → StandsAt ps n p → js ≡ is ++ n ∷ [] → ArePositions ps n is → ArePositions ps (n + 1) js
one_position_more {Op} ps n is js p s e h = subst (λ (w : List ℕ). ArePositions ps (n + 1) w) (sym e) (record {
  apart = apart_more is n h.apart (λ m. let l = h.within n m in absurd (omega (arith, l)));
  within = λ i m. elim (in_last i n is m) [ inl a ↦ (let l = h.within i a in omega (arith, l)) | inr same ↦ omega (arith, same) ];
  all = λ i l. elim (below_next i n l) [ inl less ↦ in_left i is (n ∷ []) (h.all i less) | inr same ↦ subst (λ (k : ℕ). In k (is ++ n ∷ [])) (sym same) (in_end n is) ];
  cost = sum_by_push (length_at ps) is n ∙ ap (λ (m : ℕ). m + length_at ps n) h.cost ∙ ap (λ (m : ℕ). operations (take n ps) + m) (length_there ps n p s)
      ∙ sym (operations_next ps n p s.0 s.1);
})

-- the same positions in another order
in_contains : {A : Type 0} (x : A) (xs : List A) → In x xs → Contains xs x
in_contains x [] n = absurd n
in_contains x (y ∷ xs) (inl e) = (0, omega arith, sym e)
in_contains x (y ∷ xs) (inr n) = let r = in_contains x xs n in let l = r.1 in (suc r.0, omega (arith, l), r.2)

contains_in : {A : Type 0} (x : A) (xs : List A) → Contains xs x → In x xs
contains_in x [] c = absurd (let l = c.1 in omega (arith, l))
contains_in x (y ∷ xs) (zero, l, e) = inl (sym e)
contains_in x (y ∷ xs) (suc k, l, e) = inr (contains_in x xs (k, omega (arith, l), e))

-- An element of a list is in each permutation of it.
pub in_permuted : {A : Type 0} (xs ys : List A) (x : A) → IsPermutation xs ys → In x xs → In x ys
in_permuted xs ys x p n = contains_in x ys (Contains-permutation xs ys x p (in_contains x xs n))

eqb_flips : (i k : ℕ) → eqb i k ≡ eqb k i
eqb_flips i k = elim (cases_eq i k) [
  | inl e ↦ eq-eqb i k e ∙ sym (eq-eqb k i (sym e))
  | inr n ↦ ne_eqb i k n ∙ sym (ne_eqb k i (λ e. n (sym e)))
]

apart_distinct : (is : List ℕ) → AreApart is → IsDistinct eqb is
unfolding IsDistinct
apart_distinct [] h = tt
apart_distinct (i ∷ is) h = (differs is h.0, apart_distinct is h.1)
  where
    differs : (js : List ℕ) → (In i js → ⊥) → AllByRecursion (λ y. eqb i y ≡ false) js
    differs [] out = tt
    differs (j ∷ js) out = (ne_eqb i j (λ e. out (inl e)), differs js (λ n. out (inr n)))

distinct_apart : (is : List ℕ) → IsDistinct eqb is → AreApart is
unfolding IsDistinct
distinct_apart [] h = tt
distinct_apart (i ∷ is) h = (same is h.0, distinct_apart is h.1)
  where
    same : (js : List ℕ) → AllByRecursion (λ y. eqb i y ≡ false) js → In i js → ⊥
    same [] a n = n
    same (j ∷ js) a (inl e) = let two = sym (eq-eqb i j e) ∙ a.0 in cc
    same (j ∷ js) a (inr n) = same js a.1 n

-- Distinct positions are distinct in each order.
pub apart_permuted : (is js : List ℕ) → IsPermutation is js → AreApart is → AreApart js
apart_permuted is js p h = distinct_apart js (IsDistinct-IsPermutation eqb eqb_flips is js p (apart_distinct is h))

-- The positions of the first n attempts are so in each order.
pub positions_permuted : {Op : Type 0} (ps : List (Peak Op)) (n : ℕ) (is js : List ℕ) → IsPermutation is js → ArePositions ps n is → ArePositions ps n js
positions_permuted ps n is js p h = record {
  apart = apart_permuted is js p h.apart;
  within = λ i m. h.within i (in_permuted js is i (IsPermutation-sym is js p) m);
  all = λ i l. in_permuted is js i p (h.all i l);
  cost = sum_by-IsPermutation (length_at ps) is js p ∙ h.cost;
}

-- ---- each begins as the one before it

-- A candidate for positions outside the list.
abbrev pub nobody : Candidate
nobody = record { position = 0; shared = 0; from = 0; to = 0 }

module _ {Op : Type 0} (ps : List (Peak Op)) where
  -- one candidate more, whose peak shares as many as it says
  pub alike_more : (before : List (Item Op)) (cs : List Candidate) (c : Candidate) (p : Peak Op) (n : ℕ) (ys : List (Item Op)) → StandsAt ps c.position p
      → AreAlikeTo ps before cs c.shared p.ops → Share n p.ops ys → AreAlikeTo ps before (cs ++ c ∷ []) n ys
  alike_more before [] c p n ys s alike share = λ q t.
      let same : p ≡ q = stand_same ps c.position p q s t in
      (subst (λ (w : Peak Op). Share c.shared before w.ops) same alike, subst (λ (w : Peak Op). Share n w.ops ys) same share)
  alike_more before (d ∷ cs) c p n ys s alike share = λ q t.
      let rest = alike q t in
      (rest.0, alike_more q.ops cs c p n ys s rest.1 share)

-- the positions of some candidates, one on
pub positions_more : (os : List (ℕ × ℕ)) (cs ds : List Candidate) (k : ℕ) (c : Candidate) → k < length os → c.position ≡ (get_or os k (0, 0)).1 → ds ≡ cs ++ c ∷ []
    → positions_of cs ≡ map (λ o. o.1) (take k os) → positions_of ds ≡ map (λ o. o.1) (take (k + 1) os)
positions_more os cs ds k c there is pushed so =
    ap (λ (w : List Candidate). positions_of w) pushed ∙ map-append (λ (d : Candidate). d.position) cs (c ∷ []) ∙ ap (λ (w : List ℕ). w ++ c.position ∷ []) so
    ∙ ap (λ (i : ℕ). map (λ (o : ℕ × ℕ). o.1) (take k os) ++ i ∷ []) is ∙ sym (map-append (λ (o : ℕ × ℕ). o.1) (take k os) (get_or os k (0, 0) ∷ []))
    ∙ ap (λ (w : List (ℕ × ℕ)). map (λ (o : ℕ × ℕ). o.1) w) (sym (take_more os k (0, 0) there))

-- Each position in an order of all positions is below the number of attempts.
pub position_within : {Op : Type 0} (ps : List (Peak Op)) (os rs : List (ℕ × ℕ)) (k : ℕ) → k < length os → os ≡ rs → ArePositions ps (length ps) (map (λ o. o.1) rs) → (get_or os k (0, 0)).1 < length ps
position_within {Op} ps os rs k there same all = (subst (λ (w : List (ℕ × ℕ)). ArePositions ps (length ps) (map (λ o. o.1) w)) (sym same) all).within (get_or os k (0, 0)).1
    (in_map (λ (o : ℕ × ℕ). o.1) (get_or os k (0, 0)) os (in_default os k (0, 0) there))

-- ---- the operations that are not shared

-- The range of a candidate has the same operations if more operations are added at the end.
pub rest_grows : {Op : Type 0} (l m : List Op) (c : Candidate) (items : List (Item Op)) → HasRest l c items → HasRest (l ++ m) c items
rest_grows {Op} l m c items h =
    let before = h.before in
    let within = h.within in
    record {
      shared = h.shared;
      before = before;
      within = omega (arith, within, length-append l m);
      rest = ap (λ (w : List Op). take (c.to - c.from) w) (drop-append-le c.from l m (omega (arith, before, within)))
          ∙ take-append-le (c.to - c.from) (drop c.from l) m (omega (arith, before, within, length-drop c.from l)) ∙ h.rest;
    }

-- one candidate more, whose other operations were added
pub rests_more : {Op : Type 0} (ps : List (Peak Op)) (l m more : List Op) (cs ds : List Candidate) (d : Candidate) (p : Peak Op) → HaveRests ps l cs → more ≡ l ++ m → ds ≡ cs ++ d ∷ []
    → StandsAt ps d.position p → d.shared ≤ length p.ops → d.from ≡ length l → d.to ≡ length more → m ≡ ops (drop d.shared p.ops) → HaveRests ps more ds
rests_more {Op} ps l m more cs ds d p h added pushed here shared from to rest = λ c q n s. elim (in_last c d cs (subst (λ (w : List Candidate). In c w) pushed n)) [
  | inl old ↦ subst (λ (w : List Op). HasRest w c q.ops) (sym added) (rest_grows l m c q.ops (h c q old s))
  | inr new ↦
      let same : p ≡ q = stand_same ps d.position p q here (subst (λ (w : Candidate). StandsAt ps w.position q) new s) in
      subst (λ (w : Candidate). HasRest more w q.ops) (sym new) (subst (λ (w : Peak Op). HasRest more d w.ops) same mine)
]
  where
    long : length more ≡ length l + length m
    long = ap (λ (w : List Op). length w) added ∙ length-append l m

    mine : HasRest more d p.ops
    mine = record {
      shared = shared;
      before = omega (arith, from, to, long);
      within = omega (arith, to);
      rest = ap (λ (k : ℕ). take (d.to - d.from) (drop k more)) from ∙ ap (λ (w : List Op). take (d.to - d.from) (drop (length l) w)) added
          ∙ ap (λ (w : List Op). take (d.to - d.from) w) (drop-append_seam l m) ∙ take_all (d.to - d.from) m (omega (arith, from, to, long)) ∙ rest;
    }

-- The operations that are no longer shared, followed by those that were not shared before.
pub rests_joined : {Op : Type 0} (items : List (Item Op)) (a n : ℕ) → a ≤ n → ops (take (n - a) (drop a items)) ++ ops (drop n items) ≡ ops (drop a items)
rests_joined {Op} items a n less =
    let all : a + (n - a) ≡ n = omega (arith, less) in
    sym (map-append (λ (w : Item Op). w.op) (take (n - a) (drop a items)) (drop n items))
    ∙ ap (λ (k : ℕ). ops (take (n - a) (drop a items) ++ drop k items)) (sym all)
    ∙ ap (λ (w : List (Item Op)). ops (take (n - a) (drop a items) ++ w)) (sym (drop-drop (n - a) a items))
    ∙ ap (λ (w : List (Item Op)). ops w) (take-append-drop (n - a) (drop a items))
