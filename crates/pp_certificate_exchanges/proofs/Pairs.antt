-- Proof machinery: the sums of neighbours.
use Rattle.std.proofs.Common.{◌≡◌, ℕ, zero, suc, ◌+◌, ◌-◌, ◌/◌, ◌%◌, ◌<◌, ◌≤◌, ◌≢◌, List, [], ◌∷◌}
use Rattle.std.proofs.Common.{sum, take, set, get_or, length, refl, sym, ap, subst, ◌∙◌, arith}
use Rattle.std.proofs.lemmas.List.Sums.{sum_by-cons}
use Rattle.pp_certificate_exchanges.specs.Towers.{pairs}

-- The sum of a list is its first element and the sum of the others.
pub sum-cons : (a : ℕ) (x : List ℕ) → sum (a ∷ x) ≡ a + sum x
sum-cons a x = sum_by-cons (λ (n : ℕ). n) a x

half : (i : ℕ) → suc (suc i) / 2 ≡ suc (i / 2)
half i = omega arith

odd : (i : ℕ) → suc (suc i) % 2 ≡ i % 2
odd i = omega arith

-- The sums of neighbours have the same sum as the list.
pub sum-pairs : (x : List ℕ) → sum (pairs x) ≡ sum x
sum-pairs [] = refl
sum-pairs (a ∷ []) = refl
sum-pairs (a ∷ b ∷ x) = omega (
  arith,
  sum-cons (a + b) (pairs x),
  sum-pairs x,
  sum-cons a (b ∷ x),
  sum-cons b x,
)

-- Half a position of a list is a position of the sums of its neighbours.
pub pair_there : (x : List ℕ) (i : ℕ) → i < length x → i / 2 < length (pairs x)
pair_there [] i h = absurd (omega arith)
pair_there (a ∷ []) i h = omega arith
pair_there (a ∷ b ∷ x) zero h = omega arith
pair_there (a ∷ b ∷ x) (suc zero) h = omega arith
pair_there (a ∷ b ∷ x) (suc (suc i)) h = let k : i < length x = omega arith in
    omega (arith, half i, pair_there x i k)

-- If an element is above 0, so is the sum that it is part of.
pub pair_some : (x : List ℕ) (i : ℕ) → i < length x → 0 < get_or x i 0 →
    0 < get_or (pairs x) (i / 2) 0
pair_some [] i h p = absurd (omega arith)
pair_some (a ∷ []) zero h p = p
pair_some (a ∷ []) (suc i) h p = absurd (omega arith)
pair_some (a ∷ b ∷ x) zero h p = omega arith
pair_some (a ∷ b ∷ x) (suc zero) h p = omega arith
pair_some (a ∷ b ∷ x) (suc (suc i)) h p =
    let k : i < length x = omega arith in
    let P : ℕ → Type 0 = λ n. 0 < get_or ((a + b) ∷ pairs x) n 0 in
    subst P (sym (half i)) (pair_some x i k p)

-- If an element is one less, so is the sum that it is part of.
pub pairs_lowered : (x : List ℕ) (i : ℕ) → i < length x → 0 < get_or x i 0 →
    pairs (set x i (get_or x i 0 - 1)) ≡ set (pairs x) (i / 2) (get_or (pairs x) (i / 2) 0 - 1)
pairs_lowered [] i h p = absurd (omega arith)
pairs_lowered (a ∷ []) zero h p = refl
pairs_lowered (a ∷ []) (suc i) h p = absurd (omega arith)
pairs_lowered (a ∷ b ∷ x) zero h p = let k : (a - 1) + b ≡ (a + b) - 1 = omega arith in
    ap (λ n. n ∷ pairs x) k
pairs_lowered (a ∷ b ∷ x) (suc zero) h p = let k : a + (b - 1) ≡ (a + b) - 1 = omega arith in
    ap (λ n. n ∷ pairs x) k
pairs_lowered (a ∷ b ∷ x) (suc (suc i)) h p =
    let k : i < length x = omega arith in
    ap (λ (w : List ℕ). (a + b) ∷ w) (pairs_lowered x i k p)
    ∙ ap (λ n. set ((a + b) ∷ pairs x) n (get_or ((a + b) ∷ pairs x) n 0 - 1)) (sym (half i))

-- The sums before half of an even position are together the elements before the position.
pub before_even : (x : List ℕ) (i : ℕ) → i % 2 ≡ 0 → sum (take (i / 2) (pairs x)) ≡ sum (take i x)
before_even [] zero e = refl
before_even [] (suc i) e = nothing (suc i / 2)
  where
    nothing : (n : ℕ) → sum (take n []) ≡ 0
    nothing zero = refl
    nothing (suc n) = refl
before_even (a ∷ []) zero e = refl
before_even (a ∷ []) (suc zero) e = absurd (omega arith)
before_even (a ∷ []) (suc (suc i)) e = ap (λ n. sum (take n (a ∷ []))) (half i) ∙ whole (i / 2)
    ∙ sym (whole (suc i))
  where
    whole : (n : ℕ) → sum (take (suc n) (a ∷ [])) ≡ a
    whole zero = omega (arith, sum-cons a [])
    whole (suc n) = omega (arith, sum-cons a [])
before_even (a ∷ b ∷ x) zero e = refl
before_even (a ∷ b ∷ x) (suc zero) e = absurd (omega arith)
before_even (a ∷ b ∷ x) (suc (suc i)) e =
    ap (λ n. sum (take n ((a + b) ∷ pairs x))) (half i)
    ∙ omega (
      arith,
      sum-cons (a + b) (take (i / 2) (pairs x)),
      before_even x i (sym (odd i)
          ∙ e),
      sum-cons a (b ∷ take i x),
      sum-cons b (take i x),
    )

behind_odd : (x : List ℕ) (j : ℕ) → 0 < suc j % 2 → suc j < length x →
    sum (take (suc j / 2) (pairs x)) + get_or x j 0 ≡ sum (take (suc j) x)
behind_odd [] j e h = absurd (omega arith)
behind_odd (a ∷ []) j e h = absurd (omega arith)
behind_odd (a ∷ b ∷ x) zero e h = omega (arith, sum-cons a [])
behind_odd (a ∷ b ∷ x) (suc zero) e h = absurd (omega arith)
behind_odd (a ∷ b ∷ x) (suc (suc j)) e h =
    let k : suc j < length x = omega arith in
    let o : 0 < suc j % 2 = omega (arith, odd (suc j)) in
    ap (λ n. sum (take n ((a + b) ∷ pairs x)) + get_or x j 0) (half (suc j))
    ∙ omega (
      arith,
      sum-cons (a + b) (take (suc j / 2) (pairs x)),
      behind_odd x j o k,
      sum-cons a
          (b ∷ take (suc j) x),
      sum-cons b (take (suc j) x),
    )

-- The sums before half of an odd position lack the one element before the position.
pub before_odd : (x : List ℕ) (i : ℕ) → i % 2 ≢ 0 → i < length x →
    sum (take (i / 2) (pairs x)) + get_or x (i - 1) 0 ≡ sum (take i x)
before_odd x zero e h = absurd (e refl)
before_odd x (suc j) e h =
    let o : 0 < suc j % 2 = omega arith in
    let k : suc j - 1 ≡ j = omega arith in
    ap (λ n. sum (take (suc j / 2) (pairs x)) + get_or x n 0) k ∙ behind_odd x j o h

-- Two neighbours are together at most the sum of the list.
pub two_of_sum : (x : List ℕ) (i : ℕ) → i + 1 < length x → get_or x i 0 + get_or x (i + 1) 0 ≤ sum x
two_of_sum [] i h = absurd (omega arith)
two_of_sum (a ∷ []) i h = absurd (omega arith)
two_of_sum (a ∷ b ∷ x) zero h = omega (arith, sum-cons a (b ∷ x), sum-cons b x)
two_of_sum (a ∷ b ∷ x) (suc i) h =
    let k : i + 1 < length (b ∷ x) = omega arith in
    let e : suc i + 1 ≡ suc (i + 1) = omega arith in
    let P : ℕ → Type 0 = λ n. get_or (b ∷ x) i 0 + get_or (a ∷ b ∷ x) n 0 ≤ sum (a ∷ b ∷ x) in
    subst P (sym e) (omega (arith, two_of_sum (b ∷ x) i k, sum-cons a (b ∷ x)))

-- The sums of neighbours of a list of two or more are some, and fewer than its elements.
pub length-pairs : (x : List ℕ) → 1 < length x → (0 < length (pairs x))
    × (length (pairs x) < length x)
length-pairs [] h = absurd (omega arith)
length-pairs (a ∷ []) h = absurd (omega arith)
length-pairs (a ∷ b ∷ []) h = (omega arith, omega arith)
length-pairs (a ∷ b ∷ c ∷ []) h = (omega arith, omega arith)
length-pairs (a ∷ b ∷ c ∷ d ∷ x) h = let r = length-pairs (c ∷ d ∷ x) (omega arith) in
    (omega arith, omega (arith, r.1))

-- If a count is positive, so is the count of its pair one level up, and their sum stays below 2^32.
pub upward : (x y : List ℕ) (i : ℕ) → y ≡ pairs x → sum x < 4294967296 → i < length x →
    0 < get_or x i 0 →
    (sum y < 4294967296) × (i / 2 < length y) × (0 < get_or y (i / 2) 0)
upward x y i e s h p =
    let P : List ℕ → Type 0 = λ w. (sum w < 4294967296) × (i / 2 < length w)
    × (0 < get_or w (i / 2) 0) in
    subst P (sym e) (omega (arith, sum-pairs x), pair_there x i h, pair_some x i h p)

-- the level above follows the one below
pub lowered : (x y z : List ℕ) (i m : ℕ) → y ≡ pairs x → i < length x → 0 < get_or x i 0 →
    m ≡ get_or x i 0 → z ≡ set y (i / 2) (get_or y (i / 2) 0 - 1) →
    z ≡ pairs (set x i (m - 1))
lowered x y z i m e h p k f =
    f ∙ ap (λ (w : List ℕ). set w (i / 2) (get_or w (i / 2) 0 - 1)) e ∙ sym (pairs_lowered x i h p)
    ∙ ap (λ n. pairs (set x i (n - 1))) (sym k)

-- At an even position, the sum of what is before it is the one found a level up.
pub even_place : (x y : List ℕ) (i r : ℕ) → y ≡ pairs x → i % 2 ≡ 0 → r ≡ sum (take (i / 2) y) →
    r ≡ sum (take i x)
even_place x y i r e o h = h ∙ ap (λ (w : List ℕ). sum (take (i / 2) w)) e ∙ before_even x i o

-- At an odd position, the sum of what is before it is the one found a level up, and one element.
pub odd_place : (x y : List ℕ) (i r : ℕ) → y ≡ pairs x → i % 2 ≢ 0 → i < length x →
    r ≡ sum (take (i / 2) y) → r + get_or x (i - 1) 0 ≡ sum (take i x)
odd_place x y i r e o h k = ap (λ n. n + get_or x (i - 1) 0) (k
    ∙ ap (λ (w : List ℕ). sum (take (i / 2) w)) e) ∙ before_odd x i o h
