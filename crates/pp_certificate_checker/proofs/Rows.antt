-- Proof machinery: positions cut into rows.
use Rattle.std.proofs.Common.{◌≡◌, ◌⊎◌, ◌+◌, ◌<◌, ◌≤◌, ℕ, zero, suc, List, [], ◌∷◌, ◌++◌, length}
use Rattle.std.proofs.Common.{take, drop, refl, sym, ap, ◌∙◌, arith, inl, append_assoc}
use Rattle.std.proofs.Common.{append-nil}
use Rattle.std.proofs.lemmas.List.{length-append}
use Rattle.pp_model.specs.Lists.{Each, joined}
use Rattle.pp_certificate_exchanges.specs.Exchanges.{EachExchange, exchanged, after_exchanges}
use Rattle.pp_certificate_checker.specs.Laws.{rows_from, rows}
use Rattle.pp_certificate_checker.proofs.Pairs.{at_pair_within, length-exchanged}

-- the rows are the positions
pub rows_joined : (is : List ℕ) (room : ℕ) (row : List ℕ) →
    joined (rows_from room row is) ≡ row ++ is
rows_joined [] room [] = refl
rows_joined [] room (i ∷ row) = refl
rows_joined (i ∷ is) zero row = ap (λ (w : List ℕ). row ++ w) (rows_joined is 999 (i ∷ []))
rows_joined (i ∷ is) (suc room) row =
    rows_joined is room (row ++ i ∷ []) ∙ append_assoc row (i ∷ []) is

rows_split : (is : List ℕ) (room : ℕ) (row : List ℕ) → 0 < length row
    → rows_from room row is ≡ (row ++ take room is) ∷ rows (drop room is)
rows_split [] room [] h = absurd (omega arith)
rows_split [] room (i ∷ row) h = nothing room
  where
    nothing : (n : ℕ) → (i ∷ row) ∷ [] ≡ ((i ∷ row) ++ take n []) ∷ rows (drop n [])
    nothing zero = ap (λ (w : List ℕ). w ∷ []) (sym (append-nil (i ∷ row)))
    nothing (suc n) = ap (λ (w : List ℕ). w ∷ []) (sym (append-nil (i ∷ row)))
rows_split (i ∷ is) zero row h =
    ap (λ (w : List ℕ). w ∷ rows_from 999 (i ∷ []) is) (sym (append-nil row))
rows_split (i ∷ is) (suc room) row h =
    let l : 0 < length (row ++ i ∷ []) = omega (arith, length-append row (i ∷ [])) in
    rows_split is room (row ++ i ∷ []) l
    ∙ ap (λ (w : List ℕ). w ∷ rows (drop room is)) (append_assoc row (i ∷ []) (take room is))

-- The rows of some positions are the first thousand of them, then the rows of the others.
pub rows_cut : (is : List ℕ) → 0 < length is → rows is ≡ take 1000 is ∷ rows (drop 1000 is)
rows_cut [] h = absurd (omega arith)
rows_cut (i ∷ is) h = rows_split is 999 (i ∷ []) (omega arith)

-- each row has 1 to a thousand positions
abbrev pub Fits : List ℕ → Type 0
Fits row = (0 < length row) × (length row ≤ 1000)

-- Each row has 1 to a thousand positions.
pub rows_fit : (is : List ℕ) (room : ℕ) (row : List ℕ) → length row + room ≡ 1000
    → 0 < length row ⊎ (room ≡ 1000) → Each Fits (rows_from room row is)
rows_fit [] room [] e h = tt
rows_fit [] room (i ∷ row) e h = ((omega arith, omega arith), tt)
rows_fit (i ∷ is) zero row e h =
    ((omega arith, omega arith), rows_fit is 999 (i ∷ []) refl (inl (omega arith)))
rows_fit (i ∷ is) (suc room) row e h =
    let k : length (row ++ i ∷ []) ≡ length row + 1 = length-append row (i ∷ []) in
    rows_fit is room (row ++ i ∷ []) (omega arith) (inl (omega arith))

-- If each element of joined lists has a property, so has each element of each list.
pub each_joined : {A : Type 0} (P : A → Type 0) (xss : List (List A)) → Each P (joined xss)
    → Each (λ (xs : List A). Each P xs) xss
each_joined P [] h = tt
each_joined {A} P (xs ∷ xss) h = (front xs h, each_joined P xss (back xs h))
  where
    front : (ys : List A) → Each P (ys ++ joined xss) → Each P ys
    front [] h = tt
    front (y ∷ ys) h = (h.0, front ys h.1)

    back : (ys : List A) → Each P (ys ++ joined xss) → Each P (joined xss)
    back [] h = h
    back (y ∷ ys) h = back ys h.1

-- positions of exchanges lie within the list
pub positions_within : {A : Type 0} (R : A → A → Type 0) (l : List A) (is : List ℕ)
    → length l < 1_000_000 → EachExchange R l is → Each (λ i. i ≤ 999_999_999) is
positions_within R l [] h r = tt
positions_within R l (i ∷ is) h r =
    let k = length-exchanged l i in (
      omega (arith, at_pair_within R l i r.0),
      positions_within R (exchanged l i) is (omega arith)
          r.1,
    )

-- Exchanges keep the length of a list.
pub length-after : {A : Type 0} (l : List A) (is : List ℕ) →
    length (after_exchanges l is) ≡ length l
length-after l [] = refl
length-after l (i ∷ is) = length-after (exchanged l i) is ∙ length-exchanged l i

-- If joined exchanges are of related pairs, so are the first, and the second after them.
pub each_front : {A : Type 0} (R : A → A → Type 0) (l : List A) (is js : List ℕ)
    → EachExchange R l (is ++ js) → EachExchange R l is × EachExchange R (after_exchanges l is) js
each_front R l [] js h = (tt, h)
each_front R l (i ∷ is) js h = let k = each_front R (exchanged l i) is js h.1 in ((h.0, k.0), k.1)
