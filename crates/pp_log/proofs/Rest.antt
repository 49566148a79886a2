-- The part of a list after its first elements, if one element is taken out, or the first elements move.
use Rattle.std.proofs.Common.{◌≡◌, ℕ, zero, suc, ◌<◌, ◌≤◌, ◌+◌, ◌-◌, List, [], ◌∷◌, ◌++◌, length, take, drop, refl, sym, ◌∙◌, ap, arith}
use Rattle.std.specs.List.{copy_within, remove}
use Rattle.std.proofs.Math.Seq.{drop-nil, take-length}
use Rattle.std.proofs.lemmas.List.{length-drop}
use Rattle.std.proofs.lemmas.List.Edits.{take-paste}

-- To drop no elements leaves the whole list.
pub drop_none : {A : Type 0} (x : List A) → drop 0 x ≡ x
drop_none [] = refl
drop_none (a ∷ x) = refl

take_none : {A : Type 0} (x : List A) → take 0 x ≡ []
take_none [] = refl
take_none (a ∷ x) = refl

remove_none : {A : Type 0} (i : ℕ) → ◌≡◌ {A = List A} (remove [] i) []
remove_none zero = refl
remove_none (suc i) = refl

removed : {A : Type 0} (x : List A) (n i k : ℕ) → k ≡ n + i → drop n (remove x k) ≡ remove (drop n x) i
removed {A} [] n i k e = ap (λ (y : List A). drop n y) (remove_none k) ∙ drop-nil n ∙ sym (ap (λ (y : List A). remove y i) (drop-nil n) ∙ remove_none i)
removed {A} (a ∷ x) zero i k e = let same : k ≡ i = omega arith in ap (λ (j : ℕ). drop 0 (remove (a ∷ x) j)) same ∙ drop_none (remove (a ∷ x) i)
removed (a ∷ x) (suc n) i zero e = absurd (omega arith)
removed (a ∷ x) (suc n) i (suc k) e = removed x n i k (omega arith)

-- To remove an element after the first n and drop these is to drop these and remove it.
pub drop-remove : {A : Type 0} (x : List A) (n i : ℕ) → drop n (remove x (n + i)) ≡ remove (drop n x) i
drop-remove x n i = removed x n i (n + i) refl

moved : {A : Type 0} (x : List A) (n m k t : ℕ) → m ≡ n + 1 → t ≡ m + k → n < length x → drop m ((take m x ++ take k (drop n x)) ++ drop t x) ≡ remove (drop n x) k
moved [] n m k t e f lt = absurd (omega arith)
moved (a ∷ x) n zero k t e f lt = absurd (omega arith)
moved (a ∷ x) n (suc m) k zero e f lt = absurd (omega arith)
moved {A} (a ∷ x) zero (suc zero) k (suc t) e f lt =
    let same : t ≡ k = omega arith in
    ap (λ (z : List A). drop 0 ((z ++ take k (a ∷ x)) ++ drop t x)) (take_none x)
    ∙ ap (λ (j : ℕ). drop 0 (take k (a ∷ x) ++ drop j x)) same
    ∙ drop_none (remove (a ∷ x) k)
moved (a ∷ x) zero (suc (suc m)) k (suc t) e f lt = absurd (omega arith)
moved (a ∷ x) (suc n) (suc m) k (suc t) e f lt = moved x n m k t (omega arith) (omega arith) (omega arith)

-- those before it move down
pub drop-copied : {A : Type 0} (x : List A) (n i : ℕ) → n + i < length x → drop (n + 1) (copy_within x n (n + i) (n + 1)) ≡ remove (drop n x) i
drop-copied {A} x n i lt =
    let same : n + i - n ≡ i = omega arith in
    moved x n (n + 1) (n + i - n) (n + 1 + (n + i - n)) refl refl (omega arith) ∙ ap (λ (k : ℕ). remove (drop n x) k) same

-- If the elements from n on are copied to the start, they are the first elements.
pub take-copied : {A : Type 0} (x : List A) (n : ℕ) → n ≤ length x → take (length (drop n x)) (copy_within x n (length x) 0) ≡ drop n x
take-copied {A} x n within =
    let size = length-drop n x in
    let all : length (drop n x) ≡ length x - n = omega arith in
    ap (λ (k : ℕ). take k (copy_within x n (length x) 0)) (all ∙ (let k : length x - n ≡ 0 + (length x - n) = omega arith in k))
    ∙ take-paste x 0 (drop n x) (length x - n) (omega arith) (omega arith)
    ∙ ap (λ (z : List A). z ++ take (length x - n) (drop n x)) (take_none x)
    ∙ ap (λ (k : ℕ). take k (drop n x)) (sym all) ∙ take-length (drop n x)
