-- A line ends at the first byte 10.
use Rattle.std.proofs.Common.{◌≡◌, ◌<◌, ◌≤◌, ℕ, zero, suc, List, [], ◌∷◌, ◌++◌, ◌==◌, length, take}
use Rattle.std.proofs.Common.{drop, map, true, false, slice_index, refl, ap, sym, ◌∙◌, append_assoc}
use Rattle.std.proofs.Common.{arith}
use Rattle.std.proofs.lemmas.List.{append-nil, take-append-le, length-take}
use Rattle.std.proofs.lemmas.Bool.{false_from_ne_true}
use Rattle.pp_input.specs.Lines.{ended_behind, rest_behind, without_return}

-- If the first byte 10 is at k, the bytes before it are the first line, and the other lines are those after it.
pub ended_at : (front bytes : List ℕ) (k : ℕ) → k < length bytes → (slice_index bytes k == 10) ≡ true → ((j : ℕ) → 0 ≤ j → j < k → (slice_index bytes j == 10) ≡ true → ⊥)
    → ended_behind front bytes ≡ (front ++ take k bytes) ∷ ended_behind [] (drop (suc k) bytes)
ended_at front [] k lt at none = absurd (omega arith)
ended_at front (b ∷ bs) zero lt at none = rw (at, append-nil) refl
ended_at front (b ∷ bs) (suc k) lt at none =
    let no : (b == 10) ≡ false = false_from_ne_true _ (none 0 (omega arith) (omega arith)) in
    let go : ended_behind (front ++ b ∷ []) bs ≡ ((front ++ b ∷ []) ++ take k bs) ∷ ended_behind [] (drop (suc k) bs) = ended_at (front ++ b ∷ []) bs k (omega arith) at (λ j l h. none (suc j) (omega arith) (omega arith)) in
    rw no (go ∙ rw append_assoc refl)

-- If the first byte 10 is at k, what follows the last byte 10 is that of the bytes after k.
pub rest_at : (front bytes : List ℕ) (k : ℕ) → k < length bytes → (slice_index bytes k == 10) ≡ true → ((j : ℕ) → 0 ≤ j → j < k → (slice_index bytes j == 10) ≡ true → ⊥)
    → rest_behind front bytes ≡ rest_behind [] (drop (suc k) bytes)
rest_at front [] k lt at none = absurd (omega arith)
rest_at front (b ∷ bs) zero lt at none = rw at refl
rest_at front (b ∷ bs) (suc k) lt at none =
    let no : (b == 10) ≡ false = false_from_ne_true _ (none 0 (omega arith) (omega arith)) in
    rw no (rest_at (front ++ b ∷ []) bs k (omega arith) at (λ j l h. none (suc j) (omega arith) (omega arith)))

none_ended : (front bytes : List ℕ) → ((j : ℕ) → 0 ≤ j → j < length bytes → (slice_index bytes j == 10) ≡ true → ⊥) → ended_behind front bytes ≡ []
none_ended front [] none = refl
none_ended front (b ∷ bs) none =
    let no : (b == 10) ≡ false = false_from_ne_true _ (none 0 (omega arith) (omega arith)) in
    rw no (none_ended (front ++ b ∷ []) bs (λ j l h. none (suc j) (omega arith) (omega arith)))

-- Without a byte 10, all bytes follow the last byte 10.
pub all_rest : (front bytes : List ℕ) → ((j : ℕ) → 0 ≤ j → j < length bytes → (slice_index bytes j == 10) ≡ true → ⊥) → rest_behind front bytes ≡ front ++ bytes
all_rest front [] none = sym (append-nil front)
all_rest front (b ∷ bs) none =
    let no : (b == 10) ≡ false = false_from_ne_true _ (none 0 (omega arith) (omega arith)) in
    rw no (all_rest (front ++ b ∷ []) bs (λ j l h. none (suc j) (omega arith) (omega arith)) ∙ append_assoc front (b ∷ []) bs)

-- one more line was cut
pub cut_more : (whole : List (List ℕ)) (front left : List ℕ) (k : ℕ) (all : List (List ℕ)) → k < length left → (slice_index left k == 10) ≡ true → ((j : ℕ) → 0 ≤ j → j < k → (slice_index left j == 10) ≡ true → ⊥)
    → whole ++ map without_return (ended_behind front left) ≡ all → (whole ++ without_return (front ++ take k left) ∷ []) ++ map without_return (ended_behind [] (drop (suc k) left)) ≡ all
cut_more whole front left k all lt at none so_far = rw append_assoc (ap (λ ls. whole ++ map without_return ls) (sym (ended_at front left k lt at none)) ∙ so_far)

-- If what is left has no byte 10, the whole lines are all lines.
pub nothing_more : (whole : List (List ℕ)) (front left : List ℕ) (all : List (List ℕ)) → ((j : ℕ) → 0 ≤ j → j < length left → (slice_index left j == 10) ≡ true → ⊥) → whole ++ map without_return (ended_behind front left) ≡ all → whole ≡ all
nothing_more whole front left all none so_far = sym (append-nil whole) ∙ ap (λ ls. whole ++ map without_return ls) (sym (none_ended front left none)) ∙ so_far

-- The first part of a list stays when an element is added at the end.
pub kept_push : {X : Type 0} (front all : List X) (x : X) → take (length front) all ≡ front → take (length front) (all ++ x ∷ []) ≡ front
kept_push front all x h =
    let le : length front ≤ length all = omega (arith, length-take (length front) all, ap length h) in
    take-append-le (length front) all (x ∷ []) le ∙ h
