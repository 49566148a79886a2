-- Proof machinery: one more item of a list.
use Rattle.std.proofs.Common.{◌≡◌, ℕ, zero, suc, ◌+◌, List, [], ◌∷◌, ◌++◌, take, refl, ◌∙◌, ap}
use Rattle.std.proofs.Common.{arith}
use Rattle.std.specs.Prelude.{slice_get, option_to_list}

one_more : {X : Type 0} (l : List X) (p : ℕ)
    → take (suc p) l ≡ take p l ++ option_to_list (slice_get l p)
one_more [] zero = refl
one_more [] (suc p) = refl
one_more (x ∷ l) zero = refl
one_more {X} (x ∷ l) (suc p) = ap (λ (m : List X). x ∷ m) (one_more l p)

-- The first p + 1 elements are the first p and the one at position p, if there is one.
pub taken : {X : Type 0} (l : List X) (p : ℕ)
    → take (p + 1) l ≡ take p l ++ option_to_list (slice_get l p)
taken {X} l p = let e : p + 1 ≡ suc p = omega arith in ap (λ (n : ℕ). take n l) e ∙ one_more l p
