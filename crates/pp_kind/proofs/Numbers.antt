-- Calls with fewer than three arguments have ranged arguments if these are in the range.
use Rattle.std.proofs.Common.{◌≡◌, ◌&&◌, ◌∙◌, ℤ, pos, true}
use Rattle.std.proofs.Math.Bool.{and-true}
use Rattle.pp_kind.specs.Numbers.{in_range}

-- A call with one argument has ranged arguments exactly if that one is in range.
pub one_ranged : (x : ℤ) → (in_range x && in_range (pos 0) && in_range (pos 0)) ≡ in_range x
one_ranged x = and-true (in_range x && true) ∙ and-true (in_range x)

-- A call with two arguments has ranged arguments exactly if both are in range.
pub two_ranged : (x y : ℤ)
    → (in_range x && in_range y && in_range (pos 0)) ≡ (in_range x && in_range y)
two_ranged x y = and-true (in_range x && in_range y)
