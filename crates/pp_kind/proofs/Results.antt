-- Proof machinery: results of calls that find a number or nothing.
use Rattle.std.proofs.Common.{◌≡◌, ℤ, Option, Some, None, refl}
use Rattle.pp_kind.specs.Found.{answer_of, is_ranged_found}
use Rattle.pp_kind.specs.Numbers.{is_ranged_answer}

-- One result is that of one value found.
pub same_found : (c d : Option ℤ) → answer_of c ≡ answer_of d → c ≡ d
same_found None None e = refl
same_found None (Some y) e = cc
same_found (Some x) None e = cc
same_found (Some x) (Some y) e = cc

-- A number that a call finds, if any, is in range exactly if the result that says so is.
pub found_numbers : (c : Option ℤ) → is_ranged_found c ≡ is_ranged_answer (answer_of c)
found_numbers None = refl
found_numbers (Some x) = refl
