-- How many steps the run has.
use Rattle.std.proofs.Common.{◌≡◌, ℕ, zero, suc, ◌+◌, ◌-◌, ◌*◌, ◌/◌, ◌%◌, ◌<◌, ◌≤◌, List, ◌++◌, length, refl, ap, arith}
use Rattle.std.proofs.lemmas.List.{append-nil, length-append}
use Rattle.pp_model.specs.Config.{Step}
use Rattle.pp_objects.specs.declared.act.Op.{Op}
use Rattle.pp_cmd_drill.specs.Drill.{pair, pairs, unpaired, left_over, drill_steps}

pair_length : (p a b : ℕ) → length (pair (suc p) a b) ≡ 17
pair_length p a b = refl

pairs_length : (p : ℕ) → length (pairs (suc p)) ≡ 17 * p + 16
pairs_length zero = refl
pairs_length (suc p) =
    let e = length-append (pairs (suc p)) (pair (suc p) (2 * suc p + 1) (2 * suc p + 2)) in
    let f = pair_length p (2 * suc p + 1) (2 * suc p + 2) in
    let g = pairs_length p in omega arith

unpaired_length : (p a : ℕ) → length (unpaired (suc p) a) ≡ 11
unpaired_length p a = refl

-- The length of the run of an odd number of transactions.
odd_length : (q a : ℕ) → length (pairs q ++ unpaired q a) ≡ 17 * q + 10
odd_length zero a = refl
odd_length (suc p) a =
    let e = length-append (pairs (suc p)) (unpaired (suc p) a) in
    let f = unpaired_length p a in
    let g = pairs_length p in omega arith

length_at : (q r : ℕ) → r < 2 → 1 ≤ 2 * q + r → length (pairs q ++ left_over r q) ≡ 17 * q + 11 * r - 1
length_at zero zero h low = absurd (omega arith)
length_at (suc p) zero h low =
    let e = ap (λ (ss : List (Step Op)). length ss) (append-nil (pairs (suc p))) in
    let f = pairs_length p in omega arith
length_at q (suc r) h low = let e = odd_length q (2 * q + 1) in omega arith

-- The run of n transactions has 17 steps for each pair and 11 for a transaction that is left over, less 1.
pub drill_length : (n : ℕ) → 1 ≤ n → length (drill_steps n) ≡ 17 * (n / 2) + 11 * (n % 2) - 1
drill_length n low = length_at (n / 2) (n % 2) (omega arith) (omega arith)
