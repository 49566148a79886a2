-- Proof machinery: how the operations of a set act at their keys.
use Rattle.std.proofs.Common.{◌≡◌, ℤ, pos, Bool, true, false, not, cond, ◌&&◌, refl, sym, ◌∙◌, ap}
use Rattle.std.proofs.Common.{int_eq}
use Rattle.std.proofs.Math.Bool.{and-true}
use Rattle.std.specs.Ordering.{int_cmp}
use Rattle.std.specs.FinSet.{FinSet}
use Rattle.pp_core.specs.declared.answer.Answer.TheVariants.{Truth}
use Rattle.pp_core.specs.declared.call.Call.{Call}
use Rattle.pp_kind.proofs.Numbers.{one_ranged}
use Rattle.pp_kind.specs.Numbers.{in_range, has_ranged_arguments, is_ranged_answer}
use Rattle.pp_kind.specs.Object.{IsLegal}
use Rattle.pp_kind_keyed.specs.Keys.{IsKeyed, told_keys}
use Rattle.pp_kind_keyed.proofs.Rule.{stands_at, covered}
use Rattle.pp_kind_set.specs.declared.op.SetOp.{SetOp}
use Rattle.pp_kind_set.specs.declared.op.SetOp.TheVariants.{Add, Remove, Contains}
use Rattle.pp_kind_set.specs.Keys.{contains, insert, remove}
use Rattle.pp_kind_set.specs.Operations.{key_of, bit_before, bit_after, call_of, recorded_by, given_by}
use Rattle.pp_kind_set.specs.Operations.{set_after, set_before, is_ranged}
use Rattle.pp_kind_set.specs.Sets.{key_set, bits}
use Rattle.pp_kind_set.specs.laws.Bits.{inserted_at, removed_at, one_set}

twice : (b c : Bool) → not b ≡ c → b ≡ not c
twice true c e = ap not e
twice false c e = ap not e

-- An operation is legal exactly if its key is in, or not, as its result shows.
legal_finds : (s : FinSet int_cmp) (a : SetOp) → IsLegal key_set s a
    → contains s (key_of a) ≡ bit_before a
legal_finds s (Add k c) h = let e = h.1 in twice (contains s k) c cc
legal_finds s (Remove k c) h = let e = h.1 in cc
legal_finds s (Contains k c) h = let e = h.1 in cc

not_not : (b : Bool) → not (not b) ≡ b
not_not true = refl
not_not false = refl

finds_legal : (s : FinSet int_cmp) (a : SetOp) → contains s (key_of a) ≡ bit_before a
    → IsLegal key_set s a
finds_legal s (Add k c) h = (refl, ap (λ (b : Bool). Truth (not b)) h ∙ ap Truth (not_not c))
finds_legal s (Remove k c) h = (refl, ap Truth h)
finds_legal s (Contains k c) h = (refl, ap Truth h)

-- The state after an operation, and the state after it is taken back.
next_at : (s : FinSet int_cmp) (a : SetOp) (q : ℤ) → IsLegal key_set s a
    → contains (set_after s a) q ≡ cond (int_eq q (key_of a)) (bit_after a) (contains s q)
next_at s (Add k c) q h = inserted_at s k q
next_at s (Remove k c) q h = removed_at s k q
next_at s (Contains k c) q h =
    sym (stands_at (contains s) k q c (int_eq q k) refl (legal_finds s (Contains k c) h))

back_at : (s : FinSet int_cmp) (a : SetOp) (q : ℤ) → IsLegal key_set s a
    → contains (set_before (set_after s a) a) q ≡ contains s q
back_at s (Add k true) q h =
    removed_at (insert s k) k q ∙ ap (cond (int_eq q k) false) (inserted_at s k q)
    ∙ covered (int_eq q k) false true (contains s q)
    ∙ stands_at (contains s) k q false (int_eq q k) refl (legal_finds s (Add k true) h)
back_at s (Add k false) q h = inserted_at s k q
    ∙ stands_at (contains s) k q true (int_eq q k) refl (legal_finds s (Add k false) h)
back_at s (Remove k true) q h =
    inserted_at (remove s k) k q ∙ ap (cond (int_eq q k) true) (removed_at s k q)
    ∙ covered (int_eq q k) true false (contains s q)
    ∙ stands_at (contains s) k q true (int_eq q k) refl (legal_finds s (Remove k true) h)
back_at s (Remove k false) q h = removed_at s k q
    ∙ stands_at (contains s) k q false (int_eq q k) refl (legal_finds s (Remove k false) h)
back_at s (Contains k c) q h = refl

-- Operations of one call have one result in one state.
same_given : (s : FinSet int_cmp) (a b : SetOp) → call_of a ≡ call_of b
    → given_by s a ≡ given_by s b
same_given s (Add k c) (Add l d) h = ap (λ (c : Call). Truth (not (contains s c.first))) h
same_given s (Remove k c) (Remove l d) h = ap (λ (c : Call). Truth (contains s c.first)) h
same_given s (Contains k c) (Contains l d) h = ap (λ (c : Call). Truth (contains s c.first)) h
same_given s (Remove k c) (Contains l d) h = ap (λ (c : Call). Truth (contains s c.first)) h
same_given s (Contains k c) (Remove l d) h = ap (λ (c : Call). Truth (contains s c.first)) h
same_given s (Add k c) (Remove l d) h = let e = ap (λ (c : Call). c.method) h in cc
same_given s (Add k c) (Contains l d) h = let e = ap (λ (c : Call). c.method) h in cc
same_given s (Remove k c) (Add l d) h = let e = ap (λ (c : Call). c.method) h in cc
same_given s (Contains k c) (Add l d) h = let e = ap (λ (c : Call). c.method) h in cc

-- An operation is ranged if its arguments and its recorded result are.
numbers : (a : SetOp) → is_ranged a
    ≡ (has_ranged_arguments (call_of a) && is_ranged_answer (recorded_by a))
numbers (Add k c) = sym (and-true (has_ranged_arguments (call_of (Add k c))) ∙ one_ranged k)
numbers (Remove k c) = sym (and-true (has_ranged_arguments (call_of (Remove k c))) ∙ one_ranged k)
numbers (Contains k c) =
    sym (and-true (has_ranged_arguments (call_of (Contains k c))) ∙ one_ranged k)

-- A set acts by its keys.
pub set_keyed : IsKeyed key_set (told_keys bits)
set_keyed = record {
  one_state = λ s t is it same. one_set s t same;
  legal = λ s a. (legal_finds s a, finds_legal s a);
  next_cell = next_at;
  back_cell = back_at;
  read_key = λ q c. refl;
  read_finds = λ q c d. ((λ h. h), (λ h. h));
  start_is_state = tt;
  next_is_state = λ s a is h. tt;
  back_is_state = λ s a is h. tt;
  one_given = same_given;
  ranged_numbers = numbers;
}
