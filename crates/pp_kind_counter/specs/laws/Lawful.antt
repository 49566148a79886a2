-- Proof machinery: the laws of a counter.
use Rattle.std.proofs.Common.{◌≡◌, ℤ, ◌+ℤ◌, ◌-ℤ◌, Bool, [], ◌∷◌, ◌&&◌, refl, sym, ◌∙◌, ap}
use Rattle.std.proofs.Common.{arith}
use Rattle.std.proofs.Math.Bool.{and-true}
use Rattle.std.proofs.lemmas.Int.{ints}
use Rattle.pp_kind.proofs.Numbers.{one_ranged}
use Rattle.pp_kind.specs.Numbers.{in_range, has_ranged_arguments, is_ranged_answer}
use Rattle.pp_kind.specs.Object.{AllowsAllOf, IsLawful, IsPlaced}
use Rattle.pp_kind.proofs.Tests.{unrefuted, refuted}
use Rattle.pp_kind_counter.specs.declared.op.CounterOp.{CounterOp}
use Rattle.pp_kind_counter.specs.declared.op.CounterOp.TheVariants.{Add, Get, FetchAdd}
use Rattle.pp_kind_counter.specs.Operations.{shift_of, call_of, given_by, recorded_by, is_ranged}
use Rattle.pp_kind_counter.specs.Operations.{place_of}
use Rattle.pp_kind_counter.specs.Movers.{may_swap}
use Rattle.pp_kind_counter.specs.Contexts.{lists_round}
use Rattle.pp_kind_counter.specs.Count.{counter, SameAt}
use Rattle.pp_kind_counter.specs.laws.Legal.{told, legal_where_told, same_given}
use Rattle.pp_kind_counter.specs.laws.Swapping.{table_tells}

sum_back : (n x : ℤ) → (n +ℤ x) -ℤ x ≡ n
sum_back n x = omega (arith, ints)

-- Each number is read by `Get`, so no other one allows what it allows.
numbers_told_apart : (n m : ℤ) → AllowsAllOf counter n m → n ≡ m
numbers_told_apart n m also =
    sym (told (Get n) m (also (Get n ∷ []) (legal_where_told (Get n) n refl, tt)).0)

-- An operation is ranged if its argument and its recorded result are.
numbers : (op : CounterOp) → is_ranged op
    ≡ (has_ranged_arguments (call_of op) && is_ranged_answer (recorded_by op))
numbers (Add by) = sym (and-true (has_ranged_arguments (call_of (Add by))) ∙ one_ranged by)
numbers (Get value) = refl
numbers (FetchAdd by was) = sym (ap (λ (b : Bool). b && in_range was) (one_ranged by))

-- The laws of a counter.
pub counter_lawful : IsLawful counter
counter_lawful = record {
  start_shape = λ shape. refl;
  start_is_state = λ shape. tt;
  next_shape = λ n op h. refl;
  next_is_state = λ n op h k. tt;
  taken_back = λ n op h k. sum_back n (shift_of op);
  told_apart = λ n m h k e also. numbers_told_apart n m also;
  one_answer = λ n a b e h k. sym h.1 ∙ same_given n a b e ∙ k.1;
  ranged_numbers = numbers;
  unrefuted = unrefuted counter may_swap lists_round table_tells;
  refuted = refuted counter may_swap lists_round table_tells;
}

-- The laws of places, of which there is one.
pub counter_placed : IsPlaced counter place_of SameAt
counter_placed = record {
  same = λ p n h. refl;
  turned = λ p n m h e. sym (h e);
  joined = λ p l n m h k e. h e ∙ k e;
  everywhere = λ n m e same. same 0 refl;
  apart = λ a b different. absurd (different refl);
  gives_there = λ n m a same. ap (λ (k : ℤ). given_by k a) (same refl);
  kept_there = λ n m a same. refl;
  next_there = λ n m a same e. ap (λ (k : ℤ). k +ℤ shift_of a) (same refl);
  next_elsewhere = λ n a p other e. absurd (other e);
}
