-- Proof machinery: a pair swaps exactly if the table lets it.
use Rattle.std.proofs.Common.{◌≡◌, ℤ, pos, ◌+ℤ◌, true, false, [], ◌∷◌, ◌++◌, ◌↔◌, refl, sym, subst}
use Rattle.std.proofs.Common.{arith, int_eq, int_lt, IsTrue}
use Rattle.std.proofs.lemmas.Int.{ints}
use Rattle.pp_kind.specs.Numbers.{in_range}
use Rattle.pp_kind.specs.Object.{AllowedFrom, AllRanged, state_after, Commutes, Swaps, SwapsNowhere}
use Rattle.pp_kind.proofs.Lists.{allowed-append, allowed-second}
use Rattle.pp_kind.proofs.Tests.{IsTold, swaps_exact, swaps_nowhere}
use Rattle.pp_kind_counter.specs.declared.op.CounterOp.{CounterOp}
use Rattle.pp_kind_counter.specs.Operations.{shift_of}
use Rattle.pp_kind_counter.specs.Movers.{may_swap}
use Rattle.pp_kind_counter.specs.Contexts.{reach, pair_begins, lists_round}
use Rattle.pp_kind_counter.specs.Count.{counter}
use Rattle.pp_kind_counter.specs.laws.Legal.{told, legal_where_told}
use Rattle.pp_kind_counter.specs.laws.Turning.{second_is_first, first_is_second, begins_first}
use Rattle.pp_kind_counter.specs.laws.Turning.{begins_second, not_turned}
use Rattle.pp_kind_counter.specs.laws.Reaching.{reach_by_allowed, reach_state, reach_by_ranged}
use Rattle.pp_kind_counter.specs.laws.Reaching.{begins_low, begins_high}

same_sum : (n x y : ℤ) → (n +ℤ y) +ℤ x ≡ (n +ℤ x) +ℤ y
same_sum n x y = omega (arith, ints)

may_swap_commutes : (a b : CounterOp) → may_swap a b ≡ true → Commutes counter a b
may_swap_commutes a b t shape before allowed h k =
    let n = state_after counter shape before in
    let tells = told a n h in
    let then_tells = told b (n +ℤ shift_of a) k in (
      legal_where_told b n (second_is_first a b n t tells then_tells),
      legal_where_told a (n +ℤ shift_of b) (first_is_second a b n t tells then_tells),
      same_sum n (shift_of a) (shift_of b),
    )

-- The pair swaps exactly if the table lets it.
pair_refuted : (a b : CounterOp) → may_swap a b ≡ false
    → AllowedFrom counter (pos 0) (reach (pair_begins a b) ++ (a ∷ b ∷ []))
pair_refuted a b t =
    let x = pair_begins a b in
    let Two : ℤ → Type 0 = λ n. AllowedFrom counter n (a ∷ b ∷ []) in
    let both : Two x = (
      legal_where_told a x (begins_first a b t),
      (legal_where_told b (x +ℤ shift_of a) (begins_second a b t), tt),
    ) in
    allowed-append counter (pos 0) (reach x) (a ∷ b ∷ [])
    (reach_by_allowed (int_eq x (pos 0)) (in_range x) (int_lt (pos 0) x) (pos 0) x)
    (subst Two (sym (reach_state x)) both)

turned_refuted : (a b : CounterOp) → may_swap a b ≡ false
    → AllowedFrom counter (pos 0) (reach (pair_begins a b) ++ (b ∷ a ∷ [])) → ⊥
turned_refuted a b t h =
    let x = pair_begins a b in
    let Two : ℤ → Type 0 = λ n. AllowedFrom counter n (b ∷ a ∷ []) in
    let both : Two x = subst Two (reach_state x)
    (allowed-second counter (pos 0) (reach x) (b ∷ a ∷ []) h) in
    not_turned a b t (told b x both.0) (told a (x +ℤ shift_of b) both.1.0)

ranged_before : (a b : CounterOp) → IsTrue (counter.ranged a) → IsTrue (counter.ranged b)
    → AllRanged counter (reach (pair_begins a b))
ranged_before a b h k =
    let x = pair_begins a b in
    reach_by_ranged (int_eq x (pos 0)) (in_range x) (int_lt (pos 0) x) x (begins_low a b h k)
    (begins_high a b h k) refl refl

-- The pair swaps exactly if the table lets it, and else nowhere.
pub table_tells : IsTold counter may_swap lists_round
table_tells = record {
  refuting = λ a b. refl;
  commutes = may_swap_commutes;
  allowed = pair_refuted;
  turned = turned_refuted;
  ranged_before = ranged_before;
  ranged_after = λ a b h k. tt;
}

-- Two operations on a counter swap exactly if the table says so.
pub may_swap_exact : (a b : CounterOp) → (may_swap a b ≡ true) ↔ Swaps counter a b
may_swap_exact = swaps_exact counter may_swap lists_round table_tells

-- Two operations on a counter swap nowhere if the table says that they do not swap.
pub may_not_swap : (a b : CounterOp) → may_swap a b ≡ false → SwapsNowhere counter a b
may_not_swap = swaps_nowhere counter may_swap lists_round table_tells
