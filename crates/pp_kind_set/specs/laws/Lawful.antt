-- Proof machinery: the table of a set is the rule of its keys, and so a set is lawful.
use Rattle.std.proofs.Common.{◌≡◌, ℤ, Bool, true, false, IsTrue, ◌↔◌, refl, sym, ◌∙◌}
use Rattle.std.specs.FinMap.{empty}
use Rattle.pp_kind.specs.Numbers.{in_range}
use Rattle.pp_kind.specs.Object.{AllRanged, IsAllowed, state_after, Swaps, SwapsNowhere, IsLawful}
use Rattle.pp_kind.proofs.Tests.{IsTold, swaps_exact, swaps_nowhere}
use Rattle.pp_kind_keyed.specs.Keys.{rule_lets, told_keys, IsShown}
use Rattle.pp_kind_keyed.proofs.Acting.{left_here, rule_turns, rule_shows}
use Rattle.pp_kind_keyed.proofs.Lawful as keyed
use Rattle.pp_kind_set.specs.declared.op.SetOp.{SetOp}
use Rattle.pp_kind_set.specs.declared.op.SetOp.TheVariants.{Add, Remove, Contains}
use Rattle.pp_kind_set.specs.Keys.{contains}
use Rattle.pp_kind_set.specs.Operations.{key_of, bit_before}
use Rattle.pp_kind_set.specs.Movers.{may_swap, may_swap_there}
use Rattle.pp_kind_set.specs.Contexts.{reach, lists_round}
use Rattle.pp_kind_set.specs.Sets.{key_set, bits}
use Rattle.pp_kind_set.specs.laws.Bits.{empty_at, one_bit}
use Rattle.pp_kind_set.specs.laws.Acting.{set_keyed}

-- What is true for each form of operation is true for each operation.
each_form : (P : SetOp → Type 0) → ((k : ℤ) → P (Add k true)) → ((k : ℤ) → P (Add k false))
    → ((k : ℤ) → P (Remove k true)) → ((k : ℤ) → P (Remove k false))
    → ((k : ℤ) → P (Contains k true)) → ((k : ℤ) → P (Contains k false)) → (a : SetOp) → P a
each_form P p q r s t u (Add k true) = p k
each_form P p q r s t u (Add k false) = q k
each_form P p q r s t u (Remove k true) = r k
each_form P p q r s t u (Remove k false) = s k
each_form P p q r s t u (Contains k true) = t k
each_form P p q r s t u (Contains k false) = u k

-- The table says what the rule says, as computing both for each pair of forms shows.
abbrev Agrees : SetOp → SetOp → Type 0
Agrees a b = may_swap_there a b ≡ rule_lets bits a b

table_is_rule : (a b : SetOp) → Agrees a b
table_is_rule (Add j true) = each_form (Agrees (Add j true)) (λ k. refl) (λ k. refl) (λ k. refl)
    (λ k. refl) (λ k. refl) (λ k. refl)
table_is_rule (Add j false) =
    each_form (Agrees (Add j false)) (λ k. refl) (λ k. refl) (λ k. refl) (λ k. refl) (λ k. refl)
    (λ k. refl)
table_is_rule (Remove j true) =
    each_form (Agrees (Remove j true)) (λ k. refl) (λ k. refl) (λ k. refl) (λ k. refl) (λ k. refl)
    (λ k. refl)
table_is_rule (Remove j false) =
    each_form (Agrees (Remove j false)) (λ k. refl) (λ k. refl) (λ k. refl) (λ k. refl) (λ k. refl)
    (λ k. refl)
table_is_rule (Contains j true) =
    each_form (Agrees (Contains j true)) (λ k. refl) (λ k. refl) (λ k. refl) (λ k. refl) (λ k. refl)
    (λ k. refl)
table_is_rule (Contains j false) =
    each_form (Agrees (Contains j false)) (λ k. refl) (λ k. refl) (λ k. refl) (λ k. refl)
    (λ k. refl) (λ k. refl)

-- The operations lead the key there.
reach_allowed : (k : ℤ) (c : Bool) → IsAllowed key_set tt (reach k c)
reach_allowed k true = ((set_keyed.legal empty (Add k true)).1 (empty_at k), tt)
reach_allowed k false = tt

reach_stands : (k : ℤ) (c : Bool) → contains (state_after key_set tt (reach k c)) k ≡ c
reach_stands k true = left_here key_set (told_keys bits) set_keyed empty (Add k true) k refl
    ((set_keyed.legal empty (Add k true)).1 (empty_at k))
reach_stands k false = empty_at k

reach_ranged : (k : ℤ) (c : Bool) → IsTrue (in_range k) → AllRanged key_set (reach k c)
reach_ranged k true h = (h, tt)
reach_ranged k false h = tt

set_shown : IsShown key_set (told_keys bits) may_swap_there lists_round
set_shown = record {
  by_table = λ a b. refl;
  turns = λ a b t. rule_turns key_set bits one_bit a b (sym (table_is_rule a b) ∙ t);
  shown = λ a b e t. rule_shows key_set bits one_bit a b (reach (key_of a) (bit_before a))
      (sym (table_is_rule a b) ∙ t) (reach_allowed (key_of a) (bit_before a))
      (reach_stands (key_of a) (bit_before a));
  ranged_before = λ a b h k. reach_ranged (key_of a) (bit_before a) h;
  ranged_after = λ a b h k. tt;
}

-- The pair swaps exactly if the table lets it, and else nowhere.
told : IsTold key_set may_swap lists_round
told = keyed.table_tells key_set (told_keys bits) may_swap_there lists_round set_keyed set_shown

-- Two operations on a set swap exactly if the table says so.
pub may_swap_exact : (a b : SetOp) → (may_swap a b ≡ true) ↔ Swaps key_set a b
may_swap_exact = swaps_exact key_set may_swap lists_round told

-- Two operations on a set swap nowhere if the table says that they do not swap.
pub may_not_swap : (a b : SetOp) → may_swap a b ≡ false → SwapsNowhere key_set a b
may_not_swap = swaps_nowhere key_set may_swap lists_round told

-- A set is lawful.
pub set_lawful : IsLawful key_set
set_lawful = keyed.keyed_lawful key_set (told_keys bits) may_swap_there lists_round set_keyed
    set_shown
