-- Proof machinery: the laws of a map.
use Rattle.std.proofs.Common.{◌≡◌, ℤ, true, false, IsTrue, ◌↔◌, Option, Some, None, refl, sym, ◌∙◌}
use Rattle.std.proofs.Common.{ap, ◌&&◌}
use Rattle.std.proofs.lemmas.Bool.{and_parts, and_from}
use Rattle.pp_kind.specs.Numbers.{in_range}
use Rattle.pp_kind.specs.Found.{answer_of, is_ranged_found}
use Rattle.std.specs.Ordering.{int_cmp}
use Rattle.std.specs.FinMap.{empty, get, get-empty}
use Rattle.pp_kind.specs.Object.{IsAllowed, state_after, AllRanged, Swaps, SwapsNowhere, IsLawful}
use Rattle.pp_kind_keyed.specs.Keys.{told_keys, IsShown}
use Rattle.pp_kind_keyed.proofs.Acting.{left_here, rule_turns, rule_shows}
use Rattle.pp_kind.proofs.Tests.{IsTold, swaps_exact, swaps_nowhere}
use Rattle.pp_kind_keyed.proofs.Lawful as keyed
use Rattle.pp_kind_map.specs.declared.op.MapOp.{MapOp}
use Rattle.pp_kind_map.specs.declared.op.MapOp.TheVariants.{Put, Get, Remove}
use Rattle.pp_kind_map.specs.Operations.{key_of, found_by, is_ranged}
use Rattle.pp_kind_map.specs.Movers.{may_swap, table_lets}
use Rattle.pp_kind_map.specs.Contexts.{put_first, before_pair, lists_round}
use Rattle.pp_kind_map.specs.KeyMap.{key_map, map_keys}
use Rattle.pp_kind_map.specs.laws.Rule.{alike_is, table_is_rule}
use Rattle.pp_kind_map.specs.laws.Acting.{map_is_keyed}

-- Putting a value at a key of the empty map is allowed.
put_allowed : (key : ℤ) (v : Option ℤ) → IsAllowed key_map tt (put_first key v)
put_allowed key None = tt
put_allowed key (Some x) = ((refl, ap answer_of (get-empty {X = ℤ} int_cmp key)), tt)

put_stands : (key : ℤ) (v : Option ℤ) → get (state_after key_map tt (put_first key v)) key ≡ v
put_stands key None = get-empty {X = ℤ} int_cmp key
put_stands key (Some x) = left_here key_map (told_keys map_keys) map_is_keyed empty (Put key x None)
    key refl (put_allowed key (Some x)).0

-- The operations that put a value are ranged if the key and the value are.
put_ranged : (key : ℤ) (v : Option ℤ) → (in_range key && is_ranged_found v) ≡ true
    → AllRanged key_map (put_first key v)
put_ranged key None h = tt
put_ranged key (Some x) h = (and_from (in_range key && in_range x) true h refl, tt)

before_ranged : (a : MapOp) → IsTrue (is_ranged a) → AllRanged key_map (before_pair a)
before_ranged (Put key v was) h =
    let numbers = and_parts (in_range key && in_range v) (is_ranged_found was) h in
    put_ranged key was (and_from (in_range key) (is_ranged_found was)
    (and_parts (in_range key) (in_range v) numbers.0).0 numbers.1)
before_ranged (Get key found) h = put_ranged key found h
before_ranged (Remove key was) h = put_ranged key was h

-- The lists of a map refute each pair that its table does not allow to swap.
pub map_is_shown : IsShown key_map (told_keys map_keys) table_lets lists_round
map_is_shown = record {
  by_table = λ a b. refl;
  turns = λ a b t. rule_turns key_map map_keys alike_is a b (sym (table_is_rule a b) ∙ t);
  shown = λ a b e t. rule_shows key_map map_keys alike_is a b (before_pair a)
      (sym (table_is_rule a b) ∙ t) (put_allowed (key_of a) (found_by a))
      (put_stands (key_of a) (found_by a));
  ranged_before = λ a b h k. before_ranged a h;
  ranged_after = λ a b h k. tt;
}

-- The pair swaps exactly if the table lets it, and else nowhere.
told : IsTold key_map may_swap lists_round
told = keyed.table_tells key_map (told_keys map_keys) table_lets lists_round map_is_keyed
    map_is_shown

-- Two operations on a map swap exactly if the table says so.
pub may_swap_exact : (a b : MapOp) → (may_swap a b ≡ true) ↔ Swaps key_map a b
may_swap_exact = swaps_exact key_map may_swap lists_round told

-- Two operations on a map swap nowhere if the table says that they do not swap.
pub may_not_swap : (a b : MapOp) → may_swap a b ≡ false → SwapsNowhere key_map a b
may_not_swap = swaps_nowhere key_map may_swap lists_round told

-- A map is lawful.
pub key_map_lawful : IsLawful key_map
key_map_lawful = keyed.keyed_lawful key_map (told_keys map_keys) table_lets lists_round map_is_keyed
    map_is_shown
