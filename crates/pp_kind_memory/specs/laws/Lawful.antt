-- Proof machinery: the table of a memory says which pairs on one address swap, and so a memory is
-- lawful.
use Rattle.std.proofs.Common.{◌≡◌, ℤ, pos, ◌-ℤ◌, Bool, true, false, not, ◌&&◌, ◌||◌, IsTrue}
use Rattle.std.proofs.Common.{if◌then◌else◌, [], ◌∷◌, ◌↔◌, Option, Some, None, refl, sym, ◌∙◌}
use Rattle.std.proofs.Common.{int_eq, arith}
use Rattle.std.proofs.lemmas.Bool.{and_parts, and_from, cond_both}
use Rattle.std.proofs.lemmas.Int.{ints}
use Rattle.std.specs.Ordering.{int_cmp}
use Rattle.std.specs.FinMap.{FinMap, empty}
use Rattle.pp_kind.specs.Numbers.{in_range}
use Rattle.pp_kind.specs.Object.{AllowedFrom, IsAllowed, state_after, AllRanged, Swaps}
use Rattle.pp_kind.specs.Object.{SwapsNowhere, CliqueSwaps, IsLawful}
use Rattle.pp_kind.proofs.Tests.{IsTold, swaps_exact, swaps_nowhere}
use Rattle.pp_kind_keyed.specs.Keys.{TurnsAt, Shows, IsShown}
use Rattle.pp_kind_keyed.proofs.Rule.{same_key}
use Rattle.pp_kind_keyed.proofs.Acting.{left_here}
use Rattle.pp_kind_keyed.proofs.Lawful as keyed
use Rattle.pp_kind_memory.specs.declared.op.MemOp.{MemOp}
use Rattle.pp_kind_memory.specs.declared.op.MemOp.TheVariants.{Read, Write, Cas}
use Rattle.pp_kind_memory.specs.Values.{value_at}
use Rattle.pp_kind_memory.specs.Operations.{address_of, Finds, left_by, is_ranged}
use Rattle.pp_kind_memory.specs.Movers.{may_swap, may_swap_there}
use Rattle.pp_kind_memory.specs.Contexts.{other_than, number_before, number_after, write_of, read_of}
use Rattle.pp_kind_memory.specs.Contexts.{lists_round}
use Rattle.pp_kind_memory.specs.Memories.{memory, addresses}
use Rattle.pp_kind_memory.specs.laws.Written.{empty_at}
use Rattle.pp_kind_memory.specs.laws.Acting.{memory_keyed}

-- The meaning of the conditions of the table for numbers, true and false.
unequal_is : (v w : ℤ) → not (int_eq v w) ≡ true → v ≡ w → ⊥
unequal_is v w t e = grind (arith, ints)

equal_is : (v w : ℤ) → not (int_eq v w) ≡ false → v ≡ w
equal_is v w t = grind (arith, ints)

unlike : (v w : ℤ) → int_eq v w ≡ false → v ≡ w → ⊥
unlike v w t e = grind (arith, ints)

chain_is : (u v w z : ℤ)
    → (not (int_eq v w) || (int_eq u v && int_eq v w && int_eq w z)) ≡ true → v ≡ w
    → (u ≡ v) × (w ≡ z)
chain_is u v w z t e = (grind (arith, ints), grind (arith, ints))

chain_follows : (u v w z : ℤ)
    → (not (int_eq v w) || (int_eq u v && int_eq v w && int_eq w z)) ≡ false → v ≡ w
chain_follows u v w z t = grind (arith, ints)

chain_stops : (u v w z : ℤ)
    → (not (int_eq v w) || (int_eq u v && int_eq v w && int_eq w z)) ≡ false → u ≡ w → z ≡ u → ⊥
chain_stops u v w z t e f = grind (arith, ints)

settled_is : (e n w : ℤ) → (int_eq n w && int_eq (n -ℤ e) (pos 0)) ≡ true → (n ≡ w) × (n ≡ e)
settled_is e n w t = (grind (arith, ints), grind (arith, ints))

settled_stops : (e n w : ℤ) → (int_eq n w && int_eq (n -ℤ e) (pos 0)) ≡ false → w ≡ e → n ≡ w → ⊥
settled_stops e n w t f g = grind (arith, ints)

either_is : (v w x y : ℤ) → (not (int_eq v w) || int_eq x y) ≡ true → v ≡ w → x ≡ y
either_is v w x y t e = grind (arith, ints)

either_follows : (v w x y : ℤ) → (not (int_eq v w) || int_eq x y) ≡ false → v ≡ w
either_follows v w x y t = grind (arith, ints)

either_stops : (v w x y : ℤ) → (not (int_eq v w) || int_eq x y) ≡ false → x ≡ y → ⊥
either_stops v w x y t e = grind (arith, ints)

-- If the table lets a pair on one address swap, it does, whatever number is there.
turns : (a b : MemOp) → may_swap_there a b ≡ true → (c : ℤ) → TurnsAt addresses a b c
turns (Read a v) (Read b w) t c h g = (g, h, refl)
turns (Read a v) (Write b w) t c h g = (tt, sym (same_key v w t), refl)
turns (Read a v) (Cas b e n true) t c h g =
    let still = chain_is v v e n t (sym h ∙ g) in (g, sym still.1 ∙ sym g ∙ h, refl)
turns (Read a v) (Cas b e n false) t c h g = (g, h, refl)
turns (Write a v) (Read b w) t c h g = absurd (unequal_is v w t g)
turns (Write a v) (Write b w) t c h g = (tt, tt, same_key v w t)
turns (Write a v) (Cas b e n true) t c h g = absurd (unequal_is v e t g)
turns (Write a v) (Cas b e n false) t c h g = absurd (g (same_key v e t))
turns (Cas a e n true) (Read b w) t c h g =
    let still = chain_is e n w w t g in (h ∙ still.0 ∙ g, h, refl)
turns (Cas a e n true) (Write b w) t c h g =
    let still = settled_is e n w t in (tt, sym still.0 ∙ still.1, still.0)
turns (Cas a e n true) (Cas b f k true) t c h g =
    let still = chain_is e n f k t g in
    (h ∙ still.0 ∙ g, sym still.1 ∙ sym g ∙ sym still.0, g ∙ still.1)
turns (Cas a e n true) (Cas b f k false) t c h g =
    ((λ i. g (either_is e f n f t (sym h ∙ i))), h, refl)
turns (Cas a e n false) (Read b w) t c h g = (g, h, refl)
turns (Cas a e n false) (Write b w) t c h g = (tt, (λ i. unequal_is e w t (sym i)), refl)
turns (Cas a e n false) (Cas b f k true) t c h g =
    (g, (λ i. h (g ∙ either_is k e f e t i)), refl)
turns (Cas a e n false) (Cas b f k false) t c h g = (g, h, refl)

-- A write leads an address to its number.
write_allowed : (a v : ℤ) → IsAllowed memory tt (Write a v ∷ [])
write_allowed a v = ((memory_keyed.legal empty (Write a v)).1 tt, tt)

write_stands : (a v : ℤ) → value_at (state_after memory tt (Write a v ∷ [])) a ≡ v
write_stands a v = left_here memory addresses memory_keyed empty (Write a v) a refl
    (write_allowed a v).0

-- After the context a pair is allowed, and not in the other order.
behind : (a b : MemOp) (v : ℤ) → Finds a v → Finds b (left_by a v)
    → (Finds b v → Finds a (left_by b v) → ⊥)
    → Shows memory addresses a b (Write (address_of a) v ∷ []) []
behind a b v finds follows stops = record {
  cell = v;
  allowed = write_allowed (address_of a) v;
  stands = write_stands (address_of a) v;
  finds = finds;
  follows = follows;
  goes_on = λ m h. tt;
  stops = λ h g m l r. stops h g;
}

other_is_other : (v : ℤ) → other_than v ≡ v → ⊥
other_is_other v e = grind (arith, ints)

read_allowed : (m : FinMap int_cmp ℤ) (a v : ℤ) → value_at m a ≡ v
    → AllowedFrom memory m (Read a v ∷ [])
read_allowed m a v h = ((memory_keyed.legal m (Read a v)).1 h, tt)

read_found : (m : FinMap int_cmp ℤ) (a v : ℤ) → AllowedFrom memory m (Read a v ∷ [])
    → value_at m a ≡ v
read_found m a v h = (memory_keyed.legal m (Read a v)).0 h.0

-- If the table does not let a pair on one address swap, the lists show that it does not.
shown : (a b : MemOp) → address_of a ≡ address_of b → may_swap_there a b ≡ false
    → Shows memory addresses a b (lists_round a b).0 (lists_round a b).1
shown (Read a v) (Read b w) e t = absurd (cc)
shown (Read a v) (Write b w) e t = behind (Read a v) (Write b w) v refl tt
    (λ h g. unlike v w t (sym g))
shown (Read a v) (Cas b f k true) e t = behind (Read a v) (Cas b f k true) v refl
    (chain_follows v v f k t) (λ h g. chain_stops v v f k t h g)
shown (Read a v) (Cas b f k false) e t = absurd (cc)
shown (Write a v) (Read b w) e t =
    behind (Write a v) (Read b w) (other_than v) tt (equal_is v w t)
    (λ h g. other_is_other v (h ∙ sym (equal_is v w t)))
shown (Write a v) (Write b w) e t = record {
  cell = pos 0;
  allowed = tt;
  stands = empty_at a;
  finds = tt;
  follows = tt;
  goes_on = λ m h. read_allowed m a w h;
  stops = λ h g m l r. unlike v w t (sym l ∙ read_found m a w r);
}
shown (Write a v) (Cas b f k true) e t =
    behind (Write a v) (Cas b f k true) (other_than v) tt (equal_is v f t)
    (λ h g. other_is_other v (h ∙ sym (equal_is v f t)))
shown (Write a v) (Cas b f k false) e t =
    behind (Write a v) (Cas b f k false) f tt (unlike v f t) (λ h g. h refl)
shown (Cas a f k true) (Read b w) e t =
    behind (Cas a f k true) (Read b w) f refl (chain_follows f k w w t)
    (λ h g. chain_stops f k w w t h (sym h))
shown (Cas a f k true) (Write b w) e t = record {
  cell = f;
  allowed = write_allowed a f;
  stands = write_stands a f;
  finds = refl;
  follows = tt;
  goes_on = λ m h. read_allowed m a w h;
  stops = λ h g m l r. settled_stops f k w t g (sym l ∙ read_found m a w r);
}
shown (Cas a f k true) (Cas b g j true) e t =
    behind (Cas a f k true) (Cas b g j true) f refl (chain_follows f k g j t)
    (λ h i. chain_stops f k g j t h i)
shown (Cas a f k true) (Cas b g j false) e t =
    behind (Cas a f k true) (Cas b g j false) f refl (either_stops f g k g t)
    (λ h i. h (either_follows f g k g t))
shown (Cas a f k false) (Read b w) e t = absurd (cc)
shown (Cas a f k false) (Write b w) e t =
    behind (Cas a f k false) (Write b w) (other_than f) (other_is_other f) tt
    (λ h g. g (sym (equal_is f w t)))
shown (Cas a f k false) (Cas b g j true) e t =
    behind (Cas a f k false) (Cas b g j true) g (either_stops j f g f t) refl
    (λ h i. i (either_follows j f g f t))
shown (Cas a f k false) (Cas b g j false) e t = absurd (cc)

-- They are ranged if the pair is.
abbrev IsRangedNumber : Option ℤ → Type 0
IsRangedNumber None = Unit {0}
IsRangedNumber (Some v) = IsTrue (in_range v)

write_ranged : (a : ℤ) (v : Option ℤ) → IsTrue (in_range a) → IsRangedNumber v
    → AllRanged memory (write_of a v)
write_ranged a None h k = tt
write_ranged a (Some v) h k = (and_from (in_range a) (in_range v) h k, tt)

read_ranged : (a : ℤ) (v : Option ℤ) → IsTrue (in_range a) → IsRangedNumber v
    → AllRanged memory (read_of a v)
read_ranged a None h k = tt
read_ranged a (Some v) h k = (and_from (in_range a) (in_range v) h k, tt)

address_ranged : (a : MemOp) → IsTrue (is_ranged a) → IsTrue (in_range (address_of a))
address_ranged (Read a v) h = (and_parts (in_range a) (in_range v) h).0
address_ranged (Write a v) h = (and_parts (in_range a) (in_range v) h).0
address_ranged (Cas a e n done) h = grind (arith, ints)

value_ranged : (a v : ℤ) → IsTrue (in_range a && in_range v) → IsTrue (in_range v)
value_ranged a v h = (and_parts (in_range a) (in_range v) h).1

expected_ranged : (a e n : ℤ) → IsTrue (in_range a && in_range e && in_range n)
    → IsTrue (in_range e)
expected_ranged a e n h = grind (arith, ints)

other_ranged : (zero : Bool) → IsTrue (in_range (if zero then pos 1 else pos 0))
other_ranged true = refl
other_ranged false = refl

before_ranged : (a b : MemOp) → IsTrue (is_ranged a) → IsTrue (is_ranged b)
    → IsRangedNumber (number_before a b)
before_ranged (Read a v) (Read b w) h k = value_ranged a v h
before_ranged (Read a v) (Write b w) h k = value_ranged a v h
before_ranged (Read a v) (Cas b e n done) h k = value_ranged a v h
before_ranged (Write a v) (Read b w) h k = other_ranged (int_eq v (pos 0))
before_ranged (Write a v) (Write b w) h k = tt
before_ranged (Write a v) (Cas b e n true) h k = other_ranged (int_eq v (pos 0))
before_ranged (Write a v) (Cas b e n false) h k = expected_ranged b e n k
before_ranged (Cas a e n true) (Read b w) h k = expected_ranged a e n h
before_ranged (Cas a e n true) (Write b w) h k = expected_ranged a e n h
before_ranged (Cas a e n true) (Cas b g j done) h k = expected_ranged a e n h
before_ranged (Cas a g j false) (Read b w) h k = other_ranged (int_eq g (pos 0))
before_ranged (Cas a g j false) (Write b w) h k = other_ranged (int_eq g (pos 0))
before_ranged (Cas a g j false) (Cas b e n done) h k = expected_ranged b e n k

after_ranged : (a b : MemOp) → IsTrue (is_ranged b) → IsRangedNumber (number_after a b)
after_ranged (Read a v) (Read b w) k = tt
after_ranged (Read a v) (Write b w) k = tt
after_ranged (Read a v) (Cas b e n done) k = tt
after_ranged (Write a v) (Read b w) k = tt
after_ranged (Write a v) (Write b w) k = value_ranged b w k
after_ranged (Write a v) (Cas b e n done) k = tt
after_ranged (Cas a e n true) (Read b w) k = tt
after_ranged (Cas a e n true) (Write b w) k = value_ranged b w k
after_ranged (Cas a e n true) (Cas b g j done) k = tt
after_ranged (Cas a e n false) (Read b w) k = tt
after_ranged (Cas a e n false) (Write b w) k = tt
after_ranged (Cas a e n false) (Cas b g j done) k = tt

memory_shown : IsShown memory addresses may_swap_there lists_round
memory_shown = record {
  by_table = λ a b. refl;
  turns = turns;
  shown = shown;
  ranged_before = λ a b h k. write_ranged (address_of a) (number_before a b) (address_ranged a h)
      (before_ranged a b h k);
  ranged_after = λ a b h k. read_ranged (address_of a) (number_after a b) (address_ranged a h)
      (after_ranged a b k);
}

-- The pair swaps exactly if the table lets it, and else nowhere.
told : IsTold memory may_swap lists_round
told = keyed.table_tells memory addresses may_swap_there lists_round memory_keyed memory_shown

-- Two operations on a memory swap exactly if the table says so.
pub may_swap_exact : (a b : MemOp) → (may_swap a b ≡ true) ↔ Swaps memory a b
may_swap_exact = swaps_exact memory may_swap lists_round told

-- Two operations on a memory swap nowhere if the table says that they do not swap.
pub may_not_swap : (a b : MemOp) → may_swap a b ≡ false → SwapsNowhere memory a b
may_not_swap = swaps_nowhere memory may_swap lists_round told

-- A memory is lawful.
pub memory_lawful : IsLawful memory
memory_lawful = keyed.keyed_lawful memory addresses may_swap_there lists_round memory_keyed
    memory_shown

-- Reads and compare-and-swaps that failed swap with one another.
clique_by : (a b : MemOp) → may_swap_there a b ≡ true → Swaps memory a b
clique_by a b there = (may_swap_exact a b).0
    (cond_both (int_eq (address_of a) (address_of b)) (may_swap_there a b) true
    (λ t. t ≡ true) (λ e. there) (λ e. refl))

-- Any two operations in the clique of a memory swap: reads and failed compare-and-swaps.
pub clique_swaps : CliqueSwaps memory
clique_swaps (Read a v) (Read b w) h k = clique_by (Read a v) (Read b w) refl
clique_swaps (Read a v) (Cas b f m false) h k = clique_by (Read a v) (Cas b f m false) refl
clique_swaps (Cas a e n false) (Read b w) h k = clique_by (Cas a e n false) (Read b w) refl
clique_swaps (Cas a e n false) (Cas b f m false) h k =
    clique_by (Cas a e n false) (Cas b f m false) refl
clique_swaps (Read a v) (Write b w) h k = absurd (cc)
clique_swaps (Read a v) (Cas b f m true) h k = absurd (cc)
clique_swaps (Cas a e n false) (Write b w) h k = absurd (cc)
clique_swaps (Cas a e n false) (Cas b f m true) h k = absurd (cc)
clique_swaps (Write a v) b h k = absurd (cc)
clique_swaps (Cas a e n true) b h k = absurd (cc)
