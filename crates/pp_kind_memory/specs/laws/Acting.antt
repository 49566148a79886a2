-- Proof machinery: how the operations of a memory act at their addresses.
use Rattle.std.proofs.Common.{◌≡◌, ◌≢◌, ℤ, Bool, true, false, cond, if◌then◌else◌, ◌&&◌, refl, sym}
use Rattle.std.proofs.Common.{◌∙◌, ap, int_eq}
use Rattle.std.proofs.Math.Bool.{and-true}
use Rattle.std.specs.Ordering.{int_cmp}
use Rattle.std.specs.FinMap.{FinMap}
use Rattle.pp_core.specs.declared.answer.Answer.TheVariants.{Number, Truth}
use Rattle.pp_core.specs.declared.call.Call.{Call}
use Rattle.pp_kind.proofs.Numbers.{one_ranged, two_ranged}
use Rattle.pp_kind.specs.Numbers.{in_range, has_ranged_arguments, is_ranged_answer}
use Rattle.pp_kind.specs.Object.{IsLegal}
use Rattle.pp_kind_keyed.specs.Keys.{IsKeyed}
use Rattle.pp_kind_keyed.proofs.Rule.{same_key, key_is, stands_at, covered}
use Rattle.pp_kind_memory.specs.declared.op.MemOp.{MemOp}
use Rattle.pp_kind_memory.specs.declared.op.MemOp.TheVariants.{Read, Write, Cas}
use Rattle.pp_kind_memory.specs.declared.undo.Undo.{Undo}
use Rattle.pp_kind_memory.specs.Values.{value_at, written, HasNoZero}
use Rattle.pp_kind_memory.specs.Operations.{address_of, Finds, left_by, call_of, recorded_by, given_by}
use Rattle.pp_kind_memory.specs.Operations.{is_ranged, memory_after, kept_by, memory_before, number_of}
use Rattle.pp_kind_memory.specs.Memories.{memory, addresses}
use Rattle.pp_kind_memory.specs.laws.Written.{written_at, written_has_no_zero, empty_has_no_zero}
use Rattle.pp_kind_memory.specs.laws.Written.{one_memory}

-- Whether the number is the expected one.
told_equal : (v e : ℤ) → Truth (int_eq v e) ≡ Truth true → v ≡ e
told_equal v e h = same_key v e cc

told_unlike : (v e : ℤ) → Truth (int_eq v e) ≡ Truth false → v ≢ e
told_unlike v e h k = let f = key_is v e k in let g : true ≡ false = cc in cc

unlike_told : (b : Bool) (v e : ℤ) → int_eq v e ≡ b → v ≢ e → Truth b ≡ Truth false
unlike_told true v e h k = absurd (k (same_key v e h))
unlike_told false v e h k = refl

-- An operation is legal exactly if it finds what is at its address.
legal_finds : (m : FinMap int_cmp ℤ) (a : MemOp) → IsLegal memory m a
    → Finds a (value_at m (address_of a))
legal_finds m (Read a v) h = let k = h.1 in cc
legal_finds m (Write a v) h = tt
legal_finds m (Cas a e n true) h = told_equal (value_at m a) e h.1
legal_finds m (Cas a e n false) h = told_unlike (value_at m a) e h.1

finds_legal : (m : FinMap int_cmp ℤ) (a : MemOp) → Finds a (value_at m (address_of a))
    → IsLegal memory m a
finds_legal m (Read a v) h = (refl, ap Number h)
finds_legal m (Write a v) h = (refl, refl)
finds_legal m (Cas a e n true) h = (refl, ap Truth (key_is (value_at m a) e h))
finds_legal m (Cas a e n false) h =
    (refl, unlike_told (int_eq (value_at m a) e) (value_at m a) e refl h)

-- The state after a compare-and-swap whose number is the expected one, and after one whose number
-- is not.
swapped : (m : FinMap int_cmp ℤ) (a e n : ℤ) → IsLegal memory m (Cas a e n true)
    → memory_after m (Cas a e n true) ≡ written m a n
swapped m a e n h = ap (λ (b : Bool). if b then written m a n else m)
    (key_is (value_at m a) e (legal_finds m (Cas a e n true) h))

left_alone : (m : FinMap int_cmp ℤ) (a e n : ℤ) → IsLegal memory m (Cas a e n false)
    → memory_after m (Cas a e n false) ≡ m
left_alone m a e n h = ap (λ (b : Bool). if b then written m a n else m)
    (let k = h.1 in let g : int_eq (value_at m a) e ≡ false = cc in g)

-- The state after an operation, and the state after it is taken back.
either_way : (b : Bool) (v : ℤ) → v ≡ cond b v v
either_way true v = refl
either_way false v = refl

next_at : (m : FinMap int_cmp ℤ) (a : MemOp) (q : ℤ) → IsLegal memory m a
    → value_at (memory_after m a) q
    ≡ cond (int_eq q (address_of a)) (left_by a (value_at m q)) (value_at m q)
next_at m (Read a v) q h = either_way (int_eq q a) (value_at m q)
next_at m (Write a v) q h = written_at m a v q
next_at m (Cas a e n true) q h =
    ap (λ (s : FinMap int_cmp ℤ). value_at s q) (swapped m a e n h) ∙ written_at m a n q
next_at m (Cas a e n false) q h =
    ap (λ (s : FinMap int_cmp ℤ). value_at s q) (left_alone m a e n h)
    ∙ either_way (int_eq q a) (value_at m q)

written_back : (m : FinMap int_cmp ℤ) (a v was q : ℤ) → value_at m a ≡ was
    → value_at (written (written m a v) a was) q ≡ value_at m q
written_back m a v was q h =
    written_at (written m a v) a was q
    ∙ ap (cond (int_eq q a) was) (written_at m a v q)
    ∙ covered (int_eq q a) was v (value_at m q)
    ∙ stands_at (value_at m) a q was (int_eq q a) refl h

back_at : (m : FinMap int_cmp ℤ) (a : MemOp) (q : ℤ) → IsLegal memory m a
    → value_at (memory_before (memory_after m a) a (kept_by m a)) q ≡ value_at m q
back_at m (Read a v) q h = refl
back_at m (Write a v) q h = written_back m a v (value_at m a) q refl
back_at m (Cas a e n true) q h =
    ap (λ (s : FinMap int_cmp ℤ). value_at (written s a e) q) (swapped m a e n h)
    ∙ written_back m a n e q (legal_finds m (Cas a e n true) h)
back_at m (Cas a e n false) q h =
    ap (λ (s : FinMap int_cmp ℤ). value_at s q) (left_alone m a e n h)

-- No 0 is kept by any of them.
chosen_has_no_zero : (b : Bool) (m : FinMap int_cmp ℤ) (a v : ℤ) → HasNoZero m
    → HasNoZero (if b then written m a v else m)
chosen_has_no_zero true m a v h = written_has_no_zero m a v h
chosen_has_no_zero false m a v h = h

next_has_no_zero : (m : FinMap int_cmp ℤ) (a : MemOp) → HasNoZero m → HasNoZero (memory_after m a)
next_has_no_zero m (Read a v) h = h
next_has_no_zero m (Write a v) h = written_has_no_zero m a v h
next_has_no_zero m (Cas a e n done) h = chosen_has_no_zero (int_eq (value_at m a) e) m a n h

back_has_no_zero : (m : FinMap int_cmp ℤ) (a : MemOp) (u : Undo) → HasNoZero m
    → HasNoZero (memory_before m a u)
back_has_no_zero m (Read a v) u h = h
back_has_no_zero m (Write a v) u h = written_has_no_zero m a (number_of u) h
back_has_no_zero m (Cas a e n done) u h = chosen_has_no_zero done m a e h

-- Operations of one call have one result in one state.
same_given : (m : FinMap int_cmp ℤ) (a b : MemOp) → call_of a ≡ call_of b
    → given_by m a ≡ given_by m b
same_given m (Read a v) (Read b w) h = ap (λ (c : Call). Number (value_at m c.first)) h
same_given m (Write a v) (Write b w) h = refl
same_given m (Cas a e n done) (Cas b f k other) h =
    ap (λ (c : Call). Truth (int_eq (value_at m c.first) c.second)) h
same_given m (Read a v) (Write b w) h = let e = ap (λ (c : Call). c.method) h in cc
same_given m (Read a v) (Cas b f k other) h = let e = ap (λ (c : Call). c.method) h in cc
same_given m (Write a v) (Read b w) h = let e = ap (λ (c : Call). c.method) h in cc
same_given m (Write a v) (Cas b f k other) h = let e = ap (λ (c : Call). c.method) h in cc
same_given m (Cas a e n done) (Read b w) h = let e = ap (λ (c : Call). c.method) h in cc
same_given m (Cas a e n done) (Write b w) h = let e = ap (λ (c : Call). c.method) h in cc

-- An operation is ranged if its arguments and its recorded result are.
numbers : (a : MemOp) → is_ranged a
    ≡ (has_ranged_arguments (call_of a) && is_ranged_answer (recorded_by a))
numbers (Read a v) = ap (λ (b : Bool). b && in_range v) (sym (one_ranged a))
numbers (Write a v) = sym (and-true (has_ranged_arguments (call_of (Write a v))) ∙ two_ranged a v)
numbers (Cas a e n done) = sym (and-true (has_ranged_arguments (call_of (Cas a e n done))))

-- A memory acts by its addresses.
pub memory_keyed : IsKeyed memory addresses
memory_keyed = record {
  one_state = one_memory;
  legal = λ m a. (legal_finds m a, finds_legal m a);
  next_cell = next_at;
  back_cell = back_at;
  read_key = λ q c. refl;
  read_finds = λ q c d. ((λ h. h), (λ h. h));
  start_is_state = empty_has_no_zero;
  next_is_state = λ m a is h. next_has_no_zero m a is;
  back_is_state = λ m a is h. back_has_no_zero (memory_after m a) a (kept_by m a)
      (next_has_no_zero m a is);
  one_given = same_given;
  ranged_numbers = numbers;
}
