-- What the operations of the run return, which states they lead to, and which of them swap.
use Rattle.std.proofs.Common.{◌≡◌, ℕ, suc, ◌+◌, ◌%◌, ℤ, pos, Bool, true, false, cond, if◌then◌else◌, List, [], ◌∷◌, Some, None, refl, sym, ap, ◌∙◌, int_eq, arith}
use Rattle.std.specs.Ordering.{int_cmp}
use Rattle.std.specs.FinMap.{FinMap, empty}
use Rattle.pp_core.specs.declared.answer.Answer.TheVariants.{Number, Truth}
use Rattle.pp_model.specs.Object.{AllowedFrom, Swaps, state_from}
use Rattle.pp_kind_memory.specs.Values.{value_at, written}
use Rattle.pp_kind_memory.specs.laws.Written.{written_at, written_has_no_zero, empty_has_no_zero, one_memory}
use Rattle.pp_kind_memory.specs.laws.Written as memories
use Rattle.pp_kind_set.specs.Contexts.{lists_round}
use Rattle.pp_kind_set.specs.declared.op.SetOp.{SetOp}
use Rattle.pp_kind_set.specs.declared.op.SetOp.TheVariants.{Contains}
use Rattle.pp_kind_set.specs.laws.Bits as bits
use Rattle.pp_objects.specs.declared.act.Act.TheVariants.{KeySet}
use Rattle.pp_objects.specs.declared.act.Op.{Op}
use Rattle.pp_objects.specs.declared.states.ObjectState.{ObjectState}
use Rattle.pp_objects.specs.declared.states.ObjectState.TheVariants as states
use Rattle.pp_objects.specs.One.{both_as}
use Rattle.pp_objects.specs.Objects.{act_at}
use Rattle.pp_objects.specs.laws.Objects.{objects_lawful}
use Rattle.pp_cmd_drill.specs.Drill.{drill_kinds, read, write, add, ask}
use Rattle.pp_cmd_drill.specs.Law.{drill_objects, sum_to, states_at}

-- The states of the objects of the drill: a memory, a counter and an empty set.
abbrev pub three : FinMap int_cmp ℤ → ℤ → List ObjectState
three m x = states.Memory m ∷ states.Counter x ∷ states.KeySet empty ∷ []

-- The operations of the first transaction of a pair.
abbrev pub of_first : ℕ → ℕ → List Op
of_first p a = read p ∷ write (suc p) ∷ add a ∷ ask a ∷ []

-- The operations of the second transaction of a pair.
abbrev pub of_second : ℕ → List Op
of_second b = add b ∷ ask b ∷ []

-- The operations of a pair in the order of their pushes.
abbrev pub of_both : ℕ → ℕ → ℕ → List Op
of_both p a b = read p ∷ add b ∷ write (suc p) ∷ ask b ∷ add a ∷ ask a ∷ []

-- The operations of a pair in the order of their commits.
abbrev pub in_order : ℕ → ℕ → ℕ → List Op
in_order p a b = add b ∷ ask b ∷ read p ∷ write (suc p) ∷ add a ∷ ask a ∷ []

-- The operations of the first are allowed if m has p at 0.
pub first_allowed : (m : FinMap int_cmp ℤ) (x : ℤ) (p a : ℕ) → value_at m (pos 0) ≡ pos p → AllowedFrom drill_objects (three m x) (of_first p a)
first_allowed m x p a h = ((refl, ap Number h), ((refl, refl), ((refl, refl), ((refl, ap Truth (bits.empty_at (pos a))), tt))))

-- The operations of the second are allowed with any memory and counter and the empty s.
pub second_allowed : (m : FinMap int_cmp ℤ) (x : ℤ) (b : ℕ) → AllowedFrom drill_objects (three m x) (of_second b)
second_allowed m x b = ((refl, refl), ((refl, ap Truth (bits.empty_at (pos b))), tt))

-- The operations of both, in the order of the pushes, are allowed if m has p at 0.
pub both_allowed : (m : FinMap int_cmp ℤ) (x : ℤ) (p a b : ℕ) → value_at m (pos 0) ≡ pos p → AllowedFrom drill_objects (three m x) (of_both p a b)
both_allowed m x p a b h = ((refl, ap Number h), ((refl, refl), ((refl, refl), ((refl, ap Truth (bits.empty_at (pos b))), ((refl, refl), ((refl, ap Truth (bits.empty_at (pos a))), tt))))))

-- The operations of both, in the order of the commits, are allowed if m has p at 0.
pub in_order_allowed : (m : FinMap int_cmp ℤ) (x : ℤ) (p a b : ℕ) → value_at m (pos 0) ≡ pos p → AllowedFrom drill_objects (three m x) (in_order p a b)
in_order_allowed m x p a b h = ((refl, refl), ((refl, ap Truth (bits.empty_at (pos b))), ((refl, ap Number h), ((refl, refl), ((refl, refl), ((refl, ap Truth (bits.empty_at (pos a))), tt))))))

-- A memory that is written at 0 has this number at 0.
pub value_is : (p : ℕ) → value_at (written empty (pos 0) (pos p)) (pos 0) ≡ pos p
value_is p = written_at empty (pos 0) (pos p) (pos 0)

covered : (here : Bool) (v w o : ℤ) → cond here w (cond here v o) ≡ cond here w o
covered true v w o = refl
covered false v w o = refl

-- Writing v and then w at 0 of the empty memory is writing w alone.
pub written_again : (v w : ℤ) → written (written empty (pos 0) v) (pos 0) w ≡ written empty (pos 0) w
written_again v w =
    one_memory (written (written empty (pos 0) v) (pos 0) w) (written empty (pos 0) w)
    (written_has_no_zero (written empty (pos 0) v) (pos 0) w (written_has_no_zero empty (pos 0) v empty_has_no_zero))
    (written_has_no_zero empty (pos 0) w empty_has_no_zero)
    (λ q.
    written_at (written empty (pos 0) v) (pos 0) w q
    ∙ ap (λ (x : ℤ). cond (int_eq q (pos 0)) w x) (written_at empty (pos 0) v q)
    ∙ covered (int_eq q (pos 0)) v w (value_at empty q)
    ∙ sym (written_at empty (pos 0) w q))

same_zero : (here : Bool) (o : ℤ) → o ≡ pos 0 → cond here (pos 0) o ≡ o
same_zero true o e = sym e
same_zero false o e = refl

-- With 0 at 0 in m and c at 0, the objects are at their start.
pub at_start : states_at 0 0 ≡ drill_objects.start
at_start =
    ap (λ (m : FinMap int_cmp ℤ). three m (pos 0))
    (one_memory (written empty (pos 0) (pos 0)) empty (written_has_no_zero empty (pos 0) (pos 0) empty_has_no_zero) empty_has_no_zero
    (λ q. written_at empty (pos 0) (pos 0) q ∙ same_zero (int_eq q (pos 0)) (value_at empty q) (memories.empty_at q)))

-- The sum that the additions make.
pub sum_next : (x a : ℕ) → a ≡ suc x → sum_to a ≡ sum_to x + a % 7
sum_next x a e = ap sum_to e ∙ ap (λ (k : ℕ). sum_to x + k % 7) (sym e)

-- From p pairs and the sum to x, the operations of x + 1 and x + 2 in the order of the pushes lead to one more pair and the sum to x + 2.
pub after_both : (p x a b : ℕ) → a ≡ suc x → b ≡ suc a → state_from drill_objects (states_at p (sum_to x)) (of_both p a b) ≡ states_at (suc p) (sum_to b)
after_both p x a b e f =
    let s : sum_to x + b % 7 + a % 7 ≡ sum_to b = let g = sum_next x a e in let h = sum_next a b f in omega arith in
    ap (λ (m : FinMap int_cmp ℤ). three m (pos (sum_to x + b % 7 + a % 7))) (written_again (pos p) (pos (suc p))) ∙ ap (λ (k : ℕ). states_at (suc p) k) s

-- From p pairs and the sum to x, the operations of x + 1 and x + 2 in the order of the commits lead to one more pair and the sum to x + 2.
pub after_order : (p x a b : ℕ) → a ≡ suc x → b ≡ suc a → state_from drill_objects (states_at p (sum_to x)) (in_order p a b) ≡ states_at (suc p) (sum_to b)
after_order p x a b e f = after_both p x a b e f

-- From p pairs and the sum to x, the operations of x + 1 alone lead to one more pair and the sum to x + 1.
pub after_first : (p x a : ℕ) → a ≡ suc x → state_from drill_objects (states_at p (sum_to x)) (of_first p a) ≡ states_at (suc p) (sum_to a)
after_first p x a e =
    ap (λ (m : FinMap int_cmp ℤ). three m (pos (sum_to x + a % 7))) (written_again (pos p) (pos (suc p))) ∙ ap (λ (k : ℕ). states_at (suc p) k) (sym (sum_next x a e))

-- Which operations swap: additions, questions with the result false, and operations on two objects.
pub adds_swap : (a b : ℕ) → Swaps drill_objects (add a) (add b)
adds_swap a b = (objects_lawful.unrefuted (add a) (add b)).0 refl drill_kinds

either : (c : Bool) → (if c then true else true) ≡ true
either true = refl
either false = refl

-- A query of s may move left past another query of s.
pub asks_swap : (a b : ℕ) → Swaps drill_objects (ask a) (ask b)
asks_swap a b =
    let x : SetOp = Contains (pos a) false in
    let y : SetOp = Contains (pos b) false in
    (objects_lawful.unrefuted (ask a) (ask b)).0 (ap (λ (z : Bool). both_as (act_at 2) (both_as KeySet (if z then None else Some (lists_round x y)))) (either (int_eq (pos a) (pos b)))) drill_kinds

-- An addition to c may move left past a read of m.
pub read_add_swap : (p b : ℕ) → Swaps drill_objects (read p) (add b)
read_add_swap p b = (objects_lawful.unrefuted (read p) (add b)).0 refl drill_kinds

-- A write of m may move left past an addition to c.
pub add_write_swap : (p b : ℕ) → Swaps drill_objects (add b) (write p)
add_write_swap p b = (objects_lawful.unrefuted (add b) (write p)).0 refl drill_kinds

-- A query of s may move left past a read of m.
pub read_ask_swap : (p b : ℕ) → Swaps drill_objects (read p) (ask b)
read_ask_swap p b = (objects_lawful.unrefuted (read p) (ask b)).0 refl drill_kinds

-- A query of s may move left past a write of m.
pub write_ask_swap : (p b : ℕ) → Swaps drill_objects (write p) (ask b)
write_ask_swap p b = (objects_lawful.unrefuted (write p) (ask b)).0 refl drill_kinds

-- An addition to c may move left past a query of s.
pub ask_add_swap : (a b : ℕ) → Swaps drill_objects (ask b) (add a)
ask_add_swap a b = (objects_lawful.unrefuted (ask b) (add a)).0 refl drill_kinds

-- A query of s may move left past an addition to c.
pub add_ask_swap : (a b : ℕ) → Swaps drill_objects (add b) (ask a)
add_ask_swap a b = (objects_lawful.unrefuted (add b) (ask a)).0 refl drill_kinds
