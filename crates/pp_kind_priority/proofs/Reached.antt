-- Proof machinery: how many values a run leaves.
use Rattle.std.proofs.Common.{◌≡◌, ℤ, suc, ◌≤◌, ◌<◌, ◌+◌, Bool, true, false, int_le, if◌then◌else◌}
use Rattle.std.proofs.Common.{List, [], ◌∷◌, length, refl, ap, arith}
use Rattle.pp_kind.specs.declared.range.TheConstants.{MOST_OPERATIONS}
use Rattle.pp_kind.specs.Object.{state_from, IsReached}
use Rattle.pp_kind_priority.specs.declared.op.PrioOp.{PrioOp}
use Rattle.pp_kind_priority.specs.declared.op.PrioOp.TheVariants.{Insert, Take, Least}
use Rattle.pp_kind_priority.specs.Values.{without_least, with_one}
use Rattle.pp_kind_priority.specs.Operations.{values_after}
use Rattle.pp_kind_priority.specs.Prios.{prio}

grown_by : (v x : ℤ) (values : List ℤ) (t : Bool)
    → length (with_one v values) ≡ suc (length values)
    → length (if t then v ∷ x ∷ values else x ∷ with_one v values) ≡ suc (length (x ∷ values))
grown_by v x values true h = refl
grown_by v x values false h = ap suc h

-- With one more value there is one value more.
pub grown : (v : ℤ) (values : List ℤ) → length (with_one v values) ≡ suc (length values)
grown v [] = refl
grown v (x ∷ values) = grown_by v x values (int_le v x) (grown v values)

shrunk : (values : List ℤ) → length (without_least values) ≤ length values
shrunk [] = omega arith
shrunk (x ∷ values) = omega arith

-- An operation leaves at most one value more.
pub after_length : (values : List ℤ) (op : PrioOp)
    → length (values_after values op) ≤ length values + 1
after_length values (Insert v) = let h = grown v values in omega arith
after_length values (Take v) = let h = shrunk values in omega arith
after_length values (Least v) = omega arith

run_length : (values : List ℤ) (ops : List PrioOp)
    → length (state_from prio values ops) ≤ length values + length ops
run_length values [] = omega arith
run_length values (op ∷ ops) = let h = run_length (values_after values op) ops in
    let k = after_length values op in omega arith

-- A run leaves fewer values than a log may have operations.
pub reached_length : (values : List ℤ) → IsReached prio values → length values < MOST_OPERATIONS
reached_length values h = let k = run_length [] h.ops in let f = h.few in
    let e = ap (λ (l : List ℤ). length l) h.log.is in omega arith
