-- Proof machinery: when an operation of a counter is legal.
use Rattle.std.proofs.Common.{◌≡◌, ℤ, refl, ap, rules}
use Rattle.pp_core.specs.declared.call.Call.{Call}
use Rattle.pp_core.specs.declared.answer.Answer.TheVariants.{Number}
use Rattle.pp_kind.specs.Object.{IsLegal}
use Rattle.pp_kind_counter.specs.declared.op.CounterOp.{CounterOp}
use Rattle.pp_kind_counter.specs.declared.op.CounterOp.TheVariants.{Add, Get, FetchAdd}
use Rattle.pp_kind_counter.specs.Operations.{given_by, call_of}
use Rattle.pp_kind_counter.specs.Count.{counter}

-- The number that the result of an operation shows.
abbrev pub Tells : CounterOp → ℤ → Type 0
Tells (Add by) n = Unit {0}
Tells (Get value) n = n ≡ value
Tells (FetchAdd by was) n = n ≡ was

-- An operation is legal exactly at the number that its result shows.
pub told : (op : CounterOp) (n : ℤ) → IsLegal counter n op → Tells op n
told (Add by) n h = tt
told (Get value) n h = let k = h.1 in cc
told (FetchAdd by was) n h = let k = h.1 in cc

-- An operation is legal at the number that it records.
pub legal_where_told : (op : CounterOp) (n : ℤ) → Tells op n → IsLegal counter n op
legal_where_told (Add by) n h = (search rules, refl)
legal_where_told (Get value) n h = (search rules, ap Number h)
legal_where_told (FetchAdd by was) n h = (search rules, ap Number h)

-- Operations of one call have one result in one state.
pub same_given : (n : ℤ) (a b : CounterOp) → call_of a ≡ call_of b → given_by n a ≡ given_by n b
same_given n (Add d) (Add e) h = refl
same_given n (Get v) (Get w) h = refl
same_given n (FetchAdd d v) (FetchAdd e w) h = refl
same_given n (Get v) (FetchAdd e w) h = refl
same_given n (FetchAdd d v) (Get w) h = refl
same_given n (Add d) (Get w) h = let m = ap (λ (c : Call). c.method) h in cc
same_given n (Add d) (FetchAdd e w) h = let m = ap (λ (c : Call). c.method) h in cc
same_given n (Get v) (Add e) h = let m = ap (λ (c : Call). c.method) h in cc
same_given n (FetchAdd d v) (Add e) h = let m = ap (λ (c : Call). c.method) h in cc
