-- Proof machinery: when an operation of a priority queue is legal, and that its values ascend.
use Rattle.std.proofs.Common.{◌≡◌, ℤ, List, refl, ap}
use Rattle.pp_core.specs.declared.call.Call.{Call}
use Rattle.pp_kind.specs.Found.{answer_of}
use Rattle.pp_kind.specs.Object.{IsLegal}
use Rattle.pp_kind.proofs.Results.{same_found}
use Rattle.pp_kind_priority.specs.declared.op.PrioOp.{PrioOp}
use Rattle.pp_kind_priority.specs.declared.op.PrioOp.TheVariants.{Insert, Take, Least}
use Rattle.pp_kind_priority.specs.Values.{least_of, IsAscending}
use Rattle.pp_kind_priority.specs.Operations.{values_after, given_by, call_of}
use Rattle.pp_kind_priority.specs.Prios.{prio}
use Rattle.pp_kind_priority.specs.laws.Values.{with_one_ascends, rest_ascends}

-- The least value that the result of an operation shows.
abbrev pub Tells : PrioOp → List ℤ → Type 0
Tells (Insert value) values = Unit {0}
Tells (Take value) values = least_of values ≡ value
Tells (Least value) values = least_of values ≡ value

-- An operation is legal exactly if its result shows the least value.
pub told : (op : PrioOp) (values : List ℤ) → IsLegal prio values op → Tells op values
told (Insert value) values h = tt
told (Take value) values h = same_found (least_of values) value h.1
told (Least value) values h = same_found (least_of values) value h.1

-- An operation is legal if the least value is the one that it records.
pub legal_where_told : (op : PrioOp) (values : List ℤ) → Tells op values → IsLegal prio values op
legal_where_told (Insert value) values h = (refl, refl)
legal_where_told (Take value) values h = (refl, ap answer_of h)
legal_where_told (Least value) values h = (refl, ap answer_of h)

-- Each operation leaves ascending values.
pub after_ascends : (values : List ℤ) (op : PrioOp) → IsAscending values
    → IsAscending (values_after values op)
after_ascends values (Insert value) h = with_one_ascends value values h
after_ascends values (Take value) h = rest_ascends values h
after_ascends values (Least value) h = h

-- Operations of one call have one result in one state.
pub same_given : (values : List ℤ) (a b : PrioOp) → call_of a ≡ call_of b
    → given_by values a ≡ given_by values b
same_given values (Insert x) (Insert y) h = refl
same_given values (Insert x) (Take q) h = let m = ap (λ (c : Call). c.method) h in cc
same_given values (Insert x) (Least q) h = let m = ap (λ (c : Call). c.method) h in cc
same_given values (Take r) (Insert y) h = let m = ap (λ (c : Call). c.method) h in cc
same_given values (Take r) (Take q) h = refl
same_given values (Take r) (Least q) h = refl
same_given values (Least r) (Insert y) h = let m = ap (λ (c : Call). c.method) h in cc
same_given values (Least r) (Take q) h = refl
same_given values (Least r) (Least q) h = refl
