-- Meaning: operations that show that a pair does not swap.
use Rattle.std.specs.Prelude.{ℤ, if◌then◌else◌, List, [], ◌∷◌, Option, Some, None}
use Rattle.pp_kind_priority.specs.declared.op.PrioOp.{PrioOp}
use Rattle.pp_kind_priority.specs.declared.op.PrioOp.TheVariants.{Insert, Take, Least}
use Rattle.pp_kind_priority.specs.Operations.{found_by}
use Rattle.pp_kind_priority.specs.Movers.{may_swap}

-- the value that was found is inserted, if there was one
abbrev pub insertion_of : Option ℤ → List PrioOp
insertion_of None = []
insertion_of (Some x) = Insert x ∷ []

-- what is before a pair: what the first finds, and if the first takes it, what the second finds
abbrev pub before_pair : PrioOp → PrioOp → List PrioOp
before_pair (Insert value) b = []
before_pair (Take None) b = []
before_pair (Take (Some x)) b = Insert x ∷ insertion_of (found_by b)
before_pair (Least value) b = insertion_of value

-- nothing is after it
abbrev pub lists_round : PrioOp → PrioOp → List PrioOp × List PrioOp
lists_round a b = (before_pair a b, [])

-- the refuting lists of a pair, if it does not swap
abbrev pub refuting_lists : PrioOp → PrioOp → Option (List PrioOp × List PrioOp)
refuting_lists a b = if may_swap a b then None else Some (lists_round a b)
