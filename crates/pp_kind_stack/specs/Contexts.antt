-- Meaning: operations that show that a pair does not swap.
use Rattle.std.specs.Prelude.{if◌then◌else◌, List, [], ◌∷◌, Option, Some, None}
use Rattle.pp_kind_stack.specs.declared.op.StackOp.{StackOp}
use Rattle.pp_kind_stack.specs.declared.op.StackOp.TheVariants.{Push, Pop}
use Rattle.pp_kind_stack.specs.Movers.{may_swap}

-- before a pop that took an item, what it took, and below that what the second took
abbrev pub before_pair : StackOp → StackOp → List StackOp
before_pair (Push value) (Push other) = []
before_pair (Push value) (Pop found) = []
before_pair (Pop None) (Push value) = []
before_pair (Pop None) (Pop found) = []
before_pair (Pop (Some x)) (Push value) = Push x ∷ []
before_pair (Pop (Some x)) (Pop (Some y)) = Push y ∷ Push x ∷ []
before_pair (Pop (Some x)) (Pop None) = Push x ∷ []

-- after two items, the second of them is taken
abbrev pub after_pair : StackOp → StackOp → List StackOp
after_pair (Push x) (Push y) = Pop (Some y) ∷ []
after_pair (Push x) (Pop value) = []
after_pair (Pop found) (Push value) = []
after_pair (Pop found) (Pop other) = []

-- the operations before and after such a pair
abbrev pub lists_round : StackOp → StackOp → List StackOp × List StackOp
lists_round a b = (before_pair a b, after_pair a b)

-- the refuting lists of a pair, if it does not swap
abbrev pub refuting_lists : StackOp → StackOp → Option (List StackOp × List StackOp)
refuting_lists a b = if may_swap a b then None else Some (lists_round a b)
