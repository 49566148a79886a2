-- Meaning: operations that show that a pair does not swap.
use Rattle.std.specs.Prelude.{ℤ, Bool, true, false, if◌then◌else◌, List, [], ◌∷◌, Option, Some}
use Rattle.std.specs.Prelude.{None}
use Rattle.pp_kind_set.specs.declared.op.SetOp.{SetOp}
use Rattle.pp_kind_set.specs.declared.op.SetOp.TheVariants.{Add}
use Rattle.pp_kind_set.specs.Operations.{key_of, bit_before}
use Rattle.pp_kind_set.specs.Movers.{may_swap}

-- operations that lead a key from the empty set to being in or not
abbrev pub reach : ℤ → Bool → List SetOp
reach k true = Add k true ∷ []
reach k false = []

-- the operations before and after a pair on one key that does not swap
abbrev pub lists_round : SetOp → SetOp → List SetOp × List SetOp
lists_round a b = (reach (key_of a) (bit_before a), [])

-- the refuting lists of a pair, if it does not swap
abbrev pub refuting_lists : SetOp → SetOp → Option (List SetOp × List SetOp)
refuting_lists a b = if may_swap a b then None else Some (lists_round a b)
