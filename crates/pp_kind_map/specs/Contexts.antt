-- Meaning: operations that show that a pair does not swap.
use Rattle.std.specs.Prelude.{ℤ, if◌then◌else◌, List, [], ◌∷◌, Option, Some, None}
use Rattle.pp_kind_map.specs.declared.op.MapOp.{MapOp}
use Rattle.pp_kind_map.specs.declared.op.MapOp.TheVariants.{Put}
use Rattle.pp_kind_map.specs.Operations.{key_of, found_by}
use Rattle.pp_kind_map.specs.Movers.{may_swap}

-- a value is put at a key that had none
abbrev pub put_first : ℤ → Option ℤ → List MapOp
put_first key None = []
put_first key (Some x) = Put key x None ∷ []

-- what is before such a pair: what its first operation found is put there
abbrev pub before_pair : MapOp → List MapOp
before_pair a = put_first (key_of a) (found_by a)

-- the operations before and after it
abbrev pub lists_round : MapOp → MapOp → List MapOp × List MapOp
lists_round a b = (before_pair a, [])

-- the refuting lists of a pair, if it does not swap
abbrev pub refuting_lists : MapOp → MapOp → Option (List MapOp × List MapOp)
refuting_lists a b = if may_swap a b then None else Some (lists_round a b)
