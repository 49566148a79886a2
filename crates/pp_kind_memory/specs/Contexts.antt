-- Meaning: operations that show that a pair does not swap.
use Rattle.std.specs.Prelude.{ℤ, pos, true, false, if◌then◌else◌, List, [], ◌∷◌, Option, Some}
use Rattle.std.specs.Prelude.{None}
use Rattle.std.specs.Ordering.{int_eq}
use Rattle.pp_kind_memory.specs.declared.op.MemOp.{MemOp}
use Rattle.pp_kind_memory.specs.declared.op.MemOp.TheVariants.{Read, Write, Cas}
use Rattle.pp_kind_memory.specs.Operations.{address_of}
use Rattle.pp_kind_memory.specs.Movers.{may_swap}

-- another number
abbrev pub other_than : ℤ → ℤ
other_than v = if int_eq v (pos 0) then pos 1 else pos 0

-- the number that is written before a pair on one address that does not swap
abbrev pub number_before : MemOp → MemOp → Option ℤ
number_before (Read a v) (Read b w) = Some v
number_before (Read a v) (Write b w) = Some v
number_before (Read a v) (Cas b e n done) = Some v
number_before (Write a v) (Read b w) = Some (other_than v)
number_before (Write a v) (Write b w) = None
number_before (Write a v) (Cas b e n true) = Some (other_than v)
number_before (Write a v) (Cas b e n false) = Some e
number_before (Cas a e n true) (Read b w) = Some e
number_before (Cas a e n true) (Write b w) = Some e
number_before (Cas a e n true) (Cas b g h done) = Some e
number_before (Cas a g h false) (Read b w) = Some (other_than g)
number_before (Cas a g h false) (Write b w) = Some (other_than g)
number_before (Cas a g h false) (Cas b e n done) = Some e

-- and the number that is read after it
abbrev pub number_after : MemOp → MemOp → Option ℤ
number_after (Read a v) (Read b w) = None
number_after (Read a v) (Write b w) = None
number_after (Read a v) (Cas b e n done) = None
number_after (Write a v) (Read b w) = None
number_after (Write a v) (Write b w) = Some w
number_after (Write a v) (Cas b e n done) = None
number_after (Cas a e n true) (Read b w) = None
number_after (Cas a e n true) (Write b w) = Some w
number_after (Cas a e n true) (Cas b g h done) = None
number_after (Cas a e n false) (Read b w) = None
number_after (Cas a e n false) (Write b w) = None
number_after (Cas a e n false) (Cas b g h done) = None

-- a write of a number, and a read of one
abbrev pub write_of : ℤ → Option ℤ → List MemOp
write_of a None = []
write_of a (Some v) = Write a v ∷ []

-- a read of a number, if there is one
abbrev pub read_of : ℤ → Option ℤ → List MemOp
read_of a None = []
read_of a (Some v) = Read a v ∷ []

-- what is before and after the pair
abbrev pub lists_round : MemOp → MemOp → List MemOp × List MemOp
lists_round a b =
    (write_of (address_of a) (number_before a b), read_of (address_of a) (number_after a b))

-- the refuting lists of a pair, if it does not swap
abbrev pub refuting_lists : MemOp → MemOp → Option (List MemOp × List MemOp)
refuting_lists a b = if may_swap a b then None else Some (lists_round a b)
