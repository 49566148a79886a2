-- Meaning: the operations of a memory, and what they return and do.
use Rattle.std.specs.Prelude.{◌≡◌, ◌≢◌, ℤ, pos, Bool, true, false, ◌&&◌, if◌then◌else◌}
use Rattle.std.specs.Ordering.{int_eq, int_cmp}
use Rattle.std.specs.FinMap.{FinMap}
use Rattle.pp_core.specs.declared.answer.Answer.{Answer}
use Rattle.pp_core.specs.declared.answer.Answer.TheVariants.{None as NoAnswer, Number, Truth}
use Rattle.pp_core.specs.declared.call.Call.{Call}
use Rattle.pp_core.specs.declared.call.Method.TheVariants.{Read as ReadCall, Write as WriteCall}
use Rattle.pp_core.specs.declared.call.Method.TheVariants.{Cas as CasCall}
use Rattle.pp_kind.specs.Numbers.{in_range}
use Rattle.pp_kind_memory.specs.declared.op.MemOp.{MemOp}
use Rattle.pp_kind_memory.specs.declared.op.MemOp.TheVariants.{Read, Write, Cas}
use Rattle.pp_kind_memory.specs.declared.undo.Undo.{Undo}
use Rattle.pp_kind_memory.specs.declared.undo.Undo.TheVariants.{Covered, Nothing}
use Rattle.pp_kind_memory.specs.Values.{value_at, written}

-- its address
abbrev pub address_of : MemOp → ℤ
address_of (Read a v) = a
address_of (Write a v) = a
address_of (Cas a e n done) = a

-- it writes whatever is there
abbrev pub is_write : MemOp → Bool
is_write (Read a v) = false
is_write (Write a v) = true
is_write (Cas a e n done) = false

-- it writes at this address, whatever is there
abbrev pub writes_at : MemOp → ℤ → Bool
writes_at (Read a v) address = false
writes_at (Write a v) address = int_eq a address
writes_at (Cas a e n done) address = false

-- whether this number may be there before it, by its result
abbrev pub Finds : MemOp → ℤ → Type 0
Finds (Read a v) c = c ≡ v
Finds (Write a v) c = Unit {0}
Finds (Cas a e n true) c = c ≡ e
Finds (Cas a e n false) c = c ≢ e

-- the number that is there after it, by the one that was there
abbrev pub left_by : MemOp → ℤ → ℤ
left_by (Read a v) c = c
left_by (Write a v) c = v
left_by (Cas a e n true) c = n
left_by (Cas a e n false) c = c

-- its method and its arguments, at the object 0
abbrev pub call_of : MemOp → Call
call_of (Read a v) =
    record { object = 0; method = ReadCall; first = a; second = pos 0; third = pos 0 }
call_of (Write a v) =
    record { object = 0; method = WriteCall; first = a; second = v; third = pos 0 }
call_of (Cas a e n done) =
    record { object = 0; method = CasCall; first = a; second = e; third = n }

-- the result that it records
abbrev pub recorded_by : MemOp → Answer
recorded_by (Read a v) = Number v
recorded_by (Write a v) = NoAnswer
recorded_by (Cas a e n done) = Truth done

-- the result of a memory: for a compare-and-swap, whether the number is the expected one
abbrev pub given_by : FinMap int_cmp ℤ → MemOp → Answer
given_by m (Read a v) = Number (value_at m a)
given_by m (Write a v) = NoAnswer
given_by m (Cas a e n done) = Truth (int_eq (value_at m a) e)

-- the memory afterwards
abbrev pub memory_after : FinMap int_cmp ℤ → MemOp → FinMap int_cmp ℤ
memory_after m (Read a v) = m
memory_after m (Write a v) = written m a v
memory_after m (Cas a e n done) = if int_eq (value_at m a) e then written m a n else m

-- the number that a write covers, with its address; the result of a compare-and-swap shows what it
-- covered
abbrev pub kept_by : FinMap int_cmp ℤ → MemOp → Undo
kept_by m (Read a v) = Nothing
kept_by m (Write a v) = Covered a (value_at m a)
kept_by m (Cas a e n done) = Nothing

-- the number that a write covered, or 0
abbrev pub number_of : Undo → ℤ
number_of (Covered a number) = number
number_of Nothing = pos 0

-- the memory that this brings back
abbrev pub memory_before : FinMap int_cmp ℤ → MemOp → Undo → FinMap int_cmp ℤ
memory_before m (Read a v) undo = m
memory_before m (Write a v) undo = written m a (number_of undo)
memory_before m (Cas a e n done) undo = if done then written m a e else m

-- all its numbers lie in the range of records
abbrev pub is_ranged : MemOp → Bool
is_ranged (Read a v) = in_range a && in_range v
is_ranged (Write a v) = in_range a && in_range v
is_ranged (Cas a e n done) = in_range a && in_range e && in_range n

-- it reads, or is a compare-and-swap that failed
abbrev pub in_clique : MemOp → Bool
in_clique (Read a v) = true
in_clique (Write a v) = false
in_clique (Cas a e n true) = false
in_clique (Cas a e n false) = true
