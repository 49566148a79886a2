-- The bytes that a read takes from the front.
use Rattle.std.proofs.Common.{◌≡◌, ◌<◌, ◌+◌, ℕ, List, ◌++◌, take, drop, Option, Some, None, sym}
use Rattle.std.proofs.Common.{arith}
use Rattle.std.proofs.lemmas.List.{drop-drop, take-append-drop}
use Rattle.pp_input.specs.Memory.{most_of}

-- If n bytes are taken at a position, what is left there is these bytes followed by what is left after them.
pub given : (bytes gave : List ℕ) (at n : ℕ) → gave ≡ take n (drop at bytes) → drop at bytes ≡ gave ++ drop (at + n) bytes
given bytes gave at n h = rw (h, ← drop-drop n at bytes) (sym (take-append-drop n (drop at bytes)))

-- a call returns one byte at least, if there is room
pub some_given : (most : Option ℕ) (room : ℕ) → 0 < room → 0 < most_of most room
some_given None room some = some
some_given (Some most) room some = omega arith
