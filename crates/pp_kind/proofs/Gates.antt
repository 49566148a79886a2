-- The operations at one key, and at other keys, that a table lets pass.
use Rattle.std.proofs.Common.{Bool, true, false, cond, IsTrue, refl}

-- A test of operations at one key is true if it is true at that key, or if the keys differ.
pub there_or_apart : (same there : Bool) → IsTrue there → IsTrue (cond same there true)
there_or_apart true there h = h
there_or_apart false there h = refl
