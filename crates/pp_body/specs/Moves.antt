-- Proof machinery: one call on a set of positions, whether the body is entered or not.
use Rattle.std.specs.Prelude.{ℕ, ◌+◌, ◌^◌, Bool, true, false, ◌&&◌, ◌||◌, cond, bit_or}
use Rattle.pp_core.specs.Trees.{Tree, Trees, Skip, One, Seq, Alt, Star, NoPart, Part, nodes}
use Rattle.pp_core.specs.Trees.{nodes_of_all}
use Rattle.pp_model.specs.Body.{Call, Pattern}
use Rattle.pp_body.specs.declared.moving.Moves.{Moves}
use Rattle.pp_body.specs.Patterns.{matches}
use Rattle.pp_body.specs.Positions.{has}

-- the set if the flag is true, else the empty set
abbrev pub when : Bool → ℕ → ℕ
when b s = cond b s 0

-- the set after the call
abbrev pub after : Bool → Moves → ℕ
after m a = bit_or a.moved (when m a.fresh)

-- whether the end was reached before the call
abbrev pub ends : Bool → Moves → Bool
ends m a = a.ended || (m && a.skips)

-- a part that has the empty word alone
abbrev pub passing : Moves
passing = record { moved = 0; fresh = 0; ended = false; skips = true }

-- a part that has no word
abbrev pub nowhere : Moves
nowhere = record { moved = 0; fresh = 0; ended = false; skips = false }

-- one part, and then another
abbrev pub first_then : Moves → Moves → Moves
first_then a b = record {
  moved = bit_or a.moved (after a.ended b);
  fresh = bit_or a.fresh (when a.skips b.fresh);
  ended = ends a.ended b;
  skips = a.skips && b.skips;
}

-- one part or another
abbrev pub either : Moves → Moves → Moves
either a b = record {
  moved = bit_or a.moved b.moved;
  fresh = bit_or a.fresh b.fresh;
  ended = a.ended || b.ended;
  skips = a.skips || b.skips;
}

-- a part any number of times
abbrev pub again : Moves → Moves
again a = record { moved = after a.ended a; fresh = a.fresh; ended = a.ended; skips = true }

-- a call on a pattern at a place
abbrev pub moves_one : Pattern → ℕ → ℕ → Call → Moves
moves_one p at set c =
    record { moved = 0; fresh = when (matches p c) (2 ^ at); ended = has set at; skips = false }

-- the effect of a call in a body, in parts one after another, and in any one of them
abbrev mutual
  -- the effect of a call in a body
  pub moves : Tree → ℕ → ℕ → Call → Moves
  moves Skip at set c = passing
  moves (One p) at set c = moves_one p at set c
  moves (Seq bs) at set c = moves_in_turn bs at set c
  moves (Alt bs) at set c = moves_of_some bs at set c
  moves (Star b) at set c = again (moves b at set c)

  -- the effect of a call in parts one after another
  pub moves_in_turn : Trees → ℕ → ℕ → Call → Moves
  moves_in_turn NoPart at set c = passing
  moves_in_turn (Part b bs) at set c =
      first_then (moves b at set c) (moves_in_turn bs (at + nodes b) set c)

  -- the effect of a call in any one of the parts
  pub moves_of_some : Trees → ℕ → ℕ → Call → Moves
  moves_of_some NoPart at set c = nowhere
  moves_of_some (Part b bs) at set c =
      either (moves b at set c) (moves_of_some bs (at + nodes b) set c)

-- the effect in parts one after another, with the place after the parts
abbrev pub moves_in_turn_to : Trees → ℕ → ℕ → Call → Moves × ℕ
moves_in_turn_to bs at set c = (moves_in_turn bs at set c, at + nodes_of_all bs)

-- the effect in any one of the parts, with the place after the parts
abbrev pub moves_of_some_to : Trees → ℕ → ℕ → Call → Moves × ℕ
moves_of_some_to bs at set c = (moves_of_some bs at set c, at + nodes_of_all bs)
