-- Proof machinery: what `Lines` holds, as contracts see it.
use Rattle.std.specs.Prelude.{◌≡◌, ℕ, ◌+◌, List, [], ◌∷◌, ◌++◌, map, Bool, true, false, Option}
use Rattle.std.specs.Prelude.{Some, None}
use Rattle.pp_input.specs.declared.fault.LineFault.{LineFault}
use Rattle.pp_input.specs.declared.fault.LineFault.TheVariants.{OutOfMemory}
use Rattle.pp_input.specs.declared.limits.Limits.{Limits}
use Rattle.pp_input.specs.declared.reach.Reach.{Reach}
use Rattle.pp_input.specs.Lines.{NumberedLine, ended_behind, rest_behind, unended, without_return}
use Rattle.pp_input.specs.Reaches.{overrun_from, within_from, reach_from, start}

-- the whole lines that were not handed out, the bytes after the last line end, how many lines were
-- handed out, how far the input has come, the fault that every later feed returns, and whether the
-- input is at its end
pub record Held : Type 0 where
  pub whole : List (List ℕ)
  pub rest : List ℕ
  pub handed : ℕ
  pub reach : Reach
  pub fault : Option LineFault
  pub closed : Bool

-- before the first piece of an input with these limits
abbrev pub empty : Limits → Held
empty limits = record {
  whole = [];
  rest = [];
  handed = 0;
  reach = start limits;
  fault = None;
  closed = false;
}

-- after a piece: its bytes up to the first that passes a limit are taken
abbrev pub fed : Held → List ℕ → Held
fed held piece = record {
  whole = held.whole ++ map without_return (ended_behind held.rest (within_from held.reach piece));
  rest = rest_behind held.rest (within_from held.reach piece);
  handed = held.handed;
  reach = reach_from held.reach piece;
  fault = overrun_from held.reach piece;
  closed = held.closed;
}

-- a piece is taken, up to the first limit that it passes
abbrev pub TakesPiece : Held → Held → List ℕ → Option LineFault → Type 0
TakesPiece old new piece limit =
    (new ≡ fed old piece) × (overrun_from old.reach piece ≡ limit)

-- after out of memory
abbrev pub refused : Held → Held
refused held = record held { rest = []; fault = Some OutOfMemory }

-- at the end of the input: what follows the last line end counts as a line if it is not empty
abbrev pub finished : Held → Held
finished held = record held {
  whole = held.whole ++ map without_return (unended held.rest);
  rest = [];
  closed = true;
}

-- the first of the whole lines, if so many were handed out
abbrev pub first_of : ℕ → List (List ℕ) → Option NumberedLine
first_of handed [] = None
first_of handed (line ∷ lines) = Some (handed + 1, line)

-- the next whole line, with its number
abbrev pub next_line : Held → Option NumberedLine
next_line held = first_of held.handed held.whole

-- the lines held after the first of the whole lines was handed out
abbrev pub after_first : Held → List (List ℕ) → Held
after_first held [] = held
after_first held (line ∷ lines) = record held { whole = lines; handed = held.handed + 1 }

-- the lines held after the next whole line was handed out
abbrev pub after_next : Held → Held
after_next held = after_first held held.whole
