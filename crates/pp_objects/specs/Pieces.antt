-- Meaning: what is shown of the state of an object.
use Rattle.std.specs.Prelude.{ℤ, ℕ, List, [], ◌∷◌, map, Option, Some, None}
use Rattle.std.specs.List.{slice_get}
use Rattle.std.specs.FinMap.{entries}
use Rattle.pp_kind_set.specs.Keys.{members}
use Rattle.pp_objects.specs.declared.pieces.Piece.{Piece}
use Rattle.pp_objects.specs.declared.states.ObjectState.{ObjectState}
use Rattle.pp_objects.specs.declared.states.ObjectState.TheVariants as states

-- the piece with a number alone
abbrev pub alone : ℤ → Piece
alone value = record { key = None; value = value }

-- the piece with a number at a key
abbrev pub at_key : ℤ × ℤ → Piece
at_key entry = record { key = Some entry.0; value = entry.1 }

-- the numbers at their keys, ascending, the keys of a set, ascending, a counter's number, the items
-- from front to back or from bottom to top, or all items, ascending
abbrev pub pieces_of : ObjectState → List Piece
pieces_of (states.Memory s) = map at_key (entries s)
pieces_of (states.KeySet s) = map alone (members s)
pieces_of (states.KeyMap s) = map at_key (entries s)
pieces_of (states.Counter n) = alone n ∷ []
pieces_of (states.Queue items) = map alone items
pieces_of (states.Stack items) = map alone items
pieces_of (states.PriorityQueue items) = map alone items

-- the same of the object at a place, if there is one
abbrev pub pieces_in : Option ObjectState → List Piece
pieces_in None = []
pieces_in (Some s) = pieces_of s

-- the printed pieces of the object at a place
abbrev pub pieces_at : List ObjectState → ℕ → List Piece
pieces_at ss p = pieces_in (slice_get ss p)
