-- Two cells, and accepted runs over them that show what opacity is not.
use Rattle.std.specs.Prelude.{◌≡◌, ℕ, Bool, true, false, pos, List, [], ◌∷◌, Option, None}
use Rattle.pp_core.specs.declared.call.Method.{Method}
use Rattle.pp_core.specs.declared.call.Method.TheVariants.{Read as ReadCall, Write as WriteCall}
use Rattle.pp_core.specs.declared.call.Style.TheVariants.{Optimistic}
use Rattle.pp_records.specs.Records.{RunRecord}
use Rattle.pp_records.specs.Records as records
use Rattle.pp_records.specs.Runs.{Records, bare, joined_steps, outset}
use Rattle.pp_records.specs.Styles.{numbered, translation}
use Rattle.pp_model.specs.Body.{Call}
use Rattle.pp_model.specs.Config.{Begin, App, Unapp, Cmt, Pull, Push, Start, Step}
use Rattle.pp_model.specs.Names.{Name}
use Rattle.pp_model.specs.Object.{Object}

-- two cells, each of which is set or not
pub record Cells : Type 0 where
  pub x : Bool
  pub y : Bool

-- to set a cell, or to see whether it is set
pub data Access : Type 0 where
  SetX : Access
  SetY : Access
  SawX : (value : Bool) → Access
  SawY : (value : Bool) → Access

-- a cell can be set at any time, and what is seen must be there
abbrev pub legal : Cells → Access → Type 0
legal s SetX = Unit {0}
legal s SetY = Unit {0}
legal s (SawX value) = s.x ≡ value
legal s (SawY value) = s.y ≡ value

-- the cells after an access
abbrev pub next : Cells → Access → Cells
next s SetX = record { x = true; y = s.y }
next s SetY = record { x = s.x; y = true }
next s (SawX value) = s
next s (SawY value) = s

-- a call on a cell
abbrev pub access : Method → ℕ → Call
access method cell =
    record { object = 0; method = method; first = pos cell; second = pos 0; third = pos 0 }

-- the call of an access
abbrev pub call_of : Access → Call
call_of SetX = access WriteCall 0
call_of SetY = access WriteCall 1
call_of (SawX value) = access ReadCall 0
call_of (SawY value) = access ReadCall 1

-- the two cells, first not set
abbrev pub cells : Object Access Cells
cells =
    record { start = record { x = false; y = false }; Legal = legal; next = next; call = call_of }

-- the places of the two cells
abbrev pub place : Access → ℕ
place SetX = 0
place SetY = 1
place (SawX value) = 0
place (SawY value) = 1

-- three transactions, each on a thread of its own name
abbrev pub a : Name
a = 0 ∷ []

abbrev pub b : Name
b = 1 ∷ []

abbrev pub c : Name
c = 2 ∷ []

-- the runs have no start
abbrev pub none : Option (Start Access)
none = None

-- a sets x and commits. Then b sets y and commits. Then c pulls from b alone, and sees that y is set
-- and x is not.
abbrev pub torn : List (Step Access)
torn =
    Begin a a None ∷ App a 0 SetX ∷ Push a 0 ∷ Cmt a
    ∷ Begin b b None ∷ App b 1 SetY ∷ Push b 1 ∷ Cmt b
    ∷ Begin c c None ∷ Pull c 1 ∷ App c 2 (SawY true) ∷ App c 3 (SawX false) ∷ []

-- a sets x and commits. Then c begins, pulls nothing, and sees that x is not set.
abbrev pub stale : List (Step Access)
stale =
    Begin a a None ∷ App a 0 SetX ∷ Push a 0 ∷ Cmt a
    ∷ Begin c c None ∷ App c 1 (SawX false) ∷ []

-- c sees that x is not set. Then a sets x and commits. Then c takes its operation back, begins
-- another attempt, and sees again that x is not set.
abbrev pub retried : List (Step Access)
retried =
    Begin c c None ∷ App c 0 (SawX false)
    ∷ Begin a a None ∷ App a 1 SetX ∷ Push a 1 ∷ Cmt a
    ∷ Unapp c 0 ∷ App c 2 (SawX false) ∷ []

-- a sets x. Then c pulls this before a commits, and sees that x is set. Then a commits, and c sees
-- again that x is set.
abbrev pub early : List (Step Access)
early =
    Begin a a None ∷ App a 0 SetX ∷ Push a 0
    ∷ Begin c c None ∷ Pull c 0 ∷ App c 1 (SawX true)
    ∷ Cmt a ∷ App c 2 (SawX true) ∷ []

-- c begins. Then a sets x and commits. Then c sees that x is not set, as it was when c began.
abbrev pub old : List (Step Access)
old =
    Begin c c None
    ∷ Begin a a None ∷ App a 0 SetX ∷ Push a 0 ∷ Cmt a
    ∷ App c 1 (SawX false) ∷ []

-- c sees that x is not set. Then a sets both cells and commits. Then c sees that y is set, and
-- aborts.
abbrev pub zombie : Records (RunRecord Access)
zombie =
    numbered 1 (
    records.Plain (Begin c c None) ∷ records.Op c 0 (SawX false)
    ∷ records.Plain (Begin a a None) ∷ records.Op a 1 SetX ∷ records.Op a 2 SetY ∷ records.Commit a
    ∷ records.Op c 3 (SawY true) ∷ records.Abort c ∷ [])

-- the steps of these records in style optimistic
abbrev pub zombie_steps : List (Step Access)
zombie_steps =
    bare (joined_steps (translation place Optimistic [])
    (outset (translation place Optimistic []) none) zombie)
