-- Meaning: how long the shared log of a run can be, and which entries it has.
use Rattle.std.specs.Prelude.{◌≤◌, ◌+◌, ◌*◌, Bool, IsTrue, List, [], length, Option, None, Some}
use Rattle.pp_model.specs.Config.{Start, Step, Begin, App, Unapp, Push, Unpush, Pull, Unpull, Cmt}
use Rattle.pp_model.specs.Config.{Quit, Note, after, first, shared_item}
use Rattle.pp_model.specs.Lists.{Each}
use Rattle.pp_model.specs.Object.{Item, Object}
use Rattle.pp_model.specs.Rules.{RunsFrom, StartMeets}

-- the operations of a start
abbrev pub start_items : {Op : Type 0} → Option (Start Op) → List (Item Op)
start_items None = []
start_items (Some z) = z.items

-- An operation that the step applies passes the test.
abbrev pub AppliesOnly : {Op : Type 0} → (Item Op → Bool) → Step Op → Type 0
AppliesOnly plain (Begin t p b) = Unit {0}
AppliesOnly plain (App t id op) = IsTrue (plain (record { id = id; op = op }))
AppliesOnly plain (Unapp t id) = Unit {0}
AppliesOnly plain (Push t id) = Unit {0}
AppliesOnly plain (Unpush t id) = Unit {0}
AppliesOnly plain (Pull t id) = Unit {0}
AppliesOnly plain (Unpull t id) = Unit {0}
AppliesOnly plain (Cmt t) = Unit {0}
AppliesOnly plain (Quit t) = Unit {0}
AppliesOnly plain (Note t) = Unit {0}

-- these items pass the test
abbrev pub ArePlain : {Op : Type 0} → (Item Op → Bool) → List (Item Op) → Type 0
ArePlain plain items = Each (λ p. IsTrue (plain p)) items

-- Each entry of the shared log is of the start, or was applied by a step: it passes each test that
-- these pass. And it was pushed by another step: but for the entries of the start there are at most
-- half as many as the run has steps.
pub record LogLaw {Op State : Type 0} (O : Object Op State) : Type 0 where
  pub applied : (plain : Item Op → Bool) (h : Option (Start Op)) (ss : List (Step Op))
      → ArePlain plain (start_items h) → Each (AppliesOnly plain) ss
      → Each (λ g. IsTrue (plain (shared_item g))) (after h ss).shared
  pub half : (h : Option (Start Op)) (ss : List (Step Op)) → StartMeets O h
      → RunsFrom O (first h) ss
      → 2 * length (after h ss).shared ≤ 2 * length (start_items h) + length ss
