-- Meaning: the serial run, read off the steps, and the atomic machine.
use Rattle.std.specs.Prelude.{◌≡◌, ℕ, ◌==◌, Bool, false, cond, not, ◌||◌, List, [], ◌∷◌, ◌++◌, map}
use Rattle.std.specs.Prelude.{filter, Option, None, Some}
use Rattle.pp_model.specs.Lists.{joined}
use Rattle.pp_model.specs.Body.{Tree, IsWord}
use Rattle.pp_model.specs.Object.{Object, Allowed, AllowedFrom, Item, ops, state, state_from}
use Rattle.pp_model.specs.Config.{CommittedTx, Start, Step, Begin, App, Unapp, Push, Unpush, Pull}
use Rattle.pp_model.specs.Config.{Unpull, Cmt, Quit, Note, shared_ops}
use Rattle.pp_model.specs.Config.{uncommitted, only_committed, first, after}
use Rattle.pp_model.specs.Rules.{calls, StartMeets, RunsFrom}
use Rattle.pp_model.specs.Names.{Name, ◌=ⁿ◌}

-- the id is among the ids
abbrev pub has_id : ℕ → List ℕ → Bool
has_id i [] = false
has_id i (j ∷ js) = (j == i) || has_id i js

-- the items that t's APP steps apply
abbrev pub applied_items : {Op : Type 0} → Name → List (Step Op) → List (Item Op)
applied_items t [] = []
applied_items t (App u id op ∷ ss) =
    cond (u =ⁿ t) (record { id = id; op = op } ∷ applied_items t ss) (applied_items t ss)
applied_items t (Begin u p b ∷ ss) = applied_items t ss
applied_items t (Unapp u id ∷ ss) = applied_items t ss
applied_items t (Push u id ∷ ss) = applied_items t ss
applied_items t (Unpush u id ∷ ss) = applied_items t ss
applied_items t (Pull u id ∷ ss) = applied_items t ss
applied_items t (Unpull u id ∷ ss) = applied_items t ss
applied_items t (Cmt u ∷ ss) = applied_items t ss
applied_items t (Quit u ∷ ss) = applied_items t ss
applied_items t (Note u ∷ ss) = applied_items t ss

-- the ids in t's UNAPP steps
abbrev pub unapplied_ids : {Op : Type 0} → Name → List (Step Op) → List ℕ
unapplied_ids t [] = []
unapplied_ids t (Unapp u id ∷ ss) = cond (u =ⁿ t) (id ∷ unapplied_ids t ss) (unapplied_ids t ss)
unapplied_ids t (Begin u p b ∷ ss) = unapplied_ids t ss
unapplied_ids t (App u id op ∷ ss) = unapplied_ids t ss
unapplied_ids t (Push u id ∷ ss) = unapplied_ids t ss
unapplied_ids t (Unpush u id ∷ ss) = unapplied_ids t ss
unapplied_ids t (Pull u id ∷ ss) = unapplied_ids t ss
unapplied_ids t (Unpull u id ∷ ss) = unapplied_ids t ss
unapplied_ids t (Cmt u ∷ ss) = unapplied_ids t ss
unapplied_ids t (Quit u ∷ ss) = unapplied_ids t ss
unapplied_ids t (Note u ∷ ss) = unapplied_ids t ss

-- t's own list
abbrev pub own_of : {Op : Type 0} → Name → List (Step Op) → List (Item Op)
own_of t ss = filter (λ p. not (has_id p.id (unapplied_ids t ss))) (applied_items t ss)

-- the bodies in t's BEGIN steps, of which there is one at most in an accepted run
abbrev pub bodies_of : {Op : Type 0} → Name → List (Step Op) → List (Option Tree)
bodies_of t [] = []
bodies_of t (Begin u p b ∷ ss) = cond (u =ⁿ t) (b ∷ bodies_of t ss) (bodies_of t ss)
bodies_of t (App u id op ∷ ss) = bodies_of t ss
bodies_of t (Unapp u id ∷ ss) = bodies_of t ss
bodies_of t (Push u id ∷ ss) = bodies_of t ss
bodies_of t (Unpush u id ∷ ss) = bodies_of t ss
bodies_of t (Pull u id ∷ ss) = bodies_of t ss
bodies_of t (Unpull u id ∷ ss) = bodies_of t ss
bodies_of t (Cmt u ∷ ss) = bodies_of t ss
bodies_of t (Quit u ∷ ss) = bodies_of t ss
bodies_of t (Note u ∷ ss) = bodies_of t ss

-- the first body of a list
abbrev pub first_body : List (Option Tree) → Option Tree
first_body [] = None
first_body (b ∷ bs) = b

-- the names in the CMT steps
abbrev pub commits : {Op : Type 0} → List (Step Op) → List Name
commits [] = []
commits (Cmt t ∷ ss) = t ∷ commits ss
commits (Begin u p b ∷ ss) = commits ss
commits (App u id op ∷ ss) = commits ss
commits (Unapp u id ∷ ss) = commits ss
commits (Push u id ∷ ss) = commits ss
commits (Unpush u id ∷ ss) = commits ss
commits (Pull u id ∷ ss) = commits ss
commits (Unpull u id ∷ ss) = commits ss
commits (Quit u ∷ ss) = commits ss
commits (Note u ∷ ss) = commits ss

-- A committed transaction as the steps have it: its name, its body and its items.
pub record Attempt (Op : Type 0) : Type 0 where
  pub name : Name
  pub body : Option Tree
  pub items : List (Item Op)

-- the attempt of t, by the steps of a run
abbrev pub attempt_of : {Op : Type 0} → List (Step Op) → Name → Attempt Op
attempt_of ss t = record { name = t; body = first_body (bodies_of t ss); items = own_of t ss }

-- the attempt of the start, if there is one
abbrev pub start_attempts : {Op : Type 0} → Option (Start Op) → List (Attempt Op)
start_attempts None = []
start_attempts (Some z) = record { name = z.tx; body = None; items = z.items } ∷ []

-- the committed attempts of a run, in commit order
abbrev pub attempts : {Op : Type 0} → Option (Start Op) → List (Step Op) → List (Attempt Op)
attempts h ss = start_attempts h ++ map (attempt_of ss) (commits ss)

-- the operations of attempts, one attempt after another
abbrev pub serial : {Op : Type 0} → List (Attempt Op) → List Op
serial as' = ops (joined (map (λ a. a.items) as'))

-- the committed transaction of an attempt
abbrev pub committed_tx : {Op : Type 0} → Attempt Op → CommittedTx Op
committed_tx a = record { name = a.name; entries = a.items }

module _ {Op State : Type 0} (O : Object Op State) where
  -- The atomic machine: one step is one whole transaction.
  abbrev pub Atomic : State → Option Tree → List (Item Op) → State → Type 0
  Atomic s b w s2 = IsWord b (calls O w) × AllowedFrom O s (ops w) × (s2 ≡ state_from O s (ops w))

  -- The atomic machine does these attempts, one after another.
  abbrev pub AtomicRun : State → List (Attempt Op) → State → Type 0
  AtomicRun s [] s2 = s2 ≡ s
  AtomicRun s (a ∷ l) s2 =
      (m : State) × Atomic s a.body a.items m × AtomicRun m l s2

  -- The facts about an accepted run.
  pub record Simulated (h : Option (Start Op))
      (ss : List (Step Op)) : Type 0 where
    pub done : (after h ss).done ≡ map committed_tx (attempts h ss)
    pub onto : (k : List Op) → Allowed O (shared_ops (after h ss).shared ++ k) →
        Allowed O (serial (attempts h ss) ++ (shared_ops (uncommitted (after h ss).shared) ++ k))
    pub allowed : Allowed O (serial (attempts h ss))
    pub atomic : AtomicRun O.start (attempts h ss) (state O (serial (attempts h ss)))
    pub same_state : state O (shared_ops (only_committed (after h ss).shared))
        ≡ state O (serial (attempts h ss))

  -- Each accepted run is simulated by the atomic machine.
  abbrev pub SimulationLaw : Type 0
  SimulationLaw =
      (h : Option (Start Op)) (ss : List (Step Op)) → StartMeets O h → RunsFrom O (first h) ss →
      Simulated h ss
