-- Proof machinery: how a state differs after some operations from the one that would be there
-- without an operation before them.
use Rattle.std.specs.Prelude.{◌≡◌, ◌<◌, ℕ, List, ◌∷◌, length, slice_set}
use Rattle.pp_kind.specs.Object.{AllowedFrom, Object, state_from}
use Rattle.pp_log.specs.declared.gap.Crossing.{Crossing}
use Rattle.pp_log.specs.declared.gap.Crossing.TheVariants as crossing
use Rattle.pp_log.specs.Runs.{kept_along}

-- From the state t the operations are allowed as from s, and leave states that differ so. They keep
-- the same from both.
pub record AllStayApart {Shape State Op Undo : Type 0} (o : Object Shape State Op Undo)
    (Differ : State → State → Type 0) (x : List Op) (s t : State) : Type 0 where
  pub allowed : AllowedFrom o t x
  pub differ : Differ (state_from o s x) (state_from o t x)
  pub kept : kept_along o t x ≡ kept_along o s x

-- They are allowed from the state t too, and lead to one state. There the one at this position
-- keeps this, and the others keep the same.
pub record AllMeet {Shape State Op Undo : Type 0} (o : Object Shape State Op Undo)
    (x : List Op) (at : ℕ) (u : Undo) (s t : State) : Type 0 where
  pub allowed : AllowedFrom o t x
  pub same : state_from o t x ≡ state_from o s x
  pub kept : kept_along o t x ≡ slice_set (kept_along o s x) at u

module _ {Shape State Op Undo Gap : Type 0} (o : Object Shape State Op Undo)
    (Bears : Gap → State → Type 0) (Differ : Gap → State → State → Type 0) where
  -- How two states that differ by a gap differ after operations that are allowed from the first.
  abbrev pub CrossesAll : Gap → List Op → Crossing Gap Undo → Type 0
  CrossesAll g x crossing.Idle =
      (s : State) → o.upkeep.IsState s → AllowedFrom o s x
      → Bears g s × ((t : State) → o.upkeep.IsState t → Differ g s t → s ≡ t)
  CrossesAll g x (crossing.Apart h) =
      (s : State) → o.upkeep.IsState s → AllowedFrom o s x → Bears h (state_from o s x)
      → Bears g s
      × ((t : State) → o.upkeep.IsState t → Differ g s t → AllStayApart o (Differ h) x s t)
  CrossesAll g x (crossing.Same at u) =
      (at < length x)
      × ((s : State) → o.upkeep.IsState s → AllowedFrom o s x
      → Bears g s
      × ((t : State) → o.upkeep.IsState t → Differ g s t → AllMeet o x at u s t))
  CrossesAll g x crossing.Unknown = Unit {0}

  -- How the state after an operation that kept this, and others, differs from the one after these
  -- others alone.
  abbrev pub LeavesGap : Op → Undo → List Op → Crossing Gap Undo → Type 0
  LeavesGap a u x crossing.Idle =
      (s : State) → o.upkeep.IsState s → AllowedFrom o s (a ∷ x) → o.upkeep.kept s a ≡ u
      → o.next s a ≡ s
  LeavesGap a u x (crossing.Apart h) =
      (s : State) → o.upkeep.IsState s → AllowedFrom o s (a ∷ x) → o.upkeep.kept s a ≡ u
      → Bears h (state_from o s (a ∷ x)) → AllStayApart o (Differ h) x (o.next s a) s
  LeavesGap a u x (crossing.Same at v) =
      (at < length x)
      × ((s : State) → o.upkeep.IsState s → AllowedFrom o s (a ∷ x) → o.upkeep.kept s a ≡ u
      → AllMeet o x at v (o.next s a) s)
  LeavesGap a u x crossing.Unknown = Unit {0}
