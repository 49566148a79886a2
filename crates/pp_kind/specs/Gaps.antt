-- Meaning: how a state differs from the one that would be there without one of its operations.
use Rattle.std.specs.Prelude.{◌≡◌}
use Rattle.pp_kind.specs.Object.{Object, IsLegal, IsReached}
use Rattle.pp_kind.specs.declared.gapped.Left.{Left}
use Rattle.pp_kind.specs.declared.gapped.Left.TheVariants as left
use Rattle.pp_kind.specs.declared.gapped.Crossed.{Crossed}
use Rattle.pp_kind.specs.declared.gapped.Crossed.TheVariants as crossed

-- An operation that is legal in a state is legal in the other one too, and leaves them at this gap.
-- It keeps the same in both.
pub record StaysApart {Shape State Op Undo : Type 0} (o : Object Shape State Op Undo)
    (Differ : State → State → Type 0) (b : Op) (s t : State) : Type 0 where
  pub legal : IsLegal o t b
  pub differ : Differ (o.next s b) (o.next t b)
  pub kept : o.upkeep.kept t b ≡ o.upkeep.kept s b

-- It is legal in the other one too, keeps this there, and leaves one state.
pub record Meets {Shape State Op Undo : Type 0} (o : Object Shape State Op Undo)
    (b : Op) (u : Undo) (s t : State) : Type 0 where
  pub legal : IsLegal o t b
  pub same : o.next t b ≡ o.next s b
  pub kept : o.upkeep.kept t b ≡ u

module _ {Shape State Op Undo Gap : Type 0} (o : Object Shape State Op Undo)
    (Bears : Gap → State → Type 0) (Differ : Gap → State → State → Type 0) where
  -- How the state after an operation that kept this differs from the one before it.
  abbrev pub Leaves : Op → Undo → Left Gap → Type 0
  Leaves a u left.Same =
      (s : State) → o.upkeep.IsState s → IsLegal o s a → o.upkeep.kept s a ≡ u → o.next s a ≡ s
  Leaves a u (left.Apart g) =
      (s : State) → o.upkeep.IsState s → IsLegal o s a → o.upkeep.kept s a ≡ u
      → Bears g (o.next s a) → Differ g (o.next s a) s

  -- How two states that differ by a gap differ after an operation that is legal in the first.
  abbrev pub Crosses : Gap → Op → Crossed Gap Undo → Type 0
  Crosses g b (crossed.Same u) =
      (s : State) → o.upkeep.IsState s → IsLegal o s b
      → Bears g s × ((t : State) → o.upkeep.IsState t → Differ g s t → Meets o b u s t)
  Crosses g b (crossed.Apart h) =
      (s : State) → o.upkeep.IsState s → IsLegal o s b → Bears h (o.next s b)
      → Bears g s
      × ((t : State) → o.upkeep.IsState t → Differ g s t → StaysApart o (Differ h) b s t)
  Crosses g b crossed.Unknown = Unit {0}

module _ {Shape State Op Undo Gap : Type 0} (o : Object Shape State Op Undo)
    (Differ : Gap → State → State → Type 0) where
  -- The state differs by the gap from one that some operations lead to.
  abbrev pub MayClose : Gap → State → Type 0
  MayClose g s = o.upkeep.IsState s
      × ((t : State) × o.upkeep.IsState t × IsReached o t × Differ g s t)

  -- It is the state that the first one differs from.
  abbrev pub ClosesTo : Gap → State → State → Type 0
  ClosesTo g s new = (t : State) → o.upkeep.IsState t → Differ g s t → new ≡ t
