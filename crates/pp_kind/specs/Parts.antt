-- Meaning: operations that are about different things, and operations that represent others.
use Rattle.std.specs.Prelude.{◌≡◌, ◌≢◌, ℕ, Bool, false, true, IsTrue, List, [], ◌∷◌, Option}
use Rattle.std.specs.Prelude.{None, Some}
use Rattle.pp_model.specs.Lists.{In}
use Rattle.pp_kind.specs.Object.{Object, Swaps}
use Rattle.pp_kind.specs.declared.gate.Gate.{Gate}
use Rattle.pp_kind.specs.Gates.{IsGateBefore}
use Rattle.pp_kind.specs.declared.label.Label.{Label}
use Rattle.pp_kind.specs.declared.part.Part.{Part}

-- The known facts about the operations that were added.
pub record SampleList (Op : Type 0) : Type 0 where
  -- some of them, which represent the others
  pub ops : List Op
  -- there were too many, so that some have none that represents them
  pub cut : Bool
  -- all of them are in the clique
  pub all_in_clique : Bool

-- The first, if there is one, and others after it.
abbrev pub first_and : {Op : Type 0} → Option Op → List Op → List Op
first_and None others = others
first_and (Some first) others = first ∷ others

-- Nothing was added.
abbrev pub no_samples : {Op : Type 0} → SampleList Op
no_samples = record { ops = []; cut = false; all_in_clique = true }

module _ {Shape State Op Undo : Type 0} (o : Object Shape State Op Undo) where
  -- Operations of different parts swap.
  abbrev pub PartsSwap : (Op → Part) → Type 0
  PartsSwap part_of = (a b : Op) → part_of a ≢ part_of b → Swaps o a b

  -- Each operation that a swaps with, before it or after it, b swaps with too.
  abbrev pub StandsFor : Op → Op → Type 0
  StandsFor a b = ((c : Op) → Swaps o a c → Swaps o b c) × ((c : Op) → Swaps o c a → Swaps o c b)

  -- Each operation of the form whose number passes swaps with b after it.
  abbrev pub IsGate : (Op → Label) → ℕ → Op → Gate → Type 0
  IsGate label_of form b gate =
      IsGateBefore (λ a. (label_of a).form) (λ a. (label_of a).number) (Swaps o) form b gate

  -- One of these represents the operation.
  abbrev pub IsStoodForBy : List Op → Op → Type 0
  IsStoodForBy ops op = (s : Op) × In s ops × StandsFor s op

  -- The operation is in the clique if all that were added are.
  abbrev pub KeepsClique : SampleList Op → Op → Type 0
  KeepsClique samples op = IsTrue samples.all_in_clique → IsTrue (o.upkeep.in_clique op)

  -- One of the samples represents the operation, unless they were cut. The operation is in the
  -- clique if all are.
  abbrev pub Covers : SampleList Op → Op → Type 0
  Covers samples op = (samples.cut ≡ false → IsStoodForBy samples.ops op) × KeepsClique samples op
