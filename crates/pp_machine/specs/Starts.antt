-- Meaning: the evidence of a rejected start: what shows that a criterion of it is false.
use Rattle.std.specs.Prelude.{◌==◌, ℕ, Bool, cond, List, [], ◌∷◌, ◌++◌}
use Rattle.std.specs.List.{list_any}
use Rattle.pp_core.specs.declared.entry.Item.{Item}
use Rattle.pp_model.specs.Config.{Start}
use Rattle.pp_kind.specs.Object.{Object}
use Rattle.pp_machine.specs.Evidence.{at_number, first_differing}
use Rattle.pp_machine.specs.declared.detail.Detail.{Detail}
use Rattle.pp_machine.specs.declared.detail.Detail.TheVariants.{Nothing, Entry}

-- one of the items has this id
abbrev pub has_id : {Op : Type 0} → ℕ → List (Item Op) → Bool
has_id id items = list_any (λ p. p.id == id) items

-- The first of these items, which are after others, whose id occurs before it.
abbrev pub first_repeated : {Op : Type 0} → List (Item Op) → List (Item Op) → Detail Op
first_repeated before [] = Nothing
first_repeated before (p ∷ ps) =
    cond (has_id p.id before) (Entry p.id) (first_repeated (before ++ p ∷ []) ps)

module _ {Shape State Op Undo : Type 0} (o : Object Shape State Op Undo) (shape : Shape) where
  -- The evidence of each criterion of the start if it is the first false one, in their order.
  abbrev pub start_evidences : Start Op → List (Detail Op)
  start_evidences z =
      first_repeated [] z.items ∷ first_differing o (λ p. p) (o.start shape) z.items ∷ []

  -- The evidence of a start whose first false criterion has this number, from 1.
  abbrev pub start_evidence : Start Op → ℕ → Detail Op
  start_evidence z n = at_number (start_evidences z) n
