-- Proof machinery: which own operations the samples cover, part by part.
use Rattle.std.specs.Prelude.{◌<◌, List, Option, None, Some, length}
use Rattle.std.specs.Map.{lookup}
use Rattle.pp_core.specs.declared.entry.Item.{Item}
use Rattle.pp_model.specs.Lists.{In}
use Rattle.pp_kind.specs.declared.part.Part.{Part}
use Rattle.pp_kind.specs.Parts.{Covers, SampleList}
use Rattle.pp_log_shared.specs.Uncommitted.{same_part}
use Rattle.pp_kind.specs.Object.{Object}
use Rattle.pp_summary.specs.declared.own.TheConstants.{FEW_OPERATIONS}

-- There are samples, and they cover the operation.
abbrev pub CoversOf : {Shape State Op Undo : Type 0} → Object Shape State Op Undo →
    Option (SampleList Op) → Op → Type 0
CoversOf o None op = ⊥
CoversOf o (Some samples) op = Covers o samples op

module _ {Shape State Op Undo : Type 0} (o : Object Shape State Op Undo) (part_of : Op → Part) where
  -- The samples of the operation's part cover it.
  abbrev pub Knows : List (Part × SampleList Op) → Op → Type 0
  Knows slots op = CoversOf o (lookup (same_part (part_of op)) slots) op

  -- The samples cover each of the items.
  abbrev pub KnowsAll : List (Part × SampleList Op) → List (Item Op) → Type 0
  KnowsAll slots items = (p : Item Op) → In p items → Knows slots p.op

  -- The samples cover each of the items if there are more than `FEW_OPERATIONS`.
  abbrev pub KnowsMany : List (Part × SampleList Op) → List (Item Op) → Type 0
  KnowsMany slots items = FEW_OPERATIONS < length items → KnowsAll slots items
