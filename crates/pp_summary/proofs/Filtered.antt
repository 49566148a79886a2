-- Which own operations a filter leaves open, and a list that should have grown.
use Rattle.std.specs.Prelude.{◌≡◌, ◌⊎◌, ℕ, zero, suc, false, List, replicate, slice_index_or, Result, Ok, Err}
use Rattle.std.specs.Result.{OnOk, OnErr}
use Rattle.std.proofs.Common.{refl, subst}
use mathlib.Core.Logic.{inl, inr}
use Rattle.pp_core.specs.declared.entry.Item.{Item}
use Rattle.pp_kind.specs.declared.part.Part.{Part}
use Rattle.pp_kind.specs.Parts.{PartsSwap}
use Rattle.pp_kind.specs.Object.{Object}
use Rattle.pp_summary.specs.Filtered.{MayHave, MayHaveAll}
use Rattle.pp_summary.specs.Passing.{LetPass}
use Rattle.pp_summary.specs.declared.part_filter.PartFilter.{PartFilter}

-- A list that should have grown is the longer one or the old one.
pub longer_or_same : {V E A : Type 0} {now longer old : List A} (r : Result V E) → OnOk r (now ≡ longer) → OnErr r (now ≡ old) → (now ≡ longer) ⊎ (now ≡ old)
longer_or_same (Ok v) is same = inl is
longer_or_same (Err e) is same = inr same

-- In a list of false booleans, none is true.
pub none_true : (n k : ℕ) → slice_index_or (replicate n false) k false ≡ false
none_true zero k = refl
none_true (suc n) zero = refl
none_true (suc n) (suc k) = none_true n k

module _ {Shape State Op Undo : Type 0} (o : Object Shape State Op Undo) (part_of : Op → Part) where
  -- Own operations swap with an operation if the filter has no part with its remainder.
  pub none_alike : PartsSwap o part_of → (place : Op → ℕ) (op : Op) (own : List (Item Op)) (m : PartFilter) → MayHaveAll part_of m own → (MayHave m (part_of op) → ⊥) → LetPass o place own op
  none_alike apart place op own m has none a i at = apart a.op op (λ same. none (subst (λ (p : Part). MayHave m p) same (has a i)))
