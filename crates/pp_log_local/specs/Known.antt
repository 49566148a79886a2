-- Proof machinery: what a local log knows of its own entries without a walk over them.
use Rattle.std.specs.Prelude.{◌≡◌, ◌≢◌, ◌<◌, ◌≤◌, ℕ, true, false, List, length, slice_get, Some}
use Rattle.pp_core.specs.declared.entry.LocalEntry.{LocalEntry}
use Rattle.pp_model.specs.Config.{Unpushed, Pushed, is_mark, is_own, own}
use Rattle.pp_model.specs.Lists.{In}

-- No entry before a position is own and unpushed.
abbrev pub NoneUnpushedBefore : {Op : Type 0} → List (LocalEntry Op) → ℕ → Type 0
NoneUnpushedBefore {Op} log k =
    (j : ℕ) (e : LocalEntry Op) → j < k → slice_get log j ≡ Some e → is_mark e.mark Unpushed ≡ false

-- The same if nothing is said of the i-th entry.
abbrev pub NoneUnpushedBut : {Op : Type 0} → ℕ → List (LocalEntry Op) → ℕ → Type 0
NoneUnpushedBut {Op} i log k =
    (j : ℕ) (e : LocalEntry Op) → j ≢ i → j < k → slice_get log j ≡ Some e
    → is_mark e.mark Unpushed ≡ false

-- No entry from a position on is own and pushed.
abbrev pub NonePushedFrom : {Op : Type 0} → List (LocalEntry Op) → ℕ → Type 0
NonePushedFrom {Op} log k =
    (j : ℕ) (e : LocalEntry Op) → k ≤ j → slice_get log j ≡ Some e → is_mark e.mark Pushed ≡ false

-- The same if nothing is said of the i-th entry.
abbrev pub NonePushedBut : {Op : Type 0} → ℕ → List (LocalEntry Op) → ℕ → Type 0
NonePushedBut {Op} i log k =
    (j : ℕ) (e : LocalEntry Op) → j ≢ i → k ≤ j → slice_get log j ≡ Some e
    → is_mark e.mark Pushed ≡ false

-- Each own entry's operation is covered, so many are own, and between the two positions are all
-- that are unpushed, after the first, and all that are pushed, before the second.
pub record KnowsOwn {Op : Type 0} (IsCovered : Op → Type 0) (log : List (LocalEntry Op))
    (own_count unpushed_from pushed_to : ℕ) : Type 0 where
  pub covered : (e : LocalEntry Op) → In e log → is_own e.mark ≡ true → IsCovered e.op
  pub counted : own_count ≡ length (own log)
  pub from_within : unpushed_from ≤ length log
  pub unpushed : NoneUnpushedBefore log unpushed_from
  pub to_within : pushed_to ≤ length log
  pub pushed : NonePushedFrom log pushed_to
