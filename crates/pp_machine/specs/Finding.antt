-- Proof machinery: what the look-ups in logs return.
use Rattle.std.specs.Prelude.{◌≡◌, ◌≢◌, ◌+◌, slice_get, ℕ, List, Some, length}
use Rattle.pp_core.specs.declared.entry.LocalEntry.{LocalEntry}
use Rattle.pp_core.specs.declared.entry.SharedEntry.{SharedEntry}
use Rattle.pp_model.specs.Config.{Unpushed}
use Rattle.pp_model.specs.Lists.{Before}

-- At this position the log ends, with an own unpushed entry of this id.
pub record IsLastUnpushed {Op : Type 0} (id : ℕ) (l : List (LocalEntry Op)) (i : ℕ) : Type 0 where
  pub entry : LocalEntry Op
  pub here : slice_get l i ≡ Some entry
  pub end : i + 1 ≡ length l
  pub id_is : entry.id ≡ id
  pub unpushed : entry.mark ≡ Unpushed

-- No two entries of the local log have one id.
abbrev pub AreDistinct : {Op : Type 0} → List (LocalEntry Op) → Type 0
AreDistinct {Op} l = (e f : LocalEntry Op) → Before e f l → e.id ≢ f.id

-- No two entries of the shared log have one id.
abbrev pub HaveOwnIds : {Op : Type 0} → List (SharedEntry Op) → Type 0
HaveOwnIds {Op} l = (g h : SharedEntry Op) → Before g h l → g.id ≢ h.id
