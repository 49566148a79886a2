-- Proof machinery: the own lists, as they are kept, and what is collected of the peaks.
use Rattle.std.specs.Prelude.{◌≡◌, ◌≤◌, ◌-◌, ℕ, Bool, cond, List, [], ◌∷◌, ◌++◌, length, take}
use Rattle.std.specs.Prelude.{Option, None, Some}
use Rattle.std.specs.Global.{Vec}
use Rattle.std.specs.Map.{lookup}
use Rattle.std.specs.Str.{bytes_eq}
use Rattle.pp_core.specs.Steps.{Step, Begin, App, Unapp, Push, Unpush, Pull, Unpull, Cmt, Quit}
use Rattle.pp_core.specs.Steps.{Note}
use Rattle.pp_model.specs.Names.{Name, ◌=ⁿ◌}
use Rattle.pp_model.specs.Object.{Item}
use Rattle.pp_attempts.specs.Peaks.{Peak, operations}

-- the elements of a vector, if there is one
abbrev pub kept : {A : Type 0} → Option (Vec A) → List A
kept None = []
kept (Some list) = list.items

-- the list that is kept of this name
abbrev pub list_of : {A : Type 0} → Name → List (Name × Vec A) → List A
list_of t lists = kept (lookup (bytes_eq t) lists)

-- t's own list after the step, if it was this one
abbrev pub own_after : {Op : Type 0} → Name → Step Op → List (Item Op) → List (Item Op)
own_after t (App u id op) own = cond (u =ⁿ t) (own ++ record { id = id; op = op } ∷ []) own
own_after t (Unapp u id) own = cond (u =ⁿ t) (take (length own - 1) own) own
own_after t (Begin u p b) own = own
own_after t (Push u id) own = own
own_after t (Unpush u id) own = own
own_after t (Pull u id) own = own
own_after t (Unpull u id) own = own
own_after t (Cmt u) own = own
own_after t (Quit u) own = own
own_after t (Note u) own = own

-- the peak right after the step, if there is one and t's own list is `own t`
abbrev pub peak_at : {Op : Type 0} → Bool → Step Op → (Name → List (Item Op)) → List (Peak Op)
peak_at top (App t id op) own = cond top (record { tx = t; ops = own t } ∷ []) []
peak_at top (Begin u p b) own = []
peak_at top (Unapp u id) own = []
peak_at top (Push u id) own = []
peak_at top (Unpush u id) own = []
peak_at top (Pull u id) own = []
peak_at top (Unpull u id) own = []
peak_at top (Cmt u) own = []
peak_at top (Quit u) own = []
peak_at top (Note u) own = []

-- All operations of the peaks are counted. The peaks are kept while these are not too many, so what
-- is kept has no more than `most`.
pub record IsCollected {Op : Type 0} (most : ℕ) (ps : List (Peak Op)) (total : ℕ)
    (found : List (Peak Op)) : Type 0 where
  pub counted : total ≡ operations ps
  pub all : total ≤ most → found ≡ ps
  pub few : operations found ≤ most
