-- Meaning: what steps cost, each in the configuration before it.
use Rattle.std.specs.Prelude.{◌+◌, ℕ, Bool, true, false, List, [], ◌∷◌, filter, length}
use Rattle.pp_core.specs.Steps.{Step, Begin, App, Unapp, Push, Unpush, Pull, Unpull, Cmt, Quit}
use Rattle.pp_core.specs.Steps.{Note}
use Rattle.pp_model.specs.Config.{Config, then}
use Rattle.pp_machine.specs.Costs.{at_most}

-- what the steps cost at most
abbrev pub most_ticks : {Op : Type 0} → (Op → ℕ) → Config Op → List (Step Op) → ℕ
most_ticks place c [] = 0
most_ticks place c (s ∷ ss) = at_most place c s + most_ticks place (then c s) ss

-- a step that applies or takes back one operation if it meets its criteria
abbrev pub is_single : {Op : Type 0} → Step Op → Bool
is_single (App t id op) = true
is_single (Unapp t id) = true
is_single (Push t id) = true
is_single (Pull t id) = true
is_single (Begin t p b) = false
is_single (Unpush t id) = false
is_single (Unpull t id) = false
is_single (Cmt t) = false
is_single (Quit t) = false
is_single (Note t) = false

-- how many of the steps are such
abbrev pub singles : {Op : Type 0} → List (Step Op) → ℕ
singles ss = length (filter is_single ss)
