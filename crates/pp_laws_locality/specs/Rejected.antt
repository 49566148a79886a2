-- Meaning: the place at which a run is rejected: its first step that violates a criterion, the line
-- of the step, and the criterion.
use Rattle.std.specs.Prelude.{◌≡◌, ◌≤◌, ◌⊎◌, ℕ, suc, [], ◌∷◌}
use Rattle.pp_model.specs.Config.{Config, Step, Begin, App, Unapp, Push, Unpush, Pull, Unpull, Cmt}
use Rattle.pp_model.specs.Config.{Quit, Note, then}
use Rattle.pp_model.specs.Object.{Object}
use Rattle.pp_model.specs.Rules.{Breaks, Meets}
use Rattle.pp_records.specs.Runs.{LinedSteps}

-- The first step that violates a criterion is s, on this line. The number of the criterion is
-- n + 1.
abbrev pub FailsFrom : {Op State : Type 0} → Object Op State → Config Op → LinedSteps Op → ℕ →
    Step Op → ℕ → Type 0
FailsFrom O c [] line s n = ⊥
FailsFrom O c (a ∷ ss) line s n =
    ((a ≡ record { line = line; what = s }) × Breaks O c s (suc n))
    ⊎ (Meets O c a.what × FailsFrom O (then c a.what) ss line s n)

-- The criterion of this number is one of bookkeeping.
abbrev pub IsOfBookkeeping : {Op : Type 0} → Step Op → ℕ → Type 0
IsOfBookkeeping (Begin t p b) n = Unit {0}
IsOfBookkeeping (App t id op) n = n ≤ 3
IsOfBookkeeping (Unapp t id) n = n ≤ 1
IsOfBookkeeping (Push t id) n = n ≤ 1
IsOfBookkeeping (Unpush t id) n = n ≤ 1
IsOfBookkeeping (Pull t id) n = n ≤ 1
IsOfBookkeeping (Unpull t id) n = n ≤ 1
IsOfBookkeeping (Cmt t) n = n ≤ 2
IsOfBookkeeping (Quit t) n = n ≤ 1
IsOfBookkeeping (Note t) n = n ≤ 1
