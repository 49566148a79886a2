-- Meaning: the peaks of a run: what a transaction had applied each time when it went no further.
use Rattle.std.specs.Prelude.{◌≡◌, ◌<◌, ℕ, Bool, true, false, cond, List, [], ◌∷◌, ◌++◌, map, sum}
use Rattle.std.specs.Prelude.{length, Some}
use Rattle.pp_core.specs.declared.step.Step.{Step as StepOf}
use Rattle.pp_core.specs.Steps.{Step, Begin, App, Unapp, Push, Unpush, Pull, Unpull, Cmt, Quit}
use Rattle.pp_core.specs.Steps.{Note, meaning}
use Rattle.pp_model.specs.Config.{last}
use Rattle.pp_model.specs.Lists.{Before, In}
use Rattle.pp_model.specs.Names.{Name, ◌=ⁿ◌}
use Rattle.pp_model.specs.Object.{Item}
use Rattle.pp_model.specs.Serial.{own_of}
pub use Rattle.pp_attempts.specs.declared.peak.Peak.{Peak}
use Rattle.pp_attempts.specs.declared.peak.PeakFault.{PeakFault}
use Rattle.pp_attempts.specs.declared.peak.PeakFault.TheVariants.{TooMany, OutOfMemory}

-- the steps that written ones mean
abbrev pub meanings : {Op : Type 0} → List (StepOf Op) → List (Step Op)
meanings list = map meaning list

-- The first of t's APP and UNAPP steps among these is an APP.
abbrev pub goes_on : {Op : Type 0} → Name → List (Step Op) → Bool
goes_on t [] = false
goes_on t (App u id op ∷ ss) = cond (u =ⁿ t) true (goes_on t ss)
goes_on t (Unapp u id ∷ ss) = cond (u =ⁿ t) false (goes_on t ss)
goes_on t (Begin u p b ∷ ss) = goes_on t ss
goes_on t (Push u id ∷ ss) = goes_on t ss
goes_on t (Unpush u id ∷ ss) = goes_on t ss
goes_on t (Pull u id ∷ ss) = goes_on t ss
goes_on t (Unpull u id ∷ ss) = goes_on t ss
goes_on t (Cmt u ∷ ss) = goes_on t ss
goes_on t (Quit u ∷ ss) = goes_on t ss
goes_on t (Note u ∷ ss) = goes_on t ss

-- The peaks right after the APP steps of `ss`, which follow the steps `past`: there is one right
-- after each, unless its transaction goes on, and it has the transaction's own list there.
abbrev pub peaks_behind : {Op : Type 0} → List (Step Op) → List (Step Op) → List (Peak Op)
peaks_behind past [] = []
peaks_behind past (App t id op ∷ ss) =
    cond (goes_on t ss) (peaks_behind (past ++ App t id op ∷ []) ss)
    (record { tx = t; ops = own_of t (past ++ App t id op ∷ []) }
    ∷ peaks_behind (past ++ App t id op ∷ []) ss)
peaks_behind past (Begin u p b ∷ ss) = peaks_behind (past ++ Begin u p b ∷ []) ss
peaks_behind past (Unapp u id ∷ ss) = peaks_behind (past ++ Unapp u id ∷ []) ss
peaks_behind past (Push u id ∷ ss) = peaks_behind (past ++ Push u id ∷ []) ss
peaks_behind past (Unpush u id ∷ ss) = peaks_behind (past ++ Unpush u id ∷ []) ss
peaks_behind past (Pull u id ∷ ss) = peaks_behind (past ++ Pull u id ∷ []) ss
peaks_behind past (Unpull u id ∷ ss) = peaks_behind (past ++ Unpull u id ∷ []) ss
peaks_behind past (Cmt u ∷ ss) = peaks_behind (past ++ Cmt u ∷ []) ss
peaks_behind past (Quit u ∷ ss) = peaks_behind (past ++ Quit u ∷ []) ss
peaks_behind past (Note u ∷ ss) = peaks_behind (past ++ Note u ∷ []) ss

-- the peaks of these steps, in the order of the APP steps
abbrev pub peaks : {Op : Type 0} → List (Step Op) → List (Peak Op)
peaks ss = peaks_behind [] ss

-- how many operations all of them have
abbrev pub operations : {Op : Type 0} → List (Peak Op) → ℕ
operations ps = sum (map (λ p. length p.ops) ps)

-- Too many are reported only if all together have more than the limit, and with their number. Since
-- the peaks are reported only if they have not, this is exact.
abbrev pub IsFaultOf : ℕ → ℕ → PeakFault → Type 0
IsFaultOf n most (TooMany count) = (count ≡ n) × (most < n)
IsFaultOf n most OutOfMemory = Unit {0}

-- Entries of these peaks that have one id are one.
abbrev pub IdsTell : {Op : Type 0} → List (Peak Op) → Type 0
IdsTell {Op} ps =
    (p q : Peak Op) (i j : Item Op) → In p ps → In q ps → In i p.ops → In j q.ops → i.id ≡ j.id
    → i ≡ j

-- The facts about the steps of an accepted run.
pub record IsOrderly {Op : Type 0} (ss : List (Step Op)) : Type 0 where
  -- no id is in two APP steps
  pub once : (t u : Name) (id : ℕ) (a b : Op) → Before (App t id a) (App u id b) ss → ⊥
  -- each UNAPP step has the id of the last entry of its transaction's own list before it
  pub last_first : (past rest : List (Step Op)) (t : Name) (id : ℕ) → ss ≡ past ++ Unapp t id ∷ rest
      → (p : Item Op) × (last (own_of t past) ≡ Some p) × (p.id ≡ id)
