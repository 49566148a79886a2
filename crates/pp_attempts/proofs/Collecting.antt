-- Proof machinery: the peaks of steps, one step after another.
use Rattle.std.specs.Prelude.{◌≡◌, ◌≤◌, ◌<◌, ◌+◌, ℕ, suc, zero, Bool, true, false, cond, not, List, [], ◌∷◌, ◌++◌}
use Rattle.std.specs.Prelude.{length, take, drop}
use Rattle.std.proofs.Common.{refl, sym, ap, ◌∙◌, arith, append_assoc, get_or}
use Rattle.std.proofs.lemmas.List.{length-map, length-take, drop-map, map-append}
use Rattle.pp_core.specs.declared.step.Step.{Step as StepOf}
use Rattle.pp_core.specs.Steps.{meaning}
use Rattle.pp_model.specs.Config.{Step, Begin, App, Unapp, Push, Unpush, Pull, Unpull, Cmt, Quit, Note}
use Rattle.pp_model.specs.Names.{Name}
use Rattle.pp_model.specs.Object.{Item}
use Rattle.pp_model.specs.Serial.{own_of}
use Rattle.pp_attempts.specs.Lists.{peak_at}
use Rattle.pp_attempts.specs.Peaks.{Peak, goes_on, meanings, peaks_behind}
use Rattle.pp_attempts.specs.Tops.{is_top, tops}
use Rattle.pp_attempts.proofs.Fronts.{drop_there, take_there, cut_there}
use Rattle.pp_attempts.proofs.Orders.{own_short}

-- the meanings of the steps at the one that a loop is at
module _ {Op : Type 0} (steps : List (StepOf Op)) (i : ℕ) (step : StepOf Op) (there : i < length steps)
    (is : step ≡ get_or steps i step) where
  -- The meanings of the steps from a position on are that of the step there, then the others.
  pub meanings_drop : meanings (drop i steps) ≡ meaning step ∷ meanings (drop (i + 1) steps)
  meanings_drop = ap (λ (w : List (StepOf Op)). meanings w) (drop_there steps i step there is)

  -- The meanings of the steps up to a position are those before it, and that of the step there.
  pub meanings_take : meanings (take (i + 1) steps) ≡ meanings (take i steps) ++ meaning step ∷ []
  meanings_take = ap (λ (w : List (StepOf Op)). meanings w) (take_there steps i step there is)
      ∙ map-append meaning (take i steps) (step ∷ [])

  -- The meanings of all steps are those before a position, that of the step there, and the others.
  pub meanings_cut : meanings steps ≡ meanings (take i steps) ++ meaning step ∷ meanings (drop (i + 1) steps)
  meanings_cut = ap (λ (w : List (StepOf Op)). meanings w) (cut_there steps i step there is)
      ∙ map-append meaning (take i steps) (step ∷ drop (i + 1) steps)

-- The peak right after a step, and then those after the others.
pub peaks_step : {Op : Type 0} (past : List (Step Op)) (s : Step Op) (ss : List (Step Op)) →
    peaks_behind past (s ∷ ss) ≡ peak_at (is_top s ss) s (λ t. own_of t (past ++ s ∷ [])) ++ peaks_behind (past ++ s ∷ []) ss
peaks_step {Op} past (App t id op) ss = by (goes_on t ss)
  where
    peak : Peak Op
    peak = record { tx = t; ops = own_of t (past ++ App t id op ∷ []) }

    by : (b : Bool) → cond b (peaks_behind (past ++ App t id op ∷ []) ss) (peak ∷ peaks_behind (past ++ App t id op ∷ []) ss)
        ≡ cond (not b) (peak ∷ []) [] ++ peaks_behind (past ++ App t id op ∷ []) ss
    by true = refl
    by false = refl
peaks_step past (Unapp u id) ss = refl
peaks_step past (Begin u v b) ss = refl
peaks_step past (Push u id) ss = refl
peaks_step past (Unpush u id) ss = refl
peaks_step past (Pull u id) ss = refl
peaks_step past (Unpull u id) ss = refl
peaks_step past (Cmt u) ss = refl
peaks_step past (Quit u) ss = refl
peaks_step past (Note u) ss = refl

-- A run has one mark for each step, which says whether an attempt ends there.
pub length-tops : {Op : Type 0} (ss : List (Step Op)) → length (tops ss) ≡ length ss
length-tops [] = refl
length-tops (s ∷ ss) = ap suc (length-tops ss)

-- whether there is a peak at the step that a loop is at
pub tops_at : {Op : Type 0} (ss rest : List (Step Op)) (s : Step Op) (i : ℕ) (d : Bool) → drop i ss ≡ s ∷ rest → get_or (tops ss) i d ≡ is_top s rest
tops_at [] rest s zero d h = absurd (cc)
tops_at [] rest s (suc i) d h = absurd (cc)
tops_at {Op} (a ∷ ss) rest s zero d h = ap (λ (w : List (Step Op)). get_or (tops w) 0 d) h
tops_at (a ∷ ss) rest s (suc i) d h = tops_at ss rest s i d h

-- To drop the first meanings of steps is to take the meanings without the first steps.
pub map_drop : {Op : Type 0} (steps : List (StepOf Op)) (i : ℕ) → drop i (meanings steps) ≡ meanings (drop i steps)
map_drop steps i = drop-map meaning i steps

-- Written steps have as many marks as there are steps.
pub length-marks : {Op : Type 0} (steps : List (StepOf Op)) → length (tops (meanings steps)) ≡ length steps
length-marks steps = length-tops (meanings steps) ∙ length-map steps meaning

-- The own list of a transaction is no longer than the steps so far.
pub own_within : {Op : Type 0} (t : Name) (steps : List (StepOf Op)) (i : ℕ) → length (own_of t (meanings (take i steps))) ≤ i
own_within t steps i = omega (arith, own_short t (meanings (take i steps)), length-map (take i steps) meaning, length-take i steps)

-- The attempt at a step depends only on the own lists.
pub peak_same : {Op : Type 0} (top : Bool) (s : Step Op) (own own2 : Name → List (Item Op)) → ((t : Name) → own t ≡ own2 t) → peak_at top s own ≡ peak_at top s own2
peak_same {Op} top (App t id op) own own2 h = ap (λ (w : List (Item Op)). cond top (record { tx = t; ops = w } ∷ []) []) (h t)
peak_same top (Unapp u id) own own2 h = refl
peak_same top (Begin u v b) own own2 h = refl
peak_same top (Push u id) own own2 h = refl
peak_same top (Unpush u id) own own2 h = refl
peak_same top (Pull u id) own own2 h = refl
peak_same top (Unpull u id) own own2 h = refl
peak_same top (Cmt u) own own2 h = refl
peak_same top (Quit u) own own2 h = refl
peak_same top (Note u) own own2 h = refl

-- the peaks so far and those to come, one step on
pub further : {Op : Type 0} (past past2 rest : List (Step Op)) (s : Step Op) (top : Bool) (own : Name → List (Item Op)) (ps all : List (Peak Op)) →
    past2 ≡ past ++ s ∷ [] → top ≡ is_top s rest → ((t : Name) → own t ≡ own_of t past2) → ps ++ peaks_behind past (s ∷ rest) ≡ all →
    (ps ++ peak_at top s own) ++ peaks_behind past2 rest ≡ all
further {Op} past past2 rest s top own ps all grown is lists so_far =
    append_assoc ps (peak_at top s own) (peaks_behind past2 rest)
    ∙ ap (λ (w : List (Peak Op)). ps ++ (w ++ peaks_behind past2 rest))
    (peak_same top s own (λ t. own_of t (past ++ s ∷ [])) (λ t. lists t ∙ ap (λ (w : List (Step Op)). own_of t w) grown)
    ∙ ap (λ (b : Bool). peak_at b s (λ t. own_of t (past ++ s ∷ []))) is)
    ∙ ap (λ (w : List (Step Op)). ps ++ (peak_at (is_top s rest) s (λ t. own_of t (past ++ s ∷ [])) ++ peaks_behind w rest)) grown
    ∙ ap (λ (w : List (Peak Op)). ps ++ w) (sym (peaks_step past s rest))
    ∙ so_far
