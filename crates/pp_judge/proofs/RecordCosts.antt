-- How far one record more raises the counter of operations.
use Rattle.std.specs.Prelude.{◌≡◌, ◌⊎◌, ◌≤◌, ◌<◌, ◌+◌, ℕ, zero, suc, List, [], ◌∷◌, ◌++◌}
use Rattle.std.specs.Prelude.{length, take}
use Rattle.std.proofs.Common.{refl, sym, ap, ◌∙◌, subst, arith, length-append, append_assoc}
use Rattle.std.proofs.lemmas.List.{append-nil}
use mathlib.Core.Logic.{inl, inr}
use Rattle.pp_core.specs.declared.call.Kind.{Kind}
use Rattle.pp_core.specs.declared.limits.TheConstants.{MOST_STEPS}
use Rattle.pp_core.specs.Steps.{Step}
use Rattle.pp_core.specs.declared.status.Status.TheVariants as statuses
use Rattle.pp_records.specs.Records.{RunRecord}
use Rattle.pp_records.specs.Runs.{EndsAtFailure, IsRun, IsRunFrom, LinedSteps, Records, Standing, bare}
use Rattle.pp_records.specs.Runs.{on_line, outset}
use Rattle.pp_records.specs.Fronts.{Front}
use Rattle.pp_records.proofs.Ends.{bare_append, bare_on_line, ends_split, length_bare, never}
use Rattle.pp_records.proofs.Whole.{extends_law, unbegun}
use Rattle.pp_format_read.specs.declared.header.Header.{Header}
use Rattle.pp_model.specs.Config.{Config, after_from, but_last, first}
use Rattle.pp_model.specs.Object.{Object}
use Rattle.pp_model.specs.Rules.{Breaks, RunsFrom}
use Rattle.pp_objects.specs.Objects.{objects, place_of}
use Rattle.pp_objects.specs.declared.act.Op.{Op}
use Rattle.pp_machine.specs.Machines.{Seen}
use Rattle.pp_kind.specs.Object.{rules_of}
use Rattle.pp_styles.specs.Costs.{most_ticks, singles}
use Rattle.pp_styles.specs.Driving.{CostAtMost, HasDone}
use Rattle.pp_styles.specs.declared.any_front.AnyFront.{AnyFront}
use Rattle.pp_styles.proofs.Driven.{most_append, singles_append}
use Rattle.pp_judge.specs.Costs.{StepsCostAtLeast, StepsCostAtMost, start_at_most, steps_at_most}
use Rattle.pp_judge.specs.Objects.{object_of, start_of, translation_of}
use Rattle.pp_judge.specs.Running.{GoesOn}
use Rattle.pp_judge.specs.Tallies.{headed, one_more, scan_of}
use Rattle.pp_judge.specs.declared.driven.Rejection.{Rejection}
use Rattle.pp_judge.specs.laws.Driven.{add_le, few_steps, most_front, up_more}
use Rattle.pp_judge.proofs.Driving.{FailsWithin, steps_here}
use Rattle.pp_judge.proofs.Recorded.{bare_append_on_line, breaks_there, hold_there, on_line_append, same_steps}
use Rattle.pp_judge.proofs.Running.{all_so_far, config_there, run_there}
use Rattle.pp_judge.proofs.Tallying.{on_record}

plus_more : (a b d : ℕ) → a + (b + d) ≡ (a + b) + d
plus_more a b d = omega arith

-- ---- numbers

-- Within one bound more, the counter is within the sum of the bounds.
pub more_most : (old now new m m1 k k1 w : ℕ) → new ≤ now + w → now ≤ old + k → k ≡ m → k1 ≡ m1 → m1 ≡ m + w → new ≤ old + k1
more_most old now new m m1 k k1 w a b c d e = omega (arith, a, b, c, d, e)

-- If it rises by at least two numbers in turn, it rises by at least their sum.
pub more_least : (old now new a b k : ℕ) → old + a ≤ now → now + b ≤ new → k ≡ a + b → old + k ≤ new
more_least old now new a b k x y z = omega (arith, x, y, z)

still_few : (n a b most : ℕ) → n ≡ a → a + b ≤ most → n + b ≤ most
still_few n a b most x y = omega (arith, x, y)

few_first : (n a b most : ℕ) → n ≡ a → a + b ≤ most → n ≤ most
few_first n a b most x y = omega (arith, x, y)

-- ---- steps

-- the steps but the last, of a list with one step added at its end, are the list
pub but_last_end : (xs : List (Step Op)) (x : Step Op) → but_last (xs ++ x ∷ []) ≡ xs
but_last_end [] x = refl
but_last_end (y ∷ []) x = refl
but_last_end (y ∷ z ∷ ys) x = ap (λ (l : List (Step Op)). y ∷ l) (but_last_end (z ∷ ys) x)

-- The bare steps of a run that ends with steps on one line end with those steps.
pub bare_last : (line : ℕ) (xs : LinedSteps Op) (ys : List (Step Op)) (run : LinedSteps Op) → run ≡ xs ++ on_line line ys → bare run ≡ bare xs ++ ys
bare_last line xs ys run is =
    ap (λ (w : LinedSteps Op). bare w) is ∙ bare_append_on_line line xs ys

-- a run that begins with steps on one line
bare_first : (line : ℕ) (xs : List (Step Op)) (more run : LinedSteps Op) → run ≡ on_line line xs ++ more → bare run ≡ xs ++ bare more
bare_first line xs more run is =
    ap (λ (w : LinedSteps Op). bare w) is ∙ bare_append (on_line line xs) more ∙ ap (λ (w : List (Step Op)). w ++ bare more) (bare_on_line line xs)

module _ {State : Type 0} (O : Object Op State) (line : ℕ) where
  -- steps that hold are first in the run of them and of others
  stand_first : (c : Config Op) (before rest : List (Step Op)) (run : LinedSteps Op) → RunsFrom O c before → EndsAtFailure O c (on_line line (before ++ rest) ++ []) run
      → (more : LinedSteps Op) × EndsAtFailure O (after_from c before) (on_line line rest ++ []) more × (run ≡ on_line line before ++ more)
  stand_first c before rest run hold ends =
      let xs : LinedSteps Op = on_line line before in
      let ys : LinedSteps Op = on_line line rest ++ [] in
      let parts : on_line line (before ++ rest) ++ [] ≡ xs ++ ys = ap (λ (w : LinedSteps Op). w ++ []) (on_line_append line before rest) ∙ append_assoc xs (on_line line rest) [] in
      let same : bare xs ≡ before = bare_on_line line before in
      let k = ends_split O c xs ys run (subst (λ (w : List (Step Op)). RunsFrom O c w) (sym same) hold) (subst (λ (w : LinedSteps Op). EndsAtFailure O c w run) parts ends) in (
        k.0,
        subst (λ (w : List (Step Op)). EndsAtFailure O (after_from c w) ys k.0) same k.1,
        k.2,
      )

  one_first : (c : Config Op) (s : Step Op) (behind : List (Step Op)) (run : LinedSteps Op) → EndsAtFailure O c (on_line line (s ∷ behind) ++ []) run → (more : List (Step Op)) × (bare run ≡ s ∷ more)
  one_first c s behind run (inl e) = ([], ap (λ (w : LinedSteps Op). bare w) e.2)
  one_first c s behind run (inr e) = (bare e.1.0, ap (λ (w : LinedSteps Op). bare w) e.1.2)

  -- The run of steps that were tried, and of others after them, begins with those that were tried.
  pub tried_first : (c : Config Op) (before tried behind : List (Step Op)) (run : LinedSteps Op) → RunsFrom O c before → (tried ≡ before) ⊎ ((step : Step Op) × (tried ≡ before ++ step ∷ []))
      → EndsAtFailure O c (on_line line (tried ++ behind) ++ []) run → (more : List (Step Op)) × (bare run ≡ tried ++ more)
  tried_first c before tried behind run hold (inl e) ends =
      let k = stand_first c before behind run hold (subst (λ (w : List (Step Op)). EndsAtFailure O c (on_line line (w ++ behind) ++ []) run) e ends) in
      (bare k.0, bare_first line before k.0 run k.2 ∙ ap (λ (w : List (Step Op)). w ++ bare k.0) (sym e))
  tried_first c before tried behind run hold (inr one) ends =
      let s : Step Op = one.0 in
      let whole : tried ++ behind ≡ before ++ s ∷ behind = ap (λ (w : List (Step Op)). w ++ behind) one.1 ∙ append_assoc before (s ∷ []) behind in
      let k = stand_first c before (s ∷ behind) run hold (subst (λ (w : List (Step Op)). EndsAtFailure O c (on_line line w ++ []) run) whole ends) in
      let last = one_first (after_from c before) s behind k.0 k.1 in (
        last.0,
        bare_first line before k.0 run k.2 ∙ ap (λ (w : List (Step Op)). before ++ w) last.1 ∙ sym (append_assoc before (s ∷ []) last.0) ∙ ap (λ (w : List (Step Op)). w ++ last.0) (sym one.1),
      )

  -- If all steps meet their criteria, they are the run.
  pub whole_run : (c : Config Op) (steps before : List (Step Op)) (run : LinedSteps Op) → RunsFrom O c before → steps ≡ before ++ [] → EndsAtFailure O c (on_line line steps ++ []) run → run ≡ on_line line before
  whole_run c steps before run hold parts ends =
      let k = stand_first c before [] run hold (subst (λ (w : List (Step Op)). EndsAtFailure O c (on_line line w ++ []) run) parts ends) in
      let none : k.0 ≡ [] = k.1 in
      k.2 ∙ ap (λ (w : LinedSteps Op). on_line line before ++ w) none ∙ append-nil (on_line line before)

  -- If a step fails after steps that meet their criteria, the run ends with it.
  pub failed_run : (c : Config Op) (steps before behind : List (Step Op)) (s : Step Op) (n : ℕ) (run : LinedSteps Op) → RunsFrom O c before → steps ≡ before ++ s ∷ behind → Breaks O (after_from c before) s (suc n)
      → EndsAtFailure O c (on_line line steps ++ []) run → run ≡ on_line line (before ++ s ∷ [])
  failed_run c steps before behind s n run hold parts breaks ends =
      let k = stand_first c before (s ∷ behind) run hold (subst (λ (w : List (Step Op)). EndsAtFailure O c (on_line line w ++ []) run) parts ends) in
      k.2 ∙ ap (λ (w : LinedSteps Op). on_line line before ++ w) (last k.0 k.1) ∙ sym (on_line_append line before (s ∷ []))
    where
      last : (more : LinedSteps Op) → EndsAtFailure O (after_from c before) (on_line line (s ∷ behind) ++ []) more → more ≡ on_line line (s ∷ [])
      last more (inl e) = e.2
      last more (inr e) = absurd (never O (after_from c before) s n e.0 breaks)

-- ---- the record

module _ (h : Header) (rs : Records (RunRecord Op)) (front : AnyFront) (machine : Seen (List Kind) Op) (c : GoesOn h rs front machine) (line : ℕ) (r : RunRecord Op) where
  -- all steps that the records so far mean
  abbrev pub so_far : LinedSteps Op
  so_far = all_so_far h rs

  -- the run with this record is the run so far, and that of the steps of the record
  record_run : (run : LinedSteps Op) → IsRun (object_of h) (translation_of h) (start_of h) (rs ++ on_record line r ∷ []) run
      → (rest : LinedSteps Op) × EndsAtFailure (object_of h) machine.config (on_line line (steps_here h front machine r) ++ []) rest × (run ≡ so_far ++ rest)
  record_run run (inl e) = absurd (unbegun (object_of h) (start_of h) e.0 c.stands.begun e.1)
  record_run run (inr e) =
      let O = object_of h in
      let T = translation_of h in
      let k = ((extends_law O T).run (outset T (start_of h)) rs (on_record line r ∷ []) run c.stands.hold).0 e.1 in
      let there = subst (λ (p : Standing Front Op). IsRunFrom O T p (on_record line r ∷ []) k.0) (sym c.stands.place) k.1 in (
        k.0,
        subst (λ (w : List (Step Op)). EndsAtFailure O machine.config (on_line line w ++ []) k.0) (sym (same_steps h rs front machine c r)) there,
        k.2,
      )

  -- The run so far has as many steps as the machine has counted.
  pub size : length (bare so_far) ≡ machine.count
  size = length_bare so_far ∙ sym c.stands.number

  -- Within the upper bounds of the steps before a record and of its own, the counter is within the bound of both.
  pub most_record : (at old now new : ℕ) → StepsCostAtMost (scan_of (headed at h) rs) old now → CostAtMost MOST_STEPS objects place_of machine (steps_here h front machine r) now new → StepsCostAtMost (scan_of (headed at h) (one_more rs line r)) old new
  most_record at old now new most b = λ run is.
      let s = start_of h in
      let O = object_of h in
      let z : Config Op = first s in
      let xs : List (Step Op) = bare so_far in
      let ys : List (Step Op) = xs ++ b.tried in
      let k = record_run run is in
      let t = tried_first O line machine.config b.before b.tried b.behind k.0 (hold_there h rs front machine c r b.before b.hold) b.last
      (subst (λ (w : List (Step Op)). EndsAtFailure O machine.config (on_line line w ++ []) k.0) b.parts k.1) in
      let whole : bare run ≡ ys ++ t.0 = ap (λ (w : LinedSteps Op). bare w) k.2 ∙ bare_append so_far k.0 ∙ ap (λ (w : List (Step Op)). xs ++ w) t.1 ∙ sym (append_assoc xs b.tried t.0) in
      let here : now ≤ old + steps_at_most s xs = most so_far (run_there h rs front machine c) in
      let front_few : length xs ≤ 200_000 = few_first (length xs) machine.count (length b.tried) 200_000 size b.few in
      let all_few : length ys ≤ 200_000 = subst (λ (n : ℕ). n ≤ 200_000) (sym (length-append xs b.tried)) (still_few (length xs) machine.count (length b.tried) 200_000 size b.few) in
      let there : after_from z xs ≡ machine.config = sym (config_there h rs front machine c) in
      let parts : most_ticks place_of z ys ≡ most_ticks place_of z xs + most_ticks place_of machine.config b.tried =
      most_append place_of z xs b.tried ∙ ap (λ (w : Config Op). most_ticks place_of z xs + most_ticks place_of w b.tried) there in
      let sum : start_at_most s + most_ticks place_of z ys ≡ (start_at_most s + most_ticks place_of z xs) + most_ticks place_of machine.config b.tried =
      ap (λ (w : ℕ). start_at_most s + w) parts ∙ plus_more (start_at_most s) (most_ticks place_of z xs) (most_ticks place_of machine.config b.tried) in
      let bound : new ≤ old + steps_at_most s ys =
      more_most old now new (start_at_most s + most_ticks place_of z xs) (start_at_most s + most_ticks place_of z ys) (steps_at_most s xs) (steps_at_most s ys) (most_ticks place_of machine.config b.tried)
      b.most here (few_steps s xs front_few) (few_steps s ys all_few) sum in
      let wide : steps_at_most s ys ≤ steps_at_most s (ys ++ t.0) =
      add_le (start_at_most s) (most_ticks place_of z (take 200_000 ys)) (most_ticks place_of z (take 200_000 (ys ++ t.0))) (most_front 200_000 z ys t.0) in
      subst (λ (w : List (Step Op)). new ≤ old + steps_at_most s w) (sym whole) (up_more old new (steps_at_most s ys) (steps_at_most s (ys ++ t.0)) bound wide)

  -- the steps that were done, behind those so far
  least_more : (old now new : ℕ) (before : List (Step Op)) → old + singles (bare so_far) ≤ now → now + singles before ≤ new → old + singles (bare so_far ++ before) ≤ new
  least_more old now new before here cost =
      let xs : List (Step Op) = bare so_far in
      more_least old now new (singles xs) (singles before) (singles (xs ++ before)) here cost (singles_append xs before)

  -- the run with this record, if each of its steps is done
  pub done_run : (now new : ℕ) (v : Seen (List Kind) Op) (done : HasDone MOST_STEPS objects machine (steps_here h front machine r) [] v now new) (run : LinedSteps Op)
      → IsRun (object_of h) (translation_of h) (start_of h) (rs ++ on_record line r ∷ []) run → run ≡ so_far ++ on_line line done.before
  done_run now new v done run is =
      let k = record_run run is in
      let there : k.0 ≡ on_line line done.before = whole_run (object_of h) line machine.config (steps_here h front machine r) done.before k.0 (hold_there h rs front machine c r done.before done.hold) done.parts k.1 in
      k.2 ∙ ap (λ (w : LinedSteps Op). so_far ++ w) there

  -- and if one fails
  pub run_to_failed : (now new : ℕ) (rejection : Rejection) (e : FailsWithin MOST_STEPS machine (steps_here h front machine r) line now new rejection) (run : LinedSteps Op)
      → IsRun (object_of h) (translation_of h) (start_of h) (rs ++ on_record line r ∷ []) run → run ≡ so_far ++ on_line line (e.done.before ++ e.step ∷ [])
  run_to_failed now new rejection e run is = go e.criterion e.some e.breaks
    where
      go : (n : ℕ) → 0 < n → Breaks (rules_of objects e.at.shape) e.at.config e.step n → run ≡ so_far ++ on_line line (e.done.before ++ e.step ∷ [])
      go zero some breaks = absurd (omega arith)
      go (suc n) some breaks =
          let before : List (Step Op) = e.done.before in
          let k = record_run run is in
          let there : k.0 ≡ on_line line (before ++ e.step ∷ []) = failed_run (object_of h) line machine.config (steps_here h front machine r) before e.behind e.step n k.0 (hold_there h rs front machine c r before e.done.hold) e.done.parts
          (breaks_there h rs front machine c r before e.at e.step (suc n) e.done.is breaks) k.1 in
          k.2 ∙ ap (λ (w : LinedSteps Op). so_far ++ w) there

  -- the counter rises by one for each step that was done
  module _ (at old now new : ℕ) (least : StepsCostAtLeast statuses.Accepted (scan_of (headed at h) rs) old now) where
    here_least : old + singles (bare so_far) ≤ now
    here_least = least so_far (run_there h rs front machine c)

    -- If all steps of the record are done, the lower bound of the steps before it becomes one of the steps with it.
    pub least_done : (v : Seen (List Kind) Op) → HasDone MOST_STEPS objects machine (steps_here h front machine r) [] v now new → StepsCostAtLeast statuses.Accepted (scan_of (headed at h) (one_more rs line r)) old new
    least_done v done run is =
        subst (λ (w : List (Step Op)). old + singles w ≤ new) (sym (bare_last line so_far done.before run (done_run now new v done run is))) (least_more old now new done.before here_least done.least)

    -- If a step of the record fails, the lower bound of the steps before it becomes one of the rejected run.
    pub least_failed : (rejection : Rejection) → FailsWithin MOST_STEPS machine (steps_here h front machine r) line now new rejection → StepsCostAtLeast statuses.Rejected (scan_of (headed at h) (one_more rs line r)) old new
    least_failed rejection e run is =
        let done : List (Step Op) = bare so_far ++ e.done.before in
        let whole : bare run ≡ done ++ e.step ∷ [] =
        bare_last line so_far (e.done.before ++ e.step ∷ []) run (run_to_failed now new rejection e run is) ∙ sym (append_assoc (bare so_far) e.done.before (e.step ∷ [])) in
        let front_is : but_last (bare run) ≡ done = ap (λ (w : List (Step Op)). but_last w) whole ∙ but_last_end done e.step in
        subst (λ (w : List (Step Op)). old + singles w ≤ new) (sym front_is) (least_more old now new e.done.before here_least e.done.least)
