-- The steps of an accepted run and their lines, as they are kept.
use Rattle.std.specs.Prelude.{◌≡◌, ℕ, List, [], ◌∷◌, ◌++◌, map, Option}
use Rattle.std.proofs.Common.{refl, sym, ap, subst}
use Rattle.std.proofs.lemmas.List.{map-append}
use Rattle.pp_core.specs.Steps.{Step}
use Rattle.pp_core.specs.declared.step.Step.{Step as StepOf}
use Rattle.pp_records.specs.Runs.{Lined, LinedSteps, on_line}
use Rattle.pp_format_read.specs.declared.header.Header.{Header}
use Rattle.pp_format_write.specs.Statable.{IsWritable}
use Rattle.pp_model.specs.Config.{Start}
use Rattle.pp_model.specs.Lists.{Each}
use Rattle.pp_objects.specs.declared.act.Op.{Op}
use Rattle.pp_styles.specs.Meanings.{meanings}
use Rattle.pp_judge.proofs.Concluding.{only_run}
use Rattle.pp_judge.proofs.Running.{is_run_so_far, run_so_far, running_of}
use Rattle.pp_judge.specs.Costs.{OfRun}
use Rattle.pp_judge.specs.Driven.{driven_judging}
use Rattle.pp_judge.specs.Findings.{AreGood}
use Rattle.pp_judge.specs.Scans.{InputScan}
use Rattle.pp_judge.specs.declared.driven.Driven.{Driven}
use Rattle.pp_judge.specs.declared.progress.Tally.{Tally}
use Rattle.pp_cmd_views.proofs.Telling.{own_run}
use Rattle.pp_cmd_views.specs.Taken.{HasSteps}
use Rattle.pp_cmd_opaque.specs.Kept.{AreOfStyle, HasKept, HasKeptRun, lines_of}
use Rattle.pp_cmd_opaque.specs.declared.kept_run.KeptRun.{KeptRun}

-- The lines of joined steps are those of the first, and then those of the second.
pub lines_append : (xs ys : LinedSteps Op) → lines_of (xs ++ ys) ≡ lines_of xs ++ lines_of ys
lines_append xs ys = map-append (λ (s : Lined (Step Op)). s.line) xs ys

-- Steps on one line have this line as often as there are steps.
pub lines_same : (line : ℕ) (steps : List (StepOf Op)) → map (λ (s : StepOf Op). line) steps ≡ lines_of (on_line line (meanings steps))
lines_same line [] = refl
lines_same line (s ∷ steps) = ap (λ (ls : List ℕ). line ∷ ls) (lines_same line steps)

abbrev Are : List (Step Op) → Option (Start Op) → List (Step Op) → Type 0
Are steps start run = steps ≡ run

module _ (sc : InputScan) (tally : Tally) (judge : Driven KeptRun) (g : AreGood (driven_judging HasKept) sc tally judge) where
  kept_steps : HasSteps sc tally judge.machine (meanings judge.observer.steps)
  kept_steps =
      let running = running_of HasKept sc tally judge g in
      let steps = meanings judge.observer.steps in
      let seen = g.good.1 (run_so_far sc tally judge.machine running) (is_run_so_far sc tally judge.machine running) in
      record {
        running = running;
        are = subst (λ (o : Option (Lined Header)). OfRun o sc.records (Are steps)) (sym g.follows.header) (λ run is. (g.good.1 run is).0);
        each = subst (λ (w : List (Step Op)). Each (IsWritable tally.header.catalog) w) (sym seen.0) seen.2;
      }

  -- A machine that was driven through a run keeps its steps and their lines.
  pub kept_run : AreOfStyle sc → HasKeptRun sc tally judge.machine judge.observer
  kept_run styled = record {
    steps = kept_steps;
    lines = λ r.
        let own = own_run sc tally judge.machine (meanings judge.observer.steps) kept_steps in
        only_run sc own r (λ head run. judge.observer.lines ≡ lines_of run) (g.good.1 own.run own.steps).1;
    styled = styled;
  }
