-- What certifying an input costs: its steps, and its serial run.
use Rattle.std.specs.Prelude.{◌≡◌, ◌≤◌, ◌+◌, ℕ, List, length, Option}
use Rattle.std.proofs.Common.{sym, ap, ◌∙◌, subst, arith}
use Rattle.pp_core.specs.declared.call.Kind.{Kind}
use Rattle.pp_core.specs.declared.entry.CommittedTx.{CommittedTx}
use Rattle.pp_core.specs.declared.status.Status.TheVariants as statuses
use Rattle.pp_records.proofs.Whole.{one_run_law}
use Rattle.pp_records.specs.Runs.{Lined, LinedSteps, bare}
use Rattle.pp_format_read.specs.declared.header.Header.{Header}
use Rattle.pp_model.specs.Config.{Start, Step}
use Rattle.pp_model.specs.Serial.{attempts}
use Rattle.pp_model.specs.Sound.{serial_ops}
use Rattle.pp_objects.specs.declared.act.Op.{Op}
use Rattle.pp_machine.specs.Machines.{Seen}
use Rattle.pp_styles.specs.Costs.{singles}
use Rattle.pp_judge.specs.Costs.{CostsAtLeast, CostsAtMost, OfRun, StepsCostAtLeast, StepsCostAtMost, serial_length}
use Rattle.pp_judge.specs.Costs.{start_behind, steps_at_most}
use Rattle.pp_judge.specs.Objects.{object_of, start_of, translation_of}
use Rattle.pp_judge.specs.Running.{IsRunning}
use Rattle.pp_judge.specs.Scans.{InputScan}
use Rattle.pp_judge.specs.declared.progress.Tally.{Tally}
use Rattle.pp_judge.proofs.Concluding.{committed_are, serial_is}
use Rattle.pp_judge.proofs.Running.{is_run_so_far, run_so_far}

more_room : (old new a b : ℕ) → new ≤ old + a → new ≤ old + (a + b)
more_room old new a b x = omega (arith, x)

both_most : (old now new a b n : ℕ) → now ≤ old + a → new ≤ now + n → n ≡ b → new ≤ old + (a + b)
both_most old now new a b n x y z = omega (arith, x, y, z)

both_least : (old now new a b n : ℕ) → old + a ≤ now → new ≡ now + n → n ≡ b → old + (a + b) ≤ new
both_least old now new a b n x y z = omega (arith, x, y, z)

-- without a serial run
pub no_serial : (sc : InputScan) (old new : ℕ) → StepsCostAtMost sc old new → CostsAtMost sc old new
no_serial sc old new most run is = more_room old new (steps_at_most (start_behind sc.header) (bare run)) (serial_length (start_behind sc.header) (bare run)) (most run is)

abbrev Serial : ℕ → Option (Start Op) → List (Step Op) → Type 0
Serial n start steps = n ≡ serial_length start steps

-- the serial run of the machine is that of the run
serial_count : (sc : InputScan) (tally : Tally) (machine : Seen (List Kind) Op) → IsRunning sc tally machine → OfRun sc.header sc.records (Serial (length (serial_ops machine.config.done)))
serial_count sc tally machine r =
    let h = tally.header in
    let so_far : LinedSteps Op = run_so_far sc tally machine r in
    let here : length (serial_ops machine.config.done) ≡ serial_length (start_of h) (bare so_far) =
    ap (λ (D : List (CommittedTx Op)). length (serial_ops D)) (committed_are sc tally machine r) ∙ ap (λ (l : List Op). length l) (serial_is (attempts (start_of h) (bare so_far))) in
    subst (λ (w : Option (Lined Header)). OfRun w sc.records (Serial (length (serial_ops machine.config.done)))) (sym r.follows.header) (λ run is.
    let same : so_far ≡ run = (one_run_law (object_of h) (translation_of h)).run (start_of h) sc.records so_far run (is_run_so_far sc tally machine r) is in
    subst (λ (w : LinedSteps Op). length (serial_ops machine.config.done) ≡ serial_length (start_of h) (bare w)) same here)

module _ (sc : InputScan) (tally : Tally) (machine : Seen (List Kind) Op) (r : IsRunning sc tally machine) (old now new : ℕ) where
  -- If the serial run raises the counter by at most its length after the steps, certifying costs at most the new count.
  pub serial_most : StepsCostAtMost sc old now → new ≤ now + length (serial_ops machine.config.done) → CostsAtMost sc old new
  serial_most most cost run is =
      both_most old now new (steps_at_most (start_behind sc.header) (bare run)) (serial_length (start_behind sc.header) (bare run)) (length (serial_ops machine.config.done)) (most run is) cost (serial_count sc tally machine r run is)

  -- If the serial run raises the counter by its length after the steps, certifying costs at least the new count.
  pub serial_least : StepsCostAtLeast statuses.Accepted sc old now → new ≡ now + length (serial_ops machine.config.done) → CostsAtLeast statuses.Accepted sc old new
  serial_least least cost run is =
      both_least old now new (singles (bare run)) (serial_length (start_behind sc.header) (bare run)) (length (serial_ops machine.config.done)) (least run is) cost (serial_count sc tally machine r run is)
