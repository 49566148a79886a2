-- The output of an accepted run, by its machine and the steps that are kept, and what it costs.
use Rattle.std.specs.Prelude.{◌≡◌, ◌≤◌, ◌+◌, ◌-◌, ℕ, List, [], ◌∷◌, length, slice_get, filter, cond, Bool, true, false, Option, Some, option_map}
use Rattle.std.proofs.Common.{refl, sym, ap, ◌∙◌, subst, arith}
use Rattle.std.proofs.lemmas.List.{length-map}
use Rattle.std.proofs.lemmas.Option.{same_Some, slice_get-map}
use mathlib.Core.Logic.{inl, inr}
use Rattle.pp_core.specs.declared.call.Kind.{Kind}
use Rattle.pp_core.specs.declared.entry.CommittedTx.{CommittedTx}
use Rattle.pp_core.specs.declared.status.Status.{Status}
use Rattle.pp_core.specs.declared.status.Status.TheVariants as statuses
use Rattle.pp_core.specs.Steps.{Step}
use Rattle.pp_records.proofs.Ends.{length_bare}
use Rattle.pp_records.specs.Runs.{Lined, LinedSteps, bare}
use Rattle.pp_model.specs.Config.{Start, but_last, first}
use Rattle.pp_model.specs.Rules.{RunsFrom}
use Rattle.pp_model.specs.Serial.{attempts, committed_tx}
use Rattle.pp_model.specs.Sound.{serial_ops}
use Rattle.pp_objects.specs.Objects.{kinds_of, objects}
use Rattle.pp_objects.specs.declared.act.Op.{Op}
use Rattle.pp_objects.specs.declared.states.ObjectState.{ObjectState}
use Rattle.pp_report.specs.Reports.{accepted_text}
use Rattle.pp_machine.specs.Machines.{Seen}
use Rattle.pp_kind.specs.Object.{state_after}
use Rattle.pp_laws_opacity.specs.Opacity.{IsOpaque}
use Rattle.pp_laws_opacity.specs.Zombies.{IsZombie}
use Rattle.pp_opacity.specs.Costs.{searching_at_most}
use Rattle.pp_opacity.specs.Results.{as_zombie}
use Rattle.pp_opacity.specs.declared.zombie.Zombie.{Zombie as Found}
use Rattle.pp_styles.specs.Costs.{is_single, singles}
use Rattle.pp_styles.specs.Meanings.{meanings}
use Rattle.pp_judge.proofs.Concluding.{accepted_told, fault_report, run_report}
use Rattle.pp_judge.proofs.Exact.{certified_exact}
use Rattle.pp_judge.proofs.Running.{rejected_sound, running_sound}
use Rattle.pp_judge.specs.Accepted.{HasRun}
use Rattle.pp_judge.specs.Costs.{OfRun, StepsCostAtLeast, StepsCostAtMost, start_behind, steps_at_most}
use Rattle.pp_judge.specs.Inputs.{IsFaultOf, scan}
use Rattle.pp_judge.specs.Objects.{object_of, start_of}
use Rattle.pp_judge.specs.Reports.{IsCertified, IsRunTold}
use Rattle.pp_judge.specs.Running.{IsRejected, IsRunning}
use Rattle.pp_judge.specs.Scans.{InputScan}
use Rattle.pp_judge.specs.declared.driven.Rejection.{Rejection}
use Rattle.pp_judge.specs.declared.progress.Tally.{Tally}
use Rattle.pp_input_reader.specs.FaultTexts.{fault_text}
use Rattle.pp_input_reader.specs.declared.cause.Cause.{Cause}
use Rattle.pp_cmd_views.proofs.Telling.{committed, holds, met, own_run, steps_are}
use Rattle.pp_cmd_opaque.specs.Bounds.{OpaqueCostsAtMost, search_at_most}
use Rattle.pp_cmd_opaque.specs.Kept.{HasKeptRun, lines_of}
use Rattle.pp_cmd_opaque.specs.Meanings.{MeetsAll}
use Rattle.pp_cmd_opaque.specs.Outputs.{IsOpaqueOutput, IsScanOutput, IsStepOn}
use Rattle.pp_cmd_opaque.specs.Texts.{opaque_text, zombie_text}
use Rattle.pp_cmd_opaque.specs.declared.kept_run.KeptRun.{KeptRun}
use Rattle.pp_cmd_opaque.proofs.Zombies.{zombie_on_line}

-- ---- numbers

more : (old now new a b : ℕ) → old + a ≤ now → now ≤ new → b ≤ a → old + b ≤ new
more old now new a b x y z = omega (arith, x, y, z)

-- ---- the line of a step

-- The line that is kept of a step is its line.
pub kept_line : (run : LinedSteps Op) (number at_line kept : ℕ) → IsStepOn run number at_line → slice_get (lines_of run) (number - 1) ≡ Some kept → at_line ≡ kept
kept_line run number at_line kept (i, s, n, there) is =
    let place : number - 1 ≡ i = omega (arith, n) in
    let line_at = λ (l : Lined (Step Op)). l.line in
    same_Some at_line kept
    (ap (λ (o : Option (Lined (Step Op))). option_map line_at o) (sym there) ∙ sym (slice_get-map line_at run i) ∙ ap (λ (k : ℕ). slice_get (lines_of run) k) (sym place) ∙ is)

-- ---- an accepted run

module _ (sc : InputScan) (tally : Tally) (machine : Seen (List Kind) Op) (kept : KeptRun) (k : HasKeptRun sc tally machine kept) where
  abbrev steps : List (Step Op)
  steps = meanings kept.steps

  abbrev own : HasRun sc
  own = own_run sc tally machine (meanings kept.steps) k.steps

  steps_same : meanings kept.steps ≡ bare own.run
  steps_same = steps_are sc tally machine (meanings kept.steps) k.steps

  -- A line is kept of each step.
  pub kept_lines : length kept.lines ≡ length (meanings kept.steps)
  kept_lines =
      ap (λ (ls : List ℕ). length ls) (k.lines own) ∙ length-map own.run (λ (l : Lined (Step Op)). l.line)
      ∙ sym (length_bare own.run) ∙ sym (ap (λ (w : List (Step Op)). length w) steps_same)

  -- If no zombie is found, the text of the opaque run is the output.
  pub opaque_output : (count done : ℕ) (text : List ℕ) → IsOpaque (object_of tally.header) (start_of tally.header) (meanings kept.steps) → count ≡ length (meanings kept.steps) → done ≡ length machine.config.done
      → text ≡ opaque_text count done → IsScanOutput sc statuses.Accepted text
  opaque_output count done text is many finished told =
      let h = start_of tally.header in
      let attempts_are : length machine.config.done ≡ length (attempts h (bare own.run)) =
      ap (λ (D : List (CommittedTx Op)). length D) (committed sc tally machine steps k.steps) ∙ length-map (attempts h steps) committed_tx ∙ ap (λ (w : List (Step Op)). length (attempts h w)) steps_same in
      let size : count ≡ length own.run = many ∙ ap (λ (w : List (Step Op)). length w) steps_same ∙ length_bare own.run in (
        own,
        inl (
          refl,
          (
            subst (λ (w : List (Step Op)). IsOpaque (object_of tally.header) h w) steps_same is,
            told ∙ ap (λ (n : ℕ). opaque_text n done) size ∙ ap (λ (n : ℕ). opaque_text (length own.run) n) (finished ∙ attempts_are),
          ),
        ),
      )

  -- If a first zombie is found, its text, with the line that is kept of its step, is the output.
  pub zombie_output : (z : Found Op) (line : ℕ) (text : List ℕ) → IsZombie (object_of tally.header) (start_of tally.header) (meanings kept.steps) (as_zombie z)
      → slice_get kept.lines (z.step - 1) ≡ Some line → text ≡ zombie_text tally.header.catalog line z → IsScanOutput sc statuses.Rejected text
  zombie_output z line text is there told =
      let header = tally.header in
      let zombie : IsZombie (object_of header) (start_of header) (bare own.run) (as_zombie z) = subst (λ (w : List (Step Op)). IsZombie (object_of header) (start_of header) w (as_zombie z)) steps_same is in
      let begun = met sc tally machine steps k.steps in
      let runs = subst (λ (w : List (Step Op)). RunsFrom (object_of header) (first (start_of header)) w) steps_same (holds sc tally machine steps k.steps) in
      let on = zombie_on_line header own.run begun runs (as_zombie z) zombie in
      let same : on.0 ≡ line = kept_line own.run z.step on.0 line on.1 (subst (λ (ls : List ℕ). slice_get ls (z.step - 1) ≡ Some line) (k.lines own) there) in
      (own, inr (refl, (z, line, zombie, subst (λ (n : ℕ). IsStepOn own.run z.step n) same on.1, told)))

  -- ---- what it costs

  -- Within the bound of the steps, and up by at most what the search costs at most, the counter is within that of `opaque`.
  pub searched_most : (old now new : ℕ) → StepsCostAtMost sc old now → new ≤ now + searching_at_most (start_of tally.header) (meanings kept.steps) machine.config.done → OpaqueCostsAtMost sc old new
  searched_most old now new most cost other is =
      let most_here = most other is in
      let z = start_of tally.header in
      let steps_is : meanings kept.steps ≡ bare other = k.steps.are other is in
      let start_is : z ≡ start_behind sc.header = ap start_behind (sym k.steps.running.follows.header) in
      let same : searching_at_most z (meanings kept.steps) machine.config.done ≡ search_at_most (start_behind sc.header) (bare other) =
      ap (λ (D : List (CommittedTx Op)). searching_at_most z (meanings kept.steps) D) (committed sc tally machine steps k.steps)
      ∙ ap (λ (y : Option (Start Op)). search_at_most y (meanings kept.steps)) start_is
      ∙ ap (λ (w : List (Step Op)). search_at_most (start_behind sc.header) w) steps_is in
      both_most old now new (steps_at_most (start_behind sc.header) (bare other)) (search_at_most (start_behind sc.header) (bare other)) (searching_at_most z (meanings kept.steps) machine.config.done) most_here cost same
    where
      both_most : (old now new a b n : ℕ) → now ≤ old + a → new ≤ now + n → n ≡ b → new ≤ old + (a + b)
      both_most old now new a b n x y z = omega (arith, x, y, z)

-- Without a search the counter is within the bound of `opaque`.
pub steps_most : (sc : InputScan) (old new : ℕ) → StepsCostAtMost sc old new → OpaqueCostsAtMost sc old new
steps_most sc old new most run is =
    more_room old new (steps_at_most (start_behind sc.header) (bare run)) (search_at_most (start_behind sc.header) (bare run)) (most run is)
  where
    more_room : (old new a b : ℕ) → new ≤ old + a → new ≤ old + (a + b)
    more_room old new a b x = omega (arith, x)

-- the steps but the last are no more than all
fewer_singles : (ss : List (Step Op)) → singles (but_last ss) ≤ singles ss
fewer_singles [] = omega arith
fewer_singles (a ∷ []) = omega arith
fewer_singles (a ∷ b ∷ ss) = by (is_single a) (fewer_singles (b ∷ ss))
  where
    by : (one : Bool) → singles (but_last (b ∷ ss)) ≤ singles (b ∷ ss)
        → length (cond one (a ∷ filter is_single (but_last (b ∷ ss))) (filter is_single (but_last (b ∷ ss)))) ≤ length (cond one (a ∷ filter is_single (b ∷ ss)) (filter is_single (b ∷ ss)))
    by true less = omega (arith, less)
    by false less = less

-- The search takes nothing from what the counter shows.
pub searched_least : (sc : InputScan) (status : Status) (old now new : ℕ) → (OfRun sc.header sc.records λ start steps. old + singles steps ≤ now) → now ≤ new → StepsCostAtLeast status sc old new
searched_least sc statuses.Accepted old now new least rises run is = more old now new (singles (bare run)) (singles (bare run)) (least run is) rises (same (singles (bare run)))
  where
    same : (n : ℕ) → n ≤ n
    same n = omega arith
searched_least sc statuses.Rejected old now new least rises run is = more old now new (singles (bare run)) (singles (but_last (bare run))) (least run is) rises (fewer_singles (bare run))
searched_least sc statuses.BadWords old now new least rises run is = more old now new (singles (bare run)) 0 (least run is) rises (omega arith)
searched_least sc statuses.InputFault old now new least rises run is = more old now new (singles (bare run)) 0 (least run is) rises (omega arith)
searched_least sc statuses.ReadFault old now new least rises run is = more old now new (singles (bare run)) 0 (least run is) rises (omega arith)
searched_least sc statuses.WriteFault old now new least rises run is = more old now new (singles (bare run)) 0 (least run is) rises (omega arith)
searched_least sc statuses.OutOfMemory old now new least rises run is = more old now new (singles (bare run)) 0 (least run is) rises (omega arith)
searched_least sc statuses.TooLarge old now new least rises run is = more old now new (singles (bare run)) 0 (least run is) rises (omega arith)

-- ---- the output of an input

-- The text of the fault of an input is its output, with status input fault.
pub fault_output : (bytes : List ℕ) (line : ℕ) (cause : Cause) (text : List ℕ) → IsFaultOf (scan bytes) (Some (line, cause)) → text ≡ fault_text line cause → IsOpaqueOutput bytes statuses.InputFault text
fault_output bytes line cause text faulty is = (statuses.InputFault, text, fault_report bytes line cause text faulty is, (refl, refl))

-- The text of the rejection of a rejected input is its output, with status rejected.
pub rejected_output : (bytes : List ℕ) (tally : Tally) (rejection : Rejection) (text : List ℕ) → IsRejected (scan bytes) tally rejection → IsRunTold (scan bytes) statuses.Rejected text → IsOpaqueOutput bytes statuses.Rejected text
rejected_output bytes tally rejection text r told =
    (statuses.Rejected, text, run_report bytes statuses.Rejected text (rejected_sound (scan bytes) tally rejection r) told, (refl, refl))

module _ (bytes : List ℕ) (tally : Tally) (machine : Seen (List Kind) Op) (running : IsRunning (scan bytes) tally machine) where
  accepted_report : (report : List ℕ) × IsCertified bytes statuses.Accepted report
  accepted_report =
      let sc : InputScan = scan bytes in
      let states : List ObjectState = state_after objects (kinds_of tally.header.catalog) (serial_ops machine.config.done) in
      let report : List ℕ = accepted_text tally.header.catalog machine.count machine.config.done states in
      (report, run_report bytes statuses.Accepted report (running_sound sc tally machine running) (accepted_told sc tally machine running machine.count machine.config.done states report refl refl refl refl))

  -- The output of the run of an accepted input is that of the input.
  pub accepted_output : (status : Status) (text : List ℕ) → IsScanOutput (scan bytes) status text → IsOpaqueOutput bytes status text
  accepted_output status text is = (statuses.Accepted, accepted_report.0, accepted_report.1, is)

  -- An accepted input has no fault, and its start and each of its steps meet their criteria.
  pub accepted_meets_all : MeetsAll bytes
  accepted_meets_all = (certified_exact bytes statuses.Accepted accepted_report.0 accepted_report.1).0 refl
