-- The text for an accepted run, from its machine and its steps.
use Rattle.std.specs.Prelude.{◌≡◌, ◌≤◌, ◌<◌, ◌+◌, ◌*◌, ℕ, IsTrue, Bool, true, false, List, [], ◌∷◌, length, map, nat_lt, cond}
use Rattle.std.specs.Prelude.{Option, None, Some, ◌⊎◌}
use Rattle.std.proofs.Common.{refl, sym, ap, ◌∙◌, subst, arith}
use Rattle.std.proofs.lemmas.Bool.Decides.{nat_tests}
use Rattle.std.proofs.lemmas.List.{length-append, length-map}
use mathlib.Core.Logic.{inl, inr}
use Rattle.pp_core.specs.Catalogs.{Objects}
use Rattle.pp_core.specs.declared.call.Kind.{Kind}
use Rattle.pp_core.specs.declared.entry.CommittedTx.{CommittedTx}
use Rattle.pp_core.specs.declared.entry.Item.{Item}
use Rattle.pp_core.specs.declared.limits.TheConstants.{MOST_VIEWED}
use Rattle.pp_core.specs.declared.status.Status.{Status}
use Rattle.pp_core.specs.declared.status.Status.TheVariants as statuses
use Rattle.pp_core.specs.Steps.{Step, App, Cmt}
use Rattle.pp_records.proofs.Ends.{length_bare}
use Rattle.pp_records.specs.Runs.{Lined, LinedSteps, bare}
use Rattle.pp_format_read.specs.declared.header.Header.{Header}
use Rattle.pp_format_write.specs.Statable.{IsOpOn, IsWritable}
use Rattle.pp_model.specs.Config.{Start, first}
use Rattle.pp_model.specs.Lists.{Each, In}
use Rattle.pp_model.specs.Object.{ops}
use Rattle.pp_model.specs.Rules.{RunsFrom, StartMeets}
use Rattle.pp_model.specs.Serial.{attempts, attempt_of, commits, committed_tx, start_attempts}
use Rattle.pp_model.specs.Sound.{serial_ops}
use Rattle.pp_objects.specs.Objects.{kinds_of, objects}
use Rattle.pp_objects.specs.declared.act.Op.{Op}
use Rattle.pp_objects.specs.declared.states.ObjectState.{ObjectState}
use Rattle.pp_report.specs.Reports.{accepted_text}
use Rattle.pp_machine.specs.Machines.{Seen}
use Rattle.pp_kind.specs.Object.{AllRanged, state_after}
use Rattle.pp_styles.specs.Costs.{singles}
use Rattle.pp_styles.specs.Meanings.{meanings}
use Rattle.pp_attempts.specs.declared.peak.Peak.{Peak}
use Rattle.pp_attempts.specs.Peaks.{IsOrderly, operations, peaks}
use Rattle.pp_attempts.specs.declared.view.View.{View}
use Rattle.pp_attempts.specs.Views.{AreViews, MayBeTried}
use Rattle.pp_attempts.proofs.KeptPeaks.{applied, peak_short}
use Rattle.pp_records.proofs.Carrying.{each_in}
use Rattle.pp_attempts.proofs.Runs.{orderly}
use Rattle.pp_judge.proofs.Concluding.{accepted_told, committed_are, fault_report, run_report}
use Rattle.pp_judge.proofs.Running.{is_run_so_far, rejected_sound, run_so_far, running_of, running_sound}
use Rattle.pp_judge.specs.Accepted.{HasRun}
use Rattle.pp_judge.specs.Certified.{IsDecided}
use Rattle.pp_judge.specs.Costs.{OfRun, StepsCostAtLeast, StepsCostAtMost, start_behind, steps_at_most}
use Rattle.pp_judge.specs.Driven.{driven_judging}
use Rattle.pp_judge.specs.Findings.{AreGood}
use Rattle.pp_judge.specs.Inputs.{IsFaultOf, scan}
use Rattle.pp_judge.specs.Objects.{object_of, start_of}
use Rattle.pp_judge.specs.Running.{IsRejected}
use Rattle.pp_judge.specs.Reports.{IsRunTold as IsReportTold}
use Rattle.pp_judge.specs.Scans.{InputScan}
use Rattle.pp_judge.specs.declared.driven.Driven.{Driven}
use Rattle.pp_judge.specs.declared.driven.Rejection.{Rejection}
use Rattle.pp_judge.specs.declared.progress.Tally.{Tally}
use Rattle.pp_input_reader.specs.FaultTexts.{fault_text}
use Rattle.pp_input_reader.specs.declared.cause.Cause.{Cause}
use Rattle.pp_cmd_views.specs.Costs.{ViewsCostAtMost, viewing_at_most}
use Rattle.pp_cmd_views.specs.Outputs.{IsRunTold, IsStepsTold, IsViews}
use Rattle.pp_cmd_views.specs.Taken.{HasSeenSteps, HasSteps}
use Rattle.pp_cmd_views.specs.declared.run_steps.RunSteps.{RunSteps}
use Rattle.pp_cmd_views.specs.Texts.{too_large_text, views_text}

-- ---- numbers

-- A run commits at most as many transactions as it has steps.
commits_short : (ss : List (Step Op)) → length (commits ss) ≤ length ss
commits_short [] = omega arith
commits_short (Cmt t ∷ ss) = let rest = commits_short ss in omega (arith, rest)
commits_short (s ∷ ss) = let rest = commits_short ss in omega (arith, rest)

starts_short : (h : Option (Start Op)) → length (start_attempts h) ≤ 1
starts_short None = omega arith
starts_short (Some z) = omega arith

-- A run has at most one committed transaction more than it has steps.
pub attempts_short : (h : Option (Start Op)) (ss : List (Step Op)) → length (map committed_tx (attempts h ss)) ≤ length ss + 1
attempts_short h ss =
    let all = length-map (attempts h ss) committed_tx in
    let both = length-append (start_attempts h) (map (attempt_of ss) (commits ss)) in
    let rest = length-map (commits ss) (attempt_of ss) in
    omega (arith, all, both, rest, starts_short h, commits_short ss)

-- ---- the conditions on the operations of an attempt

-- Operations on the objects of a run meet the conditions for trying them.
on_objects : (catalog : Objects) (items : List (Item Op)) → ((i : Item Op) → In i items → IsOpOn catalog i.op)
    → Each (λ op. IsTrue (objects.fits (kinds_of catalog) op)) (ops items) × AllRanged objects (ops items)
on_objects catalog [] all = (tt, tt)
on_objects catalog (x ∷ items) all =
    let here = all x (inl refl) in
    let rest = on_objects catalog items (λ i n. all i (inr n)) in
    ((here.0, rest.0), (here.1, rest.1))

-- ---- an accepted run

abbrev Are : List (Step Op) → Option (Start Op) → List (Step Op) → Type 0
Are steps start run = steps ≡ run

-- A machine that was driven through the run has its steps.
pub has_steps : (sc : InputScan) (tally : Tally) (judge : Driven RunSteps) → AreGood (driven_judging HasSeenSteps) sc tally judge → HasSteps sc tally judge.machine (meanings judge.observer.steps)
has_steps sc tally judge g =
    let running = running_of HasSeenSteps sc tally judge g in
    let steps = meanings judge.observer.steps in
    let seen = g.good.1 (run_so_far sc tally judge.machine running) (is_run_so_far sc tally judge.machine running) in
    record {
      running = running;
      are = subst (λ (o : Option (Lined Header)). OfRun o sc.records (Are steps)) (sym g.follows.header) (λ run is. (g.good.1 run is).0);
      each = subst (λ (w : List (Step Op)). Each (IsWritable tally.header.catalog) w) (sym seen.0) seen.1;
    }

module _ (sc : InputScan) (tally : Tally) (machine : Seen (List Kind) Op) (steps : List (Step Op)) (h : HasSteps sc tally machine steps) where
  abbrev header : Header
  header = tally.header

  abbrev kinds : List Kind
  kinds = kinds_of tally.header.catalog

  abbrev run : LinedSteps Op
  run = run_so_far sc tally machine h.running

  -- the run of the scan
  abbrev pub own_run : HasRun sc
  own_run = record {
    header = record { line = h.running.follows.at; what = tally.header };
    run = run;
    first_line = h.running.follows.header;
    steps = is_run_so_far sc tally machine h.running;
  }

  -- The steps are those of the run of the scan.
  pub steps_are : steps ≡ bare run
  steps_are = subst (λ (o : Option (Lined Header)). OfRun o sc.records (Are steps)) h.running.follows.header h.are run (is_run_so_far sc tally machine h.running)

  -- The start meets its criteria.
  pub met : StartMeets (object_of header) (start_of header)
  met = h.running.stands.begun

  -- Each step meets its criteria.
  pub holds : RunsFrom (object_of header) (first (start_of header)) steps
  holds = subst (λ (w : List (Step Op)). RunsFrom (object_of header) (first (start_of header)) w) (sym steps_are) h.running.stands.hold

  -- The committed transactions of the machine are the attempts of the steps.
  pub committed : machine.config.done ≡ map committed_tx (attempts (start_of header) steps)
  committed = committed_are sc tally machine h.running ∙ ap (λ (w : List (Step Op)). map committed_tx (attempts (start_of header) w)) (sym steps_are)

  -- The machine has counted the steps.
  pub count : machine.count ≡ length steps
  count = h.running.stands.number ∙ sym (length_bare run) ∙ ap (λ (w : List (Step Op)). length w) (sym steps_are)

  -- There are at most 200,000 steps.
  pub few_steps : length steps ≤ 200_000
  few_steps = let few = h.running.stands.few in omega (arith, few, count)

  -- The steps are orderly.
  pub orderly_steps : IsOrderly steps
  orderly_steps = orderly (object_of header) (start_of header) met steps holds

  -- There are at most 200,001 committed transactions.
  pub few_committed : length machine.config.done ≤ 200_001
  few_committed = let same = ap (λ (D : List (CommittedTx Op)). length D) committed in omega (arith, same, few_steps, attempts_short (start_of header) steps)

  -- The operations of an attempt may be tried after at most this many others.
  pub may_be_tried : (p : Peak Op) (n : ℕ) → In p (peaks steps) → n ≤ 200_256 → MayBeTried objects kinds n p.ops
  may_be_tried p n there few =
      let on = on_objects header.catalog p.ops (λ i m. each_in (IsWritable header.catalog) steps h.each (App p.tx i.id i.op) (applied steps p i there m)) in
      record {
        fit = on.0;
        ranged = on.1;
        few = omega (arith, few, few_steps, peak_short steps p there);
      }

  -- ---- the text

  -- If the peaks are not too large, the text of their views is that of the run, with status accepted.
  pub told_views : (vs : List View) (text : List ℕ) → AreViews (object_of header) machine.config.done (peaks steps) vs → text ≡ views_text machine.count (length machine.config.done) vs
      → operations (peaks steps) ≤ MOST_VIEWED → IsRunTold sc statuses.Accepted text
  told_views vs text are is few =
      let D = map committed_tx (attempts (start_of header) steps) in (
        own_run,
        subst (λ (w : List (Step Op)). IsStepsTold header w statuses.Accepted text) steps_are
            (inl (
              few,
              refl,
              (
                vs,
                subst (λ (E : List (CommittedTx Op)). AreViews (object_of header) E (peaks steps) vs) committed are,
                is ∙ ap (λ (n : ℕ). views_text n (length machine.config.done) vs) count ∙ ap (λ (E : List (CommittedTx Op)). views_text (length steps) (length E) vs) committed,
              ),
            )),
      )

  -- If the peaks are too large, the line that reports their number of operations is the text, with status too large.
  pub told_too_large : (n : ℕ) (text : List ℕ) → n ≡ operations (peaks steps) → MOST_VIEWED < operations (peaks steps) → text ≡ too_large_text n → IsRunTold sc statuses.TooLarge text
  told_too_large n text same many is = (
    own_run,
    subst (λ (w : List (Step Op)). IsStepsTold header w statuses.TooLarge text) steps_are (inr (many, refl, is ∙ ap too_large_text same)),
  )

  -- ---- the cost

  -- If the counter is within the bound of the steps, and rises by at most what the search for the views costs, it is within the bound of
  -- `views`.
  pub viewed_most : (old now new : ℕ) → StepsCostAtMost sc old now → new ≤ now + viewing_at_most machine.config.done steps → ViewsCostAtMost sc old new
  viewed_most old now new most cost other is =
      let most_here = most other is in
      let steps_is : steps ≡ bare other = h.are other is in
      let start_is : start_of header ≡ start_behind sc.header = ap start_behind (sym h.running.follows.header) in
      let same : viewing_at_most machine.config.done steps ≡ viewing_at_most (map committed_tx (attempts (start_behind sc.header) (bare other))) (bare other) =
      ap (λ (D : List (CommittedTx Op)). viewing_at_most D steps) committed
      ∙ ap (λ (z : Option (Start Op)). viewing_at_most (map committed_tx (attempts z steps)) steps) start_is
      ∙ ap (λ (w : List (Step Op)). viewing_at_most (map committed_tx (attempts (start_behind sc.header) w)) w) steps_is in
      both_most old now new (steps_at_most (start_behind sc.header) (bare other)) (viewing_at_most (map committed_tx (attempts (start_behind sc.header) (bare other))) (bare other)) (viewing_at_most machine.config.done steps) most_here cost same
    where
      both_most : (old now new a b n : ℕ) → now ≤ old + a → new ≤ now + n → n ≡ b → new ≤ old + (a + b)
      both_most old now new a b n x y z = omega (arith, x, y, z)

-- The bound without views.
pub steps_most : (sc : InputScan) (old new : ℕ) → StepsCostAtMost sc old new → ViewsCostAtMost sc old new
steps_most sc old new most run is =
    more_room old new (steps_at_most (start_behind sc.header) (bare run)) (viewing_at_most (map committed_tx (attempts (start_behind sc.header) (bare run))) (bare run)) (most run is)
  where
    more_room : (old new a b : ℕ) → new ≤ old + a → new ≤ old + (a + b)
    more_room old new a b x = omega (arith, x)

-- The search for the views does not lower the counter.
pub viewed_least : (sc : InputScan) (status : Status) (old now new : ℕ) → (status ≡ statuses.Accepted) ⊎ (status ≡ statuses.TooLarge) → IsDecided status
    → (OfRun sc.header sc.records λ start steps. old + singles steps ≤ now) → now ≤ new → StepsCostAtLeast status sc old new
viewed_least sc status old now new (inl accepted) decided least rises =
    subst (λ (s : Status). StepsCostAtLeast s sc old new) (sym accepted) (λ run is. more old now new (singles (bare run)) (least run is) rises)
  where
    more : (old now new a : ℕ) → old + a ≤ now → now ≤ new → old + a ≤ new
    more old now new a x y = omega (arith, x, y)
viewed_least sc status old now new (inr large) decided least rises = absurd (subst IsDecided large decided)

-- If the attempts do not have too many operations, this is the cost of the search for their views.
pub few_cost : (D : List (CommittedTx Op)) (steps : List (Step Op)) → operations (peaks steps) ≤ MOST_VIEWED
    → viewing_at_most D steps ≡ length (serial_ops D) + 2 * ((length D + 1) * operations (peaks steps))
few_cost D steps few = by (nat_lt MOST_VIEWED (operations (peaks steps))) (not_more (operations (peaks steps)) few)
  where
    not_more : (n : ℕ) → n ≤ 2_000_000 → nat_lt 2_000_000 n ≡ false
    not_more n few = grind (arith, nat_tests)

    by : (b : Bool) → b ≡ false → cond b 0 (length (serial_ops D) + 2 * ((length D + 1) * operations (peaks steps))) ≡ length (serial_ops D) + 2 * ((length D + 1) * operations (peaks steps))
    by true e = absurd (cc)
    by false e = refl

-- ---- the output of an input

-- The text of the fault of an input is its output, with status input fault.
pub fault_views : (bytes : List ℕ) (line : ℕ) (cause : Cause) (text : List ℕ) → IsFaultOf (scan bytes) (Some (line, cause)) → text ≡ fault_text line cause → IsViews bytes statuses.InputFault text
fault_views bytes line cause text faulty is = (statuses.InputFault, text, fault_report bytes line cause text faulty is, (refl, refl))

-- The text of the rejection of a rejected input is its output, with status rejected.
pub rejected_views : (bytes : List ℕ) (tally : Tally) (rejection : Rejection) (text : List ℕ) → IsRejected (scan bytes) tally rejection → IsReportTold (scan bytes) statuses.Rejected text → IsViews bytes statuses.Rejected text
rejected_views bytes tally rejection text r told =
    (statuses.Rejected, text, run_report bytes statuses.Rejected text (rejected_sound (scan bytes) tally rejection r) told, (refl, refl))

-- The status and the text of an accepted run are the output of the input.
pub accepted_views : (bytes : List ℕ) (tally : Tally) (machine : Seen (List Kind) Op) (steps : List (Step Op)) (status : Status) (text : List ℕ) → HasSteps (scan bytes) tally machine steps
    → IsRunTold (scan bytes) status text → IsViews bytes status text
accepted_views bytes tally machine steps status text h told =
    let sc : InputScan = scan bytes in
    let kinds = kinds_of tally.header.catalog in
    let states : List ObjectState = state_after objects kinds (serial_ops machine.config.done) in
    let report : List ℕ = accepted_text tally.header.catalog machine.count machine.config.done states in
    let certified : IsReportTold sc statuses.Accepted report = accepted_told sc tally machine h.running machine.count machine.config.done states report refl refl refl refl in
    (statuses.Accepted, report, run_report bytes statuses.Accepted report (running_sound sc tally machine h.running) certified, told)
