-- One record more, through whose steps a machine is driven.
use Rattle.std.specs.Prelude.{◌≡◌, ◌≤◌, ◌<◌, ◌+◌, ℕ, zero, suc, List, [], ◌∷◌, ◌++◌, length, map}
use Rattle.std.specs.Prelude.{slice_get, take, Some}
use Rattle.std.proofs.Common.{refl, sym, ap, subst, ◌∙◌, arith, append_assoc, length-append}
use Rattle.std.proofs.lemmas.List.{append-nil}
use Rattle.pp_core.specs.Steps.{Step, rule_of}
use Rattle.pp_core.specs.declared.call.Kind.{Kind}
use Rattle.pp_core.specs.declared.call.Style.{Style}
use Rattle.pp_core.specs.declared.status.Status.TheVariants as statuses
use Rattle.pp_model.proofs.Simulate.{finished_are}
use Rattle.pp_model.specs.Config.{Config, after, after_from, but_last, first}
use Rattle.pp_model.specs.Rules.{Breaks, RunsFrom}
use Rattle.pp_model.specs.Serial.{attempts, committed_tx}
use Rattle.pp_records.proofs.Ends.{after_append, bare_append, bare_on_line, failing_first, length_bare, length_on_line, never, runs_append, runs_back}
use Rattle.pp_records.proofs.Whole.{extends_law, joined_more, led_config, led_more, unbegun}
use Rattle.pp_records.specs.Expansions.{expand, front_after}
use Rattle.pp_records.specs.Fronts.{Front}
use Rattle.pp_records.specs.Records.{RunRecord}
use Rattle.pp_records.specs.Runs.{EndsAtFailure, HasOneMore, IsRun, IsRunFrom, Lined, LinedSteps, Records, Standing, after_record, bare, on_line, outset, steps_at}
use Rattle.pp_format_read.specs.declared.header.Header.{Header}
use Rattle.pp_format_read.specs.Records.{IsReadable}
use Rattle.pp_kind.specs.Object.{rules_of}
use Rattle.pp_machine.specs.Evidence.{evidence}
use Rattle.pp_machine.specs.Machines.{Seen}
use Rattle.pp_machine.specs.declared.detail.Detail.{Detail}
use Rattle.pp_objects.specs.Objects.{kinds_of, objects, place_of}
use Rattle.pp_objects.specs.declared.act.Op.{Op}
use Rattle.pp_styles.specs.AnyFronts.{any_state, any_style}
use Rattle.pp_styles.specs.Costs.{most_ticks, singles}
use Rattle.pp_styles.specs.Driving.{CostAtMost, HasDone, after_steps}
use Rattle.pp_styles.specs.SameFronts.{SameFront}
use Rattle.pp_styles.proofs.Driven.{most_append, singles_append}
use Rattle.pp_styles.proofs.SameFronts.{after_same, expand_same, same_as_third}
use Rattle.pp_summary.specs.Failures.{FailsIn, standing_after}
use Rattle.pp_violations.specs.declared.violation.Violation.{Violation}
use Rattle.pp_judge.proofs.Driving.{FailsWithin, Overruns, rejection_of, steps_here}
use Rattle.pp_judge.proofs.RecordCosts.{bare_last, but_last_end, failed_run, more_least, tried_first, whole_run}
use Rattle.pp_judge.specs.Costs.{StepsCostAtLeast, start_at_most}
use Rattle.pp_judge.specs.Objects.{object_of, start_of, translation_of}
use Rattle.pp_judge.specs.Running.{standing_of}
use Rattle.pp_judge.specs.Tallies.{headed, one_more, scan_of}
use Rattle.pp_judge.specs.declared.driven.Rejection.{Rejection}
use Rattle.pp_judge.specs.laws.Driven.{up_more}
use Rattle.pp_cmd_quick.specs.Decisions.{steps_behind}
use Rattle.pp_cmd_judge.proofs.Ending as ending
use Rattle.pp_cmd_judge.proofs.Violating.{rejected_by, rejection_by}
use Rattle.pp_cmd_judge.specs.Driven.{AreDrivenBehind}
use Rattle.pp_cmd_judge.specs.Engines.{Found, led, own}
use Rattle.pp_cmd_judge.specs.Judgements.{PassesStepsOn}
use Rattle.pp_cmd_judge.specs.Rejections.{IsRejectedBehind}
use Rattle.pp_cmd_judge.specs.RulesCosts.{AllCostAtMost, all_at_most}
use Rattle.pp_cmd_judge.specs.RulesLaws.{all_run, most_more}
use Rattle.pp_cmd_judge.specs.StyleJudging.{IsRejectedBy}
use Rattle.pp_cmd_judge.specs.declared.driven.DrivenMachine.{DrivenMachine}
use mathlib.Core.Logic.{inl, inr}

-- ---- numbers

plus_more : (a b d : ℕ) → a + (b + d) ≡ (a + b) + d
plus_more a b d = omega arith

-- Within one bound more, the counter is within the sum of the bounds.
more_most : (old now new k all w : ℕ) → new ≤ now + w → now ≤ old + k → all ≡ k + w → new ≤ old + all
more_most old now new k all w x y z = omega (arith, x, y, z)

below_most : (front all count at k most : ℕ) → front ≡ all + k → count ≡ all → at ≡ count + k → at < most → front < most
below_most front all count at k most x y z w = omega (arith, x, y, z, w)

-- ---- the records so far

module _ (h : Header) (rs : Records (RunRecord Op)) (judge : DrivenMachine) (c : AreDrivenBehind h rs judge) where
  -- all steps that the records mean
  abbrev so_far : LinedSteps Op
  so_far = steps_behind h rs

  -- the machine is where they lead
  config_there : judge.machine.config ≡ after (start_of h) (bare so_far)
  config_there = ap (λ (p : Standing Front Op). p.config) c.place ∙ led_config (object_of h) (translation_of h) (outset (translation_of h) (start_of h)) rs

  -- the committed transactions are those of the steps
  pub committed_are : judge.machine.config.done ≡ map committed_tx (attempts (start_of h) (bare so_far))
  committed_are =
      ap (λ (C : Config Op). C.done) config_there ∙ finished_are (object_of h) (start_of h) (bare so_far) c.hold.0 c.hold.1

  -- ---- one more

  module _ (line : ℕ) (r : RunRecord Op) where
    abbrev it : Lined (RunRecord Op)
    it = record { line = line; what = r }

    abbrev machine : Seen (List Kind) Op
    machine = judge.machine

    -- the steps that the machine is driven through, and those that the record means
    abbrev here : List (Step Op)
    here = steps_here h judge.front judge.machine r

    abbrev there : List (Step Op)
    there = own h rs h.style r

    abbrev at_standing : List (Step Op)
    at_standing = steps_at (translation_of h) (standing_of c.state judge.machine) r

    same_there : here ≡ at_standing
    same_there =
        ap (λ (s : Style). expand place_of s (any_state (kinds_of h.catalog) judge.front) machine.config r) c.style
        ∙ expand_same (any_state (kinds_of h.catalog) judge.front) c.state c.kept machine.config place_of h.style r

    same_steps : here ≡ there
    same_steps = same_there ∙ ap (λ (p : Standing Front Op). expand place_of h.style p.front p.config r) c.place

    config_led : machine.config ≡ (led h rs h.style).config
    config_led = ap (λ (p : Standing Front Op). p.config) c.place

    -- steps hold over the objects of the header if they hold over those of the machine
    hold_there : (before : List (Step Op)) → RunsFrom (rules_of objects machine.shape) machine.config before → RunsFrom (object_of h) machine.config before
    hold_there before hold = subst (λ (k : List Kind). RunsFrom (rules_of objects k) machine.config before) c.shape hold

    hold_led : (before : List (Step Op)) → RunsFrom (rules_of objects machine.shape) machine.config before → RunsFrom (object_of h) (led h rs h.style).config before
    hold_led before hold = subst (λ (C : Config Op). RunsFrom (object_of h) C before) config_led (hold_there before hold)

    -- ---- each of its steps is done

    module _ (next : DrivenMachine) (now new : ℕ) (style : any_style next.front ≡ any_style judge.front)
        (kept : SameFront (any_state (kinds_of h.catalog) next.front) (front_after (any_state (kinds_of h.catalog) judge.front) judge.machine.config r))
        (done : HasDone 4_294_967_295 objects judge.machine here [] next.machine now new) where
      all_done : here ≡ done.before
      all_done = done.parts ∙ append-nil done.before

      machine_is : next.machine ≡ after_steps machine at_standing
      machine_is = done.is ∙ ap (λ (w : List (Step Op)). after_steps machine w) (sym all_done ∙ same_there)

      place_is : standing_of (front_after c.state machine.config r) next.machine ≡ standing_after (translation_of h) (start_of h) (rs ++ it ∷ [])
      place_is =
          ap (λ (v : Seen (List Kind) Op). standing_of (front_after c.state machine.config r) v) machine_is
          ∙ (ap (λ (p : Standing Front Op). after_record (translation_of h) p r) c.place ∙ sym (led_more (object_of h) (translation_of h) (outset (translation_of h) (start_of h)) rs (it ∷ [])))

      bare_next : bare (steps_behind h (rs ++ it ∷ [])) ≡ bare so_far ++ done.before
      bare_next =
          ap (λ (w : LinedSteps Op). bare w) (joined_more (object_of h) (translation_of h) (outset (translation_of h) (start_of h)) rs (it ∷ []))
          ∙ bare_append so_far (on_line line there ++ [])
          ∙ ap (λ (w : List (Step Op)). bare so_far ++ w) (ap (λ (w : LinedSteps Op). bare w) (append-nil (on_line line there)) ∙ bare_on_line line there ∙ (sym same_steps ∙ all_done))

      -- the records with one more are good
      pub goes_on : AreDrivenBehind h (one_more rs line r) next
      goes_on = record {
        driven = c.driven;
        shape = ap (λ (v : Seen (List Kind) Op). v.shape) done.is ∙ c.shape;
        hold = (
          c.hold.0,
          subst (λ (w : List (Step Op)). RunsFrom (object_of h) (first (start_of h)) w) (sym bare_next)
              (runs_append (object_of h) (first (start_of h)) (bare so_far) done.before c.hold.1
              (subst (λ (C : Config Op). RunsFrom (object_of h) C done.before) config_there (hold_there done.before done.hold))),
        );
        state = front_after c.state machine.config r;
        place = place_is;
        count = ap (λ (v : Seen (List Kind) Op). v.count) done.is ∙ ap (λ (n : ℕ). n + length done.before) c.count
            ∙ ap (λ (w : List (Step Op)). length so_far + length w) (sym all_done ∙ same_steps) ∙ sym (ending.count_next (object_of h) (translation_of h) (start_of h) rs it);
        few = done.few;
        style = style ∙ c.style;
        kept = same_as_third _ _ _ kept (after_same (any_state (kinds_of h.catalog) judge.front) c.state c.kept machine.config r);
      }

    -- ---- some of its steps are done

    module _ (before behind : List (Step Op)) (step : Step Op) (parts : here ≡ before ++ step ∷ behind) where
      parts_there : there ≡ before ++ step ∷ behind
      parts_there = sym same_steps ∙ parts

      at_there : slice_get there (length before) ≡ Some step
      at_there = subst (λ (w : List (Step Op)). slice_get w (length before) ≡ Some step) (sym parts_there) (ending.seam_there before step behind)

      front_there : take (length before) there ≡ before
      front_there = ap (λ (w : List (Step Op)). take (length before) w) parts_there ∙ ending.seam_before before step behind

      -- the record passes the limit on steps
      pub passes : (at : ℕ) → RunsFrom (rules_of objects machine.shape) machine.config before → machine.count + length before ≡ 4_294_967_295 → PassesStepsOn (Some (headed at h)) (one_more rs line r) line
      passes at hold full =
          let O = object_of h in
          let front : LinedSteps Op = ending.before_it O (translation_of h) (start_of h) rs it (length before) in
          let bare_front : bare front ≡ bare so_far ++ before =
          bare_append so_far (on_line line (take (length before) there)) ∙ ap (λ (w : List (Step Op)). bare so_far ++ w) (bare_on_line line (take (length before) there) ∙ front_there) in
          let runs : RunsFrom O (first (start_of h)) (bare front) =
          subst (λ (w : List (Step Op)). RunsFrom O (first (start_of h)) w) (sym bare_front)
          (runs_append O (first (start_of h)) (bare so_far) before c.hold.1 (subst (λ (C : Config Op). RunsFrom O C before) config_there (hold_there before hold))) in
          let size : length front ≡ length so_far + length before =
          length-append so_far (on_line line (take (length before) there)) ∙ ap (λ (n : ℕ). length so_far + n) (length_on_line line (take (length before) there) ∙ ap (λ (w : List (Step Op)). length w) front_there) in (
            c.driven,
            c.hold.0,
            record {
              before = front;
              next = record { line = line; what = step };
              behind = ending.after_it O (translation_of h) (start_of h) rs it (length before) [];
              parts = ending.parted O (translation_of h) (start_of h) rs it (length before) step at_there [];
              count = size ∙ (ap (λ (n : ℕ). n + length before) (sym c.count) ∙ full);
              hold = runs;
              place = refl;
            },
          )

      -- ---- and the next one violates a criterion

      module _ (n : ℕ) (hold : RunsFrom (rules_of objects machine.shape) machine.config before) (few : machine.count + length before < 4_294_967_295)
          (breaks : Breaks (rules_of objects machine.shape) (after_from machine.config before) step (suc n)) where
        config_before : after_from machine.config before ≡ after_from (led h rs h.style).config (take (length before) there)
        config_before = ap (λ (C : Config Op). after_from C before) config_led ∙ ap (λ (w : List (Step Op)). after_from (led h rs h.style).config w) (sym front_there)

        hold_before : RunsFrom (object_of h) (led h rs h.style).config (take (length before) there)
        hold_before = subst (λ (w : List (Step Op)). RunsFrom (object_of h) (led h rs h.style).config w) (sym front_there) (hold_led before hold)

        breaks_there : Breaks (object_of h) (after_from (led h rs h.style).config (take (length before) there)) step (suc n)
        breaks_there =
            subst (λ (C : Config Op). Breaks (object_of h) C step (suc n)) config_before
            (subst (λ (k : List Kind). Breaks (rules_of objects k) (after_from machine.config before) step (suc n)) c.shape breaks)

        abbrev violation : Violation Op
        violation = record {
          offset = length before;
          rule = rule_of step;
          criterion = suc n;
          detail = evidence objects (kinds_of h.catalog) (after_from (led h rs h.style).config (take (length before) there)) step (suc n);
        }

        found : Found h rs r violation (kinds_of h.catalog) h.style
        found = (step, n, record { there = at_there; before = hold_before; breaks = breaks_there }, refl, refl, refl)

        abbrev detailed : Detail Op → Rejection
        detailed detail = record { step = machine.count + length before + 1; line = line; rule = rule_of step; criterion = suc n; detail = detail }

        rejection_is : rejection_of (after_steps machine before) step line (suc n) ≡ rejection_by machine.count line violation
        rejection_is =
            ap (λ (k : List Kind). detailed (evidence objects k (after_from machine.config before) step (suc n))) c.shape
            ∙ ap (λ (C : Config Op). detailed (evidence objects (kinds_of h.catalog) C step (suc n))) config_before

        fails_in : FailsIn (object_of h) (translation_of h) (start_of h) (one_more rs line r) it
        fails_in = record {
          begun = c.hold.0;
          before = rs;
          behind = [];
          parts = refl;
          hold = c.hold.1;
          fails = λ runs.
              let O = object_of h in
              let C = (led h rs h.style).config in
              let all = subst (λ (w : List (Step Op)). RunsFrom O C w) parts_there runs in
              let own_breaks = subst (λ (w : List (Step Op)). Breaks O (after_from C w) step (suc n)) front_there breaks_there in
              never O (after_from C before) step n (runs_back O C before (step ∷ behind) all).0 own_breaks;
        }

        few_more : (at : ℕ) (more : Records (RunRecord Op)) (on : ℕ) → PassesStepsOn (Some (headed at h)) (one_more rs line r ++ more) on → ⊥
        few_more at more on over =
            let O = object_of h in
            let T = translation_of h in
            let s = start_of h in
            let k = length before in
            let wide : HasOneMore O 4_294_967_295 (first s) (steps_behind h (rs ++ it ∷ more)) on =
            subst (λ (w : Records (RunRecord Op)). HasOneMore O 4_294_967_295 (first s) (steps_behind h w) on) (append_assoc rs (it ∷ []) more) over.2 in
            let parted : HasOneMore O 4_294_967_295 (first s) (ending.before_it O T s rs it k ++ record { line = line; what = step } ∷ ending.after_it O T s rs it k more) on =
            subst (λ (w : LinedSteps Op). HasOneMore O 4_294_967_295 (first s) w on) (ending.parted O T s rs it k step at_there more) wide in
            let size = ending.front_count O T s rs it k step n at_there hold_before breaks_there c.hold.0 c.hold.1 in
            failing_first O 4_294_967_295 (first s) (ending.before_it O T s rs it k) (ending.after_it O T s rs it k more) (record { line = line; what = step }) n on
            (below_most _ (length so_far) machine.count (machine.count + k) k 4_294_967_295 size c.count refl few)
            (ending.breaks_there O T s rs it k step n at_there hold_before breaks_there c.hold.0 c.hold.1) parted

        -- the run ends with its rejection
        rejected_here : (at : ℕ) → IsReadable h.catalog r → IsRejectedBy (headed at h) (one_more rs line r) (rejection_of (after_steps machine before) step line (suc n))
        rejected_here at readable = record {
          fails = inr (it, fails_in, refl);
          rejected = subst (λ (x : Rejection). IsRejectedBehind (headed at h) (one_more rs line r) x) (sym rejection_is) (rejected_by h rs r violation machine.count c.count c.hold found at line readable);
          few = few_more at;
        }

    -- if a step of the record is the first to violate a criterion, the run is rejected by it
    pub rejected_there : (at now new : ℕ) (rejection : Rejection) → IsReadable h.catalog r → FailsWithin 4_294_967_295 machine here line now new rejection → IsRejectedBy (headed at h) (one_more rs line r) rejection
    rejected_there at now new rejection readable e = go e.at e.criterion e.done.is e.few e.some e.breaks e.is
      where
        shown : (v : Seen (List Kind) Op) (n : ℕ) → v ≡ after_steps machine e.done.before → v.count < 4_294_967_295 → Breaks (rules_of objects v.shape) v.config e.step (suc n)
            → IsRejectedBy (headed at h) (one_more rs line r) (rejection_of v e.step line (suc n))
        shown v n is =
            subst (λ (w : Seen (List Kind) Op). w.count < 4_294_967_295 → Breaks (rules_of objects w.shape) w.config e.step (suc n) → IsRejectedBy (headed at h) (one_more rs line r) (rejection_of w e.step line (suc n)))
            (sym is)
            (λ few breaks. rejected_here e.done.before e.behind e.step e.done.parts n e.done.hold few breaks at readable)

        go : (v : Seen (List Kind) Op) (n : ℕ) → v ≡ after_steps machine e.done.before → v.count < 4_294_967_295 → 0 < n → Breaks (rules_of objects v.shape) v.config e.step n → rejection ≡ rejection_of v e.step line n
            → IsRejectedBy (headed at h) (one_more rs line r) rejection
        go v zero is few some breaks told = absurd (omega (arith, some))
        go v (suc n) is few some breaks told = subst (λ (x : Rejection). IsRejectedBy (headed at h) (one_more rs line r) x) (sym told) (shown v n is few breaks)

    -- if the steps of the record are too many, it passes the limit
    pub passes_there : (at now new : ℕ) → Overruns 4_294_967_295 machine here now new → PassesStepsOn (Some (headed at h)) (one_more rs line r) line
    passes_there at now new e =
        let full : machine.count + length e.done.before ≡ 4_294_967_295 = subst (λ (v : Seen (List Kind) Op). v.count ≡ 4_294_967_295) e.done.is e.full in
        passes e.done.before e.behind e.step e.done.parts at e.done.hold full

    -- ---- what it costs

    -- the run with this record is the run so far, and that of the steps of the record
    record_run : (run : LinedSteps Op) → IsRun (object_of h) (translation_of h) (start_of h) (rs ++ it ∷ []) run
        → (rest : LinedSteps Op) × EndsAtFailure (object_of h) machine.config (on_line line here ++ []) rest × (run ≡ so_far ++ rest)
    record_run run (inl e) = absurd (unbegun (object_of h) (start_of h) e.0 c.hold.0 e.1)
    record_run run (inr e) =
        let O = object_of h in
        let T = translation_of h in
        let k = ((extends_law O T).run (outset T (start_of h)) rs (it ∷ []) run c.hold.1).0 e.1 in
        let own_run = subst (λ (p : Standing Front Op). IsRunFrom O T p (it ∷ []) k.0) (sym c.place) k.1 in (
          k.0,
          subst (λ (w : List (Step Op)). EndsAtFailure O machine.config (on_line line w ++ []) k.0) (sym same_there) own_run,
          k.2,
        )

    -- Within the bounds of the steps so far and of those that were tried, the counter is within the bound of both.
    pub most_record : (at old now new : ℕ) → AllCostAtMost (scan_of (headed at h) rs) old now → CostAtMost 4_294_967_295 objects place_of machine here now new → AllCostAtMost (scan_of (headed at h) (one_more rs line r)) old new
    most_record at old now new most b = λ run is.
        let s = start_of h in
        let O = object_of h in
        let z : Config Op = first s in
        let xs : List (Step Op) = bare so_far in
        let ys : List (Step Op) = xs ++ b.tried in
        let k = record_run run is in
        let t = tried_first O line machine.config b.before b.tried b.behind k.0 (hold_there b.before b.hold) b.last
        (subst (λ (w : List (Step Op)). EndsAtFailure O machine.config (on_line line w ++ []) k.0) b.parts k.1) in
        let whole : bare run ≡ ys ++ t.0 = ap (λ (w : LinedSteps Op). bare w) k.2 ∙ bare_append so_far k.0 ∙ ap (λ (w : List (Step Op)). xs ++ w) t.1 ∙ sym (append_assoc xs b.tried t.0) in
        let so_most : now ≤ old + all_at_most s xs = most so_far (all_run h rs c.hold) in
        let parts : most_ticks place_of z ys ≡ most_ticks place_of z xs + most_ticks place_of machine.config b.tried =
        most_append place_of z xs b.tried ∙ ap (λ (w : Config Op). most_ticks place_of z xs + most_ticks place_of w b.tried) (sym config_there) in
        let sum : all_at_most s ys ≡ all_at_most s xs + most_ticks place_of machine.config b.tried =
        ap (λ (w : ℕ). start_at_most s + w) parts ∙ plus_more (start_at_most s) (most_ticks place_of z xs) (most_ticks place_of machine.config b.tried) in
        let bound : new ≤ old + all_at_most s ys = more_most old now new (all_at_most s xs) (all_at_most s ys) (most_ticks place_of machine.config b.tried) b.most so_most sum in
        let wide : all_at_most s ys ≤ all_at_most s (ys ++ t.0) = wider (start_at_most s) (most_ticks place_of z ys) (most_ticks place_of z (ys ++ t.0)) (most_more z ys t.0) in
        subst (λ (w : List (Step Op)). new ≤ old + all_at_most s w) (sym whole) (up_more old new (all_at_most s ys) (all_at_most s (ys ++ t.0)) bound wide)
      where
        wider : (a b d : ℕ) → b ≤ d → a + b ≤ a + d
        wider a b d x = omega (arith, x)

    -- the run with this record, if each of its steps is done
    done_run : (now new : ℕ) (v : Seen (List Kind) Op) (done : HasDone 4_294_967_295 objects machine here [] v now new) (run : LinedSteps Op)
        → IsRun (object_of h) (translation_of h) (start_of h) (rs ++ it ∷ []) run → run ≡ so_far ++ on_line line done.before
    done_run now new v done run is =
        let k = record_run run is in
        let rest_is : k.0 ≡ on_line line done.before = whole_run (object_of h) line machine.config here done.before k.0 (hold_there done.before done.hold) done.parts k.1 in
        k.2 ∙ ap (λ (w : LinedSteps Op). so_far ++ w) rest_is

    -- and if one violates a criterion
    run_to_failed : (now new : ℕ) (rejection : Rejection) (e : FailsWithin 4_294_967_295 machine here line now new rejection) (run : LinedSteps Op)
        → IsRun (object_of h) (translation_of h) (start_of h) (rs ++ it ∷ []) run → run ≡ so_far ++ on_line line (e.done.before ++ e.step ∷ [])
    run_to_failed now new rejection e run is = go e.at e.criterion e.done.is e.some e.breaks
      where
        go : (v : Seen (List Kind) Op) (n : ℕ) → v ≡ after_steps machine e.done.before → 0 < n → Breaks (rules_of objects v.shape) v.config e.step n → run ≡ so_far ++ on_line line (e.done.before ++ e.step ∷ [])
        go v zero at some breaks = absurd (omega (arith, some))
        go v (suc n) at some breaks =
            let before : List (Step Op) = e.done.before in
            let k = record_run run is in
            let broken = subst (λ (w : List Kind). Breaks (rules_of objects w) (after_from machine.config before) e.step (suc n)) c.shape
            (subst (λ (w : Seen (List Kind) Op). Breaks (rules_of objects w.shape) w.config e.step (suc n)) at breaks) in
            let rest_is : k.0 ≡ on_line line (before ++ e.step ∷ []) = failed_run (object_of h) line machine.config here before e.behind e.step n k.0 (hold_there before e.done.hold) e.done.parts broken k.1 in
            k.2 ∙ ap (λ (w : LinedSteps Op). so_far ++ w) rest_is

    -- the steps that were done, after those so far
    least_more : (old now new : ℕ) (before : List (Step Op)) → old + singles (bare so_far) ≤ now → now + singles before ≤ new → old + singles (bare so_far ++ before) ≤ new
    least_more old now new before so_least cost =
        let xs : List (Step Op) = bare so_far in
        more_least old now new (singles xs) (singles before) (singles (xs ++ before)) so_least cost (singles_append xs before)

    -- the counter rises by one for each step that was done
    module _ (at old now new : ℕ) (least : StepsCostAtLeast statuses.Accepted (scan_of (headed at h) rs) old now) where
      here_least : old + singles (bare so_far) ≤ now
      here_least = least so_far (all_run h rs c.hold)

      -- If all steps of the record are done, the lower bound of the steps before it becomes one of the steps with it.
      pub least_done : (v : Seen (List Kind) Op) → HasDone 4_294_967_295 objects machine here [] v now new → StepsCostAtLeast statuses.Accepted (scan_of (headed at h) (one_more rs line r)) old new
      least_done v done run is =
          subst (λ (w : List (Step Op)). old + singles w ≤ new) (sym (bare_last line so_far done.before run (done_run now new v done run is))) (least_more old now new done.before here_least done.least)

      -- If a step of the record fails, the lower bound of the steps before it becomes one of the rejected run.
      pub least_failed : (rejection : Rejection) → FailsWithin 4_294_967_295 machine here line now new rejection → StepsCostAtLeast statuses.Rejected (scan_of (headed at h) (one_more rs line r)) old new
      least_failed rejection e run is =
          let done : List (Step Op) = bare so_far ++ e.done.before in
          let whole : bare run ≡ done ++ e.step ∷ [] =
          bare_last line so_far (e.done.before ++ e.step ∷ []) run (run_to_failed now new rejection e run is) ∙ sym (append_assoc (bare so_far) e.done.before (e.step ∷ [])) in
          let front_is : but_last (bare run) ≡ done = ap (λ (w : List (Step Op)). but_last w) whole ∙ but_last_end done e.step in
          subst (λ (w : List (Step Op)). old + singles w ≤ new) (sym front_is) (least_more old now new e.done.before here_least e.done.least)
