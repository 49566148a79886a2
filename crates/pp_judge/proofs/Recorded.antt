-- One record more, whose steps a machine is driven through.
use Rattle.std.specs.Prelude.{◌≡◌, ◌≤◌, ◌<◌, ℕ, zero, suc, ◌+◌, List, [], ◌∷◌, ◌++◌, length}
use Rattle.std.specs.Prelude.{slice_get, take, Some}
use Rattle.std.proofs.Common.{refl, sym, ap, ◌∙◌, subst, arith, length-append, append_assoc}
use Rattle.std.proofs.lemmas.List.{append-nil, map-append}
use Rattle.std.proofs.lemmas.Option.{slice_get-get_or}
use Rattle.std.proofs.Math.Seq.{get_or-append_seam, take-append_seam}
use mathlib.Core.Logic.{inl}
use Rattle.pp_core.specs.Steps.{Step, rule_of}
use Rattle.pp_core.specs.declared.call.Kind.{Kind}
use Rattle.pp_core.specs.declared.limits.TheConstants.{MOST_STEPS}
use Rattle.pp_core.specs.declared.call.Style.{Style}
use Rattle.pp_records.specs.Expansions.{expand, front_after}
use Rattle.pp_records.specs.Inputs.{OverrunsAt}
use Rattle.pp_records.specs.Laws.{IsRejectedAt}
use Rattle.pp_records.specs.Records.{RunRecord}
use Rattle.pp_records.specs.Runs.{Lined, LinedSteps, Records, bare, joined_steps, on_line, outset}
use Rattle.pp_records.specs.Runs.{steps_at}
use Rattle.pp_records.proofs.Ends.{after_append, bare_append, bare_on_line, length_on_line}
use Rattle.pp_records.proofs.Reading.{reading_law}
use Rattle.pp_objects.specs.declared.act.Op.{Op}
use Rattle.pp_objects.specs.Objects.{kinds_of, objects, place_of}
use Rattle.pp_format_read.specs.declared.header.Header.{Header}
use Rattle.pp_model.specs.Config.{Config, after, after_from, first}
use Rattle.pp_model.specs.Rules.{Breaks, RunsFrom}
use Rattle.pp_machine.specs.Evidence.{Fits, evidence}
use Rattle.pp_machine.specs.Machines.{Seen}
use Rattle.pp_machine.specs.declared.detail.Detail.{Detail}
use Rattle.pp_kind.specs.Object.{rules_of}
use Rattle.pp_styles.specs.AnyFronts.{any_state, any_style}
use Rattle.pp_styles.specs.Driving.{HasDone, after_steps}
use Rattle.pp_styles.specs.SameFronts.{SameFront}
use Rattle.pp_styles.specs.declared.any_front.AnyFront.{AnyFront}
use Rattle.pp_styles.proofs.SameFronts.{after_same, expand_same, same_as_third}
use Rattle.pp_input_reader.specs.declared.cause.Cause.TheVariants.{TooManySteps}
use Rattle.pp_judge.specs.Inputs.{IsFaultOf}
use Rattle.pp_judge.specs.Objects.{object_of, setting_of, start_of, translation_of}
use Rattle.pp_judge.specs.Running.{EndsAt, GoesOn, standing_of}
use Rattle.pp_judge.specs.Tallies.{headed, one_more, scan_of}
use Rattle.pp_judge.specs.Rejected.{IsStepEvident}
use Rattle.pp_judge.specs.declared.driven.Rejection.{Rejection}
use Rattle.pp_judge.proofs.Driving.{FailsWithin, Overruns, rejection_of, steps_here}
use Rattle.pp_judge.proofs.Running.{config_there}
use Rattle.pp_judge.proofs.Tallying.{on_record}

get_last : {A : Type 0} (xs : List A) (x : A) (n : ℕ) → n ≡ length xs → slice_get (xs ++ x ∷ []) n ≡ Some x
get_last {A} xs x n is =
    let within : length xs < length (xs ++ x ∷ []) = omega (arith, length-append xs (x ∷ [])) in
    ap (λ (k : ℕ). slice_get (xs ++ x ∷ []) k) is ∙ slice_get-get_or (xs ++ x ∷ []) (length xs) x within ∙ ap (λ y. Some y) (get_or-append_seam xs x [] x)

-- Putting an appended list on a line appends what is put on the line.
pub on_line_append : {A : Type 0} (line : ℕ) (xs ys : List A) → on_line line (xs ++ ys) ≡ on_line line xs ++ on_line line ys
on_line_append {A} line xs ys = map-append (λ (s : A). let z : Lined A = record { line = line; what = s } in z) xs ys

-- The bare elements of a list, and then elements on one line, are those of the list, and then those.
pub bare_append_on_line : {A : Type 0} (line : ℕ) (xs : List (Lined A)) (ys : List A) → bare (xs ++ on_line line ys) ≡ bare xs ++ ys
bare_append_on_line {A} line xs ys = bare_append xs (on_line line ys) ∙ ap (λ (w : List A). bare xs ++ w) (bare_on_line line ys)

module _ (h : Header) (rs : Records (RunRecord Op)) (front : AnyFront) (machine : Seen (List Kind) Op) (c : GoesOn h rs front machine) (r : RunRecord Op) where
  -- the steps of the record are those of its translation
  abbrev pub steps_there : List (Step Op)
  steps_there = steps_at (translation_of h) (standing_of c.state machine) r

  -- The steps that the machine takes for a record are those that the record means.
  pub same_steps : steps_here h front machine r ≡ steps_there
  same_steps =
      ap (λ (s : Style). expand place_of s (any_state (kinds_of h.catalog) front) machine.config r) c.style
      ∙ expand_same (any_state (kinds_of h.catalog) front) c.state c.kept machine.config place_of h.style r

  -- they hold over the objects of the header if they hold over those of the machine
  pub hold_there : (before : List (Step Op)) → RunsFrom (rules_of objects machine.shape) machine.config before → RunsFrom (object_of h) machine.config before
  hold_there before hold = subst (λ (k : List Kind). RunsFrom (rules_of objects k) machine.config before) c.shape hold

  -- the same of a step that fails behind some of them
  pub breaks_there : (before : List (Step Op)) (v : Seen (List Kind) Op) (step : Step Op) (n : ℕ) → v ≡ after_steps machine before → Breaks (rules_of objects v.shape) v.config step n
      → Breaks (object_of h) (after_from machine.config before) step n
  breaks_there before v step n is breaks =
      subst (λ (k : List Kind). Breaks (rules_of objects k) (after_from machine.config before) step n) c.shape
      (subst (λ (w : Seen (List Kind) Op). Breaks (rules_of objects w.shape) w.config step n) is breaks)

  -- ---- each of them is done

  -- If the steps of one more record are all done, the run goes on with the new machine and front.
  pub goes_on : (line : ℕ) (next : AnyFront) (new : Seen (List Kind) Op) (from to : ℕ) → any_style next ≡ any_style front → SameFront (any_state (kinds_of h.catalog) next) (front_after (any_state (kinds_of h.catalog) front) machine.config r)
      → HasDone MOST_STEPS objects machine (steps_here h front machine r) [] new from to → GoesOn h (one_more rs line r) next new
  goes_on line next new from to style kept done =
      let all : done.before ≡ steps_there = sym (sym same_steps ∙ done.parts ∙ append-nil done.before) in
      let is : new ≡ after_steps machine steps_there = done.is ∙ ap (λ (w : List (Step Op)). after_steps machine w) all in
      let hold = subst (λ (w : List (Step Op)). RunsFrom (object_of h) machine.config w) all (hold_there done.before done.hold) in
      let few : machine.count + length steps_there ≤ 200_000 = subst (λ (v : Seen (List Kind) Op). v.count ≤ 200_000) is done.few in
      let there : GoesOn h (one_more rs line r) next (after_steps machine steps_there) = record {
        shape = c.shape;
        state = front_after c.state machine.config r;
        stands = (reading_law (object_of h) (translation_of h)).more (start_of h) rs (standing_of c.state machine) machine.count (on_record line r) c.stands hold few;
        style = style ∙ c.style;
        kept = same_as_third _ _ _ kept (after_same (any_state (kinds_of h.catalog) front) c.state c.kept machine.config r);
      } in
      subst (λ (v : Seen (List Kind) Op). GoesOn h (one_more rs line r) next v) (sym is) there

  -- ---- one of them is not

  module _ (line : ℕ) (before behind : List (Step Op)) (step : Step Op) (parts : steps_here h front machine r ≡ before ++ step ∷ behind) (hold : RunsFrom (rules_of objects machine.shape) machine.config before) where
    -- the machine before it
    abbrev here : Seen (List Kind) Op
    here = after_steps machine before

    abbrev run_before : LinedSteps Op
    run_before = joined_steps (translation_of h) (outset (translation_of h) (start_of h)) rs ++ on_line line before

    abbrev one : Lined (Step Op)
    one = record { line = line; what = step }

    abbrev run_to : LinedSteps Op
    run_to = run_before ++ one ∷ []

    parts_there : steps_there ≡ before ++ step ∷ behind
    parts_there = sym same_steps ∙ parts

    number_is : here.count ≡ length run_before
    number_is =
        let ss : LinedSteps Op = joined_steps (translation_of h) (outset (translation_of h) (start_of h)) rs in
        ap (λ (k : ℕ). k + length before) c.stands.number ∙ sym (length-append ss (on_line line before) ∙ ap (λ (k : ℕ). length ss + k) (length_on_line line before))

    config_before : here.config ≡ after (start_of h) (bare run_before)
    config_before =
        let ss : LinedSteps Op = joined_steps (translation_of h) (outset (translation_of h) (start_of h)) rs in
        let z : Config Op = first (start_of h) in
        let both : bare run_before ≡ bare ss ++ before = bare_append ss (on_line line before) ∙ ap (λ (w : List (Step Op)). bare ss ++ w) (bare_on_line line before) in
        ap (λ (w : Config Op). after_from w before) (config_there h rs front machine c) ∙ sym (after_append z (bare ss) before) ∙ ap (λ (w : List (Step Op)). after_from z w) (sym both)

    config_at : here.config ≡ after (start_of h) (bare (take here.count run_to))
    config_at =
        config_before
        ∙ ap (λ (w : LinedSteps Op). after (start_of h) (bare w)) (sym (take-append_seam run_before (one ∷ [])))
        ∙ ap (λ (k : ℕ). after (start_of h) (bare (take k run_to))) (sym number_is)

    run_is : joined_steps (translation_of h) (outset (translation_of h) (start_of h)) rs ++ on_line line (before ++ step ∷ []) ≡ run_to
    run_is =
        let ss : LinedSteps Op = joined_steps (translation_of h) (outset (translation_of h) (start_of h)) rs in
        ap (λ (w : LinedSteps Op). ss ++ w) (on_line_append line before (step ∷ [])) ∙ sym (append_assoc ss (on_line line before) (one ∷ []))

    -- it is the first that fails
    fails_here : (at n : ℕ) → here.count < 200_000 → Breaks (rules_of objects here.shape) here.config step (suc n) → Fits objects here.shape (evidence objects here.shape here.config step (suc n)) → IsStepEvident here.shape here.config step (suc n)
        → EndsAt h at (one_more rs line r) (rejection_of here step line (suc n))
    fails_here at n few breaks fits evident =
        let kinds : List Kind = kinds_of h.catalog in
        let number : here.count + 1 ≡ suc here.count = omega arith in
        let told : evidence objects machine.shape here.config step (suc n) ≡ evidence objects kinds (after (start_of h) (bare (take here.count run_to))) step (suc n) =
        ap (λ (k : List Kind). evidence objects k here.config step (suc n)) c.shape ∙ ap (λ (w : Config Op). evidence objects kinds w step (suc n)) config_at in
        record {
          run = run_to;
          number = suc here.count;
          criterion = n;
          is = (
            step,
            get_last run_before one here.count number_is,
            ap (λ (k : ℕ). let w : Rejection = record { step = k; line = line; rule = rule_of step; criterion = suc n; detail = evidence objects machine.shape here.config step (suc n) } in w) number
                ∙ ap (λ (d : Detail Op). let w : Rejection = record { step = suc here.count; line = line; rule = rule_of step; criterion = suc n; detail = d } in w) told,
            subst (λ (w : Config Op). IsStepEvident kinds w step (suc n)) config_at
                (subst (λ (k : List Kind). IsStepEvident k here.config step (suc n)) c.shape evident),
          );
          named = subst (λ (k : List Kind). Fits objects k (evidence objects machine.shape here.config step (suc n))) c.shape fits;
          stays = λ more.
              let law = (reading_law (object_of h) (translation_of h)).fails (start_of h) rs more (standing_of c.state machine) machine.count (on_record line r) before behind step n c.stands parts_there (hold_there before hold) few
              (breaks_there before here step (suc n) refl breaks) in
              subst (λ (w : Records (RunRecord Op)). IsRejectedAt (object_of h) (translation_of h) (start_of h) w run_to (suc here.count) n) (sym (append_assoc rs (on_record line r ∷ []) more))
              (subst (λ (k : ℕ). IsRejectedAt (object_of h) (translation_of h) (start_of h) (rs ++ on_record line r ∷ more) run_to k n) number
              (subst (λ (w : LinedSteps Op). IsRejectedAt (object_of h) (translation_of h) (start_of h) (rs ++ on_record line r ∷ more) w (here.count + 1) n) run_is law));
        }

    -- there is none that a run may have
    too_many_here : (at : ℕ) → here.count ≡ 200_000 → OverrunsAt setting_of (Some (headed at h)) (one_more rs line r) line
    too_many_here at full =
        (reading_law (object_of h) (translation_of h)).too_many (start_of h) rs [] (standing_of c.state machine) machine.count (on_record line r) before behind step c.stands parts_there (hold_there before hold) full

  -- If a step of one more record fails, the run ends with its rejection.
  pub ends_there : (at line from to : ℕ) (rejection : Rejection) → FailsWithin MOST_STEPS machine (steps_here h front machine r) line from to rejection → EndsAt h at (one_more rs line r) rejection
  ends_there at line from to rejection e = go e.at e.criterion e.done.is e.few e.some e.breaks e.is e.fits e.evident
    where
      shown : (v : Seen (List Kind) Op) (n : ℕ) → v ≡ after_steps machine e.done.before → v.count < 200_000 → Breaks (rules_of objects v.shape) v.config e.step (suc n) → Fits objects v.shape (evidence objects v.shape v.config e.step (suc n)) → IsStepEvident v.shape v.config e.step (suc n)
          → EndsAt h at (one_more rs line r) (rejection_of v e.step line (suc n))
      shown v n is =
          subst (λ (w : Seen (List Kind) Op). w.count < 200_000 → Breaks (rules_of objects w.shape) w.config e.step (suc n) → Fits objects w.shape (evidence objects w.shape w.config e.step (suc n)) → IsStepEvident w.shape w.config e.step (suc n)
          → EndsAt h at (one_more rs line r) (rejection_of w e.step line (suc n)))
          (sym is)
          (fails_here line e.done.before e.behind e.step e.done.parts e.done.hold at n)

      go : (v : Seen (List Kind) Op) (n : ℕ) → v ≡ after_steps machine e.done.before → v.count < 200_000 → 0 < n → Breaks (rules_of objects v.shape) v.config e.step n → rejection ≡ rejection_of v e.step line n
          → Fits objects v.shape (evidence objects v.shape v.config e.step n) → IsStepEvident v.shape v.config e.step n → EndsAt h at (one_more rs line r) rejection
      go v zero is few some breaks told fits evident = absurd (omega arith)
      go v (suc n) is few some breaks told fits evident =
          subst (λ (w : Rejection). EndsAt h at (one_more rs line r) w) (sym told) (shown v n is few breaks fits evident)

  -- If the steps of one more record are too many, the input has that fault on the record's line.
  pub overruns_there : (at line from to : ℕ) → Overruns MOST_STEPS machine (steps_here h front machine r) from to → IsFaultOf (scan_of (headed at h) (one_more rs line r)) (Some (line, TooManySteps))
  overruns_there at line from to e =
      let full : machine.count + length e.done.before ≡ 200_000 = subst (λ (v : Seen (List Kind) Op). v.count ≡ 200_000) e.done.is e.full in
      inl (line, too_many_here line e.done.before e.behind e.step e.done.parts e.done.hold at full, refl)
