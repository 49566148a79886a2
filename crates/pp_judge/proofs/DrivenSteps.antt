-- What the machine as a judge says of a start, and of a record more.
use Rattle.std.specs.Prelude.{◌≡◌, ◌≤◌, ◌+◌, ℕ, zero, suc, List, [], ◌∷◌}
use Rattle.std.specs.Prelude.{◌++◌, length, take, Option, None, Some, Result, Ok, Err}
use Rattle.std.proofs.Common.{refl, sym, ap, ◌∙◌, subst, arith}
use Rattle.std.proofs.lemmas.List.{append-nil, take_all}
use Rattle.pp_core.specs.Steps.{Step, meaning}
use Rattle.pp_core.specs.declared.call.Kind.{Kind}
use Rattle.pp_core.specs.declared.limits.TheConstants.{MOST_STEPS}
use Rattle.pp_core.specs.declared.status.Status.TheVariants as statuses
use Rattle.pp_core.specs.declared.step.Rule.{Rule}
use Rattle.pp_core.specs.declared.step.Rule.TheVariants as rules
use Rattle.pp_core.specs.declared.step.Step.{Step as StepOf}
use Rattle.pp_records.specs.Expansions.{front_after}
use Rattle.pp_records.specs.Fronts.{new_front}
use Rattle.pp_records.specs.Records.{RunRecord}
use Rattle.pp_records.specs.Runs.{LinedSteps, bare, on_line}
use Rattle.pp_records.proofs.Reading.{reading_law}
use Rattle.pp_format_read.specs.declared.header.Header.{Header}
use Rattle.pp_model.specs.Config.{but_last, first}
use Rattle.pp_model.specs.Lists.{Each}
use Rattle.pp_model.specs.Sound.{Sound}
use Rattle.pp_objects.specs.Objects.{kinds_of, objects, place_of}
use Rattle.pp_objects.specs.declared.act.Op.{Op}
use Rattle.pp_machine.specs.Machines.{Seen}
use Rattle.pp_machine.specs.declared.detail.Detail.{Detail}
use Rattle.pp_machine.specs.declared.machine.Outcome.TheVariants.{Done, False}
use Rattle.pp_kind.specs.Object.{rules_of}
use Rattle.pp_styles.specs.AnyFronts.{any_state, any_style}
use Rattle.pp_styles.specs.Costs.{singles}
use Rattle.pp_styles.specs.Driving.{CostAtMost, Drives, HasDone}
use Rattle.pp_styles.specs.Meanings.{meanings}
use Rattle.pp_styles.specs.SameFronts.{SameFront}
use Rattle.pp_styles.specs.declared.any_front.AnyFront.{AnyFront}
use Rattle.pp_styles.specs.declared.drive.Halt.{Halt}
use Rattle.pp_styles.specs.declared.drive.Halt.TheVariants.{Failed, TooMany}
use Rattle.pp_styles.proofs.SameFronts.{same_front}
use Rattle.pp_input_reader.specs.Takers.{IfFault}
use Rattle.pp_input_reader.specs.declared.cause.Cause.{Cause}
use Rattle.pp_input_reader.specs.declared.cause.Cause.TheVariants.{TooManySteps}
use Rattle.pp_input_reader.specs.declared.stop.Stop.{Stop}
use Rattle.pp_input_reader.specs.declared.stop.Stop.TheVariants as stops
use Rattle.pp_judge.specs.Costs.{StepsCostAtLeast, StepsCostAtMost, start_length, steps_at_most}
use Rattle.pp_judge.specs.Driven.{HasSeenRun, driven_judging, judged_of}
use Rattle.pp_judge.specs.Judging.{CostsAtMostThere, HasFaultThere, Judges}
use Rattle.pp_judge.specs.Objects.{object_of, start_of, translation_of}
use Rattle.pp_judge.specs.Running.{EndsAt, GoesOn, HasStarted, IsFirstFront, rejection_on}
use Rattle.pp_judge.specs.Tallies.{headed, scan_of}
use Rattle.pp_judge.specs.declared.driven.Driven.{Driven}
use Rattle.pp_judge.specs.declared.driven.ObservedRejection.{ObservedRejection}
use Rattle.pp_judge.specs.declared.driven.Rejection.{Rejection}
use Rattle.pp_judge.specs.declared.judge.Judged.{Judged}
use Rattle.pp_judge.specs.declared.judge.Judged.TheVariants.{Good, Rejected}
use Rattle.pp_judge.specs.laws.Driven.{empty_run, no_steps}
use Rattle.pp_judge.proofs.Driving.{FailsWithin, Overruns, fails, steps_here, too_many}
use Rattle.pp_judge.proofs.RecordCosts.{done_run, least_done, least_failed, most_record, run_to_failed}
use Rattle.pp_judge.proofs.Recorded.{ends_there, goes_on, overruns_there}
use Rattle.pp_judge.proofs.Running.{all_so_far, run_there}
use Rattle.pp_judge.proofs.Starting.{start_twice}

-- ---- results

same_Ok : {A E : Type 0} (a b : A) → (let o : Result A E = Ok a in o) ≡ Ok b → a ≡ b
same_Ok a b is = cc

same_Err : {A E : Type 0} (a b : E) → (let o : Result A E = Err a in o) ≡ Err b → a ≡ b
same_Err a b is = cc

-- ---- lists

-- those up to and with one
take_to : {A : Type 0} (n : ℕ) (xs : List A) (x : A) (ys : List A) → n ≡ suc (length xs) → take n (xs ++ x ∷ ys) ≡ xs ++ x ∷ []
take_to {A} n xs x ys is = ap (λ (k : ℕ). take k (xs ++ x ∷ ys)) is ∙ go xs
  where
    go : (ws : List A) → take (suc (length ws)) (ws ++ x ∷ ys) ≡ ws ++ x ∷ []
    go [] = refl
    go (w ∷ ws) = ap (λ (l : List A). w ∷ l) (go ws)

each_take : {A : Type 0} (P : A → Type 0) (n : ℕ) (xs : List A) → Each P xs → Each P (take n xs)
each_take P zero xs h = tt
each_take P (suc n) [] h = tt
each_take P (suc n) (x ∷ xs) h = (h.0, each_take P n xs h.1)

first_meanings : (n : ℕ) (steps : List (StepOf Op)) → meanings (take n steps) ≡ take n (meanings steps)
first_meanings zero steps = refl
first_meanings (suc n) [] = refl
first_meanings (suc n) (step ∷ steps) = ap (λ (w : List (Step Op)). meaning step ∷ w) (first_meanings n steps)

-- the first steps of a list, as the code takes them
pub told_meant : (n : ℕ) (first list : List (StepOf Op)) → first ≡ take n list → meanings first ≡ take n (meanings list)
told_meant n first list is = ap (λ (l : List (StepOf Op)). meanings l) is ∙ first_meanings n list

-- If each meaning of a list has a property, so has each meaning of its first n elements.
pub each_told : (P : Step Op → Type 0) (n : ℕ) (first list : List (StepOf Op)) → first ≡ take n list → Each P (meanings list) → Each P (meanings first)
each_told P n first list is h = subst (Each P) (sym (told_meant n first list is)) (each_take P n (meanings list) h)

-- ---- the start

plus_none : (old new : ℕ) → old ≤ new → old + 0 ≤ new
plus_none old new h = omega (arith, h)

module _ (line : ℕ) (h : Header) (old new : ℕ) where
  -- A counter that rises by at most the length of the start is within the upper bound of a header without records.
  pub begun_most : new ≤ old + start_length (start_of h) → StepsCostAtMost (scan_of (headed line h) []) old new
  begun_most cost run is =
      subst (λ (w : LinedSteps Op). new ≤ old + steps_at_most (start_of h) (bare w)) (sym (empty_run h run is))
      (subst (λ (k : ℕ). new ≤ old + k) (sym (no_steps (start_of h))) (start_twice old new (start_of h) cost))

  -- A counter that does not rise is within the upper bound of a header without records.
  pub begun_still : StepsCostAtMost (scan_of (headed line h) []) old old
  begun_still run is = still old (steps_at_most (start_of h) (bare run))
    where
      still : (n k : ℕ) → n ≤ n + k
      still n k = omega arith

  -- A counter that does not fall meets the lower bound of an accepted header without records.
  pub begun_good_least : old ≤ new → StepsCostAtLeast statuses.Accepted (scan_of (headed line h) []) old new
  begun_good_least rises run is = subst (λ (w : LinedSteps Op). old + singles (bare w) ≤ new) (sym (empty_run h run is)) (plus_none old new rises)

  -- A counter that does not fall meets the lower bound of a rejected header without records.
  pub begun_bad_least : old ≤ new → StepsCostAtLeast statuses.Rejected (scan_of (headed line h) []) old new
  begun_bad_least rises run is = subst (λ (w : LinedSteps Op). old + singles (but_last (bare w)) ≤ new) (sym (empty_run h run is)) (plus_none old new rises)

module _ {W : Type 0} (HasSeen : Header → LinedSteps Op → W → Type 0) where
  seen_nothing : (h : Header) (w : W) → HasSeen h [] w → HasSeenRun HasSeen h [] w
  seen_nothing h w seen run is = subst (λ (ss : LinedSteps Op). HasSeen h ss w) (sym (empty_run h run is)) seen

  -- A header without records is good if its start is done, the front is the first one, and the observer has seen no step.
  pub begun_good : (line : ℕ) (h : Header) (front : AnyFront) (machine : Seen (List Kind) Op) (w : W) → IsFirstFront h front → HasStarted h Done machine → HasSeen h [] w
      → (driven_judging HasSeen).IsGood (headed line h) [] (record { front = front; machine = machine; observer = w })
  begun_good line h front machine w first_one started seen =
      let there : GoesOn h [] front (record { shape = kinds_of h.catalog; config = first (start_of h); count = 0 }) = record {
        shape = refl;
        state = new_front (kinds_of h.catalog);
        stands = (reading_law (object_of h) (translation_of h)).nothing (start_of h) started.0;
        style = first_one.0;
        kept = same_front _ _ first_one.1;
      } in
      (subst (λ (m : Seen (List Kind) Op). GoesOn h [] front m) (sym started.1) there, seen_nothing h w seen)

  begun_ends : (line n : ℕ) (h : Header) (detail : Detail Op) (machine : Seen (List Kind) Op) → HasStarted h (False n detail) machine → EndsAt h line [] (record { step = 0; line = line; rule = rules.Start; criterion = n; detail = detail })
  begun_ends line zero h detail machine s = absurd (omega (arith, s.1))
  begun_ends line (suc n) h detail machine s = record {
    run = [];
    number = 0;
    criterion = n;
    is = (ap (λ (d : Detail Op). let x : Rejection = record { step = 0; line = line; rule = rules.Start; criterion = suc n; detail = d } in x) s.2, s.4);
    named = s.3;
    stays = λ more. (reading_law (object_of h) (translation_of h)).unbegun (start_of h) more n s.0;
  }

  -- A header without records is rejected at the first criterion that its start fails, if the observer has seen no step.
  pub begun_bad : (line n : ℕ) (h : Header) (detail : Detail Op) (machine : Seen (List Kind) Op) (w : W) → HasStarted h (False n detail) machine → HasSeen h [] w
      → (driven_judging HasSeen).IsRejectedBy (headed line h) [] (record { rejection = record { step = 0; line = line; rule = rules.Start; criterion = n; detail = detail }; observer = w })
  begun_bad line n h detail machine w started seen = (begun_ends line n h detail machine started, seen_nothing h w seen)

  -- ---- a record

  -- an observer that was shown the steps behind those so far
  seen_next : (h : Header) (line : ℕ) (before : LinedSteps Op) (steps : List (Step Op)) (w next : W) → ((so_far : LinedSteps Op) → HasSeen h so_far w → HasSeen h (so_far ++ on_line line steps) next)
      → HasSeen h before w → (others : List (Step Op)) → steps ≡ others → HasSeen h (before ++ on_line line others) next
  seen_next h line before steps w next sees seen others is = subst (λ (ss : List (Step Op)). HasSeen h (before ++ on_line line ss) next) is (sees before seen)

  module _ (h : Header) (judge : Driven W) (r : RunRecord Op) (line now new : ℕ)
      (told : List (Step Op)) (next : W) (sees : (so_far : LinedSteps Op) → HasSeen h so_far judge.observer → HasSeen h (so_far ++ on_line line told) next) where
    abbrev here : List (Step Op)
    here = steps_here h judge.front judge.machine r

    abbrev TakenSo : Judged (Driven W) (ObservedRejection W) → Type 0
    TakenSo judged = Judges (driven_judging HasSeen) h judge r line judged now new

    taken_good : (front : AnyFront) (machine : Seen (List Kind) Op) → any_style front ≡ any_style judge.front
        → SameFront (any_state (kinds_of h.catalog) front) (front_after (any_state (kinds_of h.catalog) judge.front) judge.machine.config r) → (done : HasDone MOST_STEPS objects judge.machine here [] machine now new)
        → told ≡ done.before → TakenSo (Good (record { front = front; machine = machine; observer = next }))
    taken_good front machine style kept done first = record {
      is = λ at before good.
          let c = good.0 in (
            goes_on h before judge.front judge.machine c r line front machine now new style kept done,
            λ run is. subst (λ (ss : LinedSteps Op). HasSeen h ss next) (sym (done_run h before judge.front judge.machine c line r now new machine done run is))
                (seen_next h line (all_so_far h before) told judge.observer next sees (good.1 (all_so_far h before) (run_there h before judge.front judge.machine c)) done.before first),
          );
      least = λ at before good old least. least_done h before judge.front judge.machine good.0 line r at old now new least machine done;
    }

    taken_bad : (rejection : Rejection) (e : FailsWithin MOST_STEPS judge.machine here line now new rejection) → told ≡ e.done.before ++ e.step ∷ []
        → TakenSo (Rejected (record { rejection = rejection; observer = next }))
    taken_bad rejection e first = record {
      is = λ at before good.
          let c = good.0 in
          let xs : LinedSteps Op = all_so_far h before in (
            ends_there h before judge.front judge.machine c r at line now new rejection e,
            λ run is. subst (λ (ss : LinedSteps Op). HasSeen h ss next) (sym (run_to_failed h before judge.front judge.machine c line r now new rejection e run is))
                (seen_next h line xs told judge.observer next sees (good.1 xs (run_there h before judge.front judge.machine c)) (e.done.before ++ e.step ∷ []) first),
          );
      least = λ at before good old least. least_failed h before judge.front judge.machine good.0 line r at old now new least rejection e;
    }

    module _ (front : AnyFront) (machine : Seen (List Kind) Op) (style : any_style front ≡ any_style judge.front)
        (kept : SameFront (any_state (kinds_of h.catalog) front) (front_after (any_state (kinds_of h.catalog) judge.front) judge.machine.config r)) (sound : Sound (rules_of objects machine.shape) machine.config)
        (done : ℕ) (first : told ≡ take (done + 1) here) (count : done + judge.machine.count ≡ machine.count) where
      -- so many steps are done
      as_many : (rest : List (Step Op)) (d : HasDone MOST_STEPS objects judge.machine here rest machine now new) → done ≡ length d.before
      as_many rest d =
          let same : machine.count ≡ judge.machine.count + length d.before = ap (λ (v : Seen (List Kind) Op). v.count) d.is in
          omega (arith, same, count)

      judges_done : HasDone MOST_STEPS objects judge.machine here [] machine now new → TakenSo (Good (record { front = front; machine = machine; observer = next }))
      judges_done d =
          let all : here ≡ d.before = d.parts ∙ append-nil d.before in
          let same : length here ≡ length d.before = ap (λ (l : List (Step Op)). length l) all in
          let many : done ≡ length d.before = as_many [] d in
          taken_good front machine style kept d (first ∙ take_all (done + 1) here (omega (arith, same, many)) ∙ all)

      judges_failed : (rule : Rule) (n : ℕ) (detail : Detail Op) → Drives MOST_STEPS objects judge.machine here now (Some (Failed rule n detail)) machine new
          → TakenSo (Rejected (record { rejection = record { step = machine.count + 1; line = line; rule = rule; criterion = n; detail = detail }; observer = next }))
      unfolding fails
      judges_failed rule n detail d =
          let e = fails MOST_STEPS judge.machine machine here now new line rule n detail sound d in
          let many : done ≡ length e.done.before = as_many (d.0 ∷ d.1) d.2 in
          taken_bad (record { step = machine.count + 1; line = line; rule = rule; criterion = n; detail = detail }) e
          (first ∙ ap (λ (l : List (Step Op)). take (done + 1) l) e.done.parts ∙ take_to (done + 1) e.done.before e.step e.behind (omega (arith, many)))

      -- A record whose steps drive the machine is judged by how they end: it is good with the new machine, or it is rejected.
      pub judges : (halt : Option (Halt Op)) (rejection : Option Rejection) → Drives MOST_STEPS objects judge.machine here now halt machine new → rejection_on line machine.count halt ≡ Ok rejection
          → TakenSo (judged_of front machine next rejection)
      judges None rejection d is =
          let same : None ≡ rejection = same_Ok None rejection is in
          subst (λ (o : Option Rejection). TakenSo (judged_of front machine next o)) same (judges_done d)
      judges (Some TooMany) rejection d is = absurd (cc)
      judges (Some (Failed rule n detail)) rejection d is =
          let same = same_Ok (Some (record { step = machine.count + 1; line = line; rule = rule; criterion = n; detail = detail })) rejection is in
          subst (λ (o : Option Rejection). TakenSo (judged_of front machine next o)) same (judges_failed rule n detail d)

  module _ (h : Header) (judge : Driven W) (r : RunRecord Op) (line now new : ℕ) where
    -- If the counter is within the upper bound of a record's steps, it is within that of the record.
    pub judges_most : CostAtMost MOST_STEPS objects place_of judge.machine (steps_here h judge.front judge.machine r) now new → CostsAtMostThere (driven_judging HasSeen) h judge r line now new
    judges_most cost at before good old most = most_record h before judge.front judge.machine good.0 line r at old now new most cost

    judges_overrun : Overruns MOST_STEPS judge.machine (steps_here h judge.front judge.machine r) now new → HasFaultThere (driven_judging HasSeen) h judge r line TooManySteps
    judges_overrun over at before good = overruns_there h before judge.front judge.machine good.0 r at line now new over

    -- a halt that is no rejection
    pub stops_there : (machine : Seen (List Kind) Op) (halt : Option (Halt Op)) (stop : Stop Cause) → Drives MOST_STEPS objects judge.machine (steps_here h judge.front judge.machine r) now halt machine new
        → rejection_on line machine.count halt ≡ Err stop → IfFault stop (λ at cause. (at ≡ line) × HasFaultThere (driven_judging HasSeen) h judge r line cause)
    stops_there machine None stop d is = absurd (cc)
    stops_there machine (Some TooMany) stop d is =
        subst (λ (w : Stop Cause). IfFault w (λ at cause. (at ≡ line) × HasFaultThere (driven_judging HasSeen) h judge r line cause)) (same_Err (stops.Fault line TooManySteps) stop is)
        (refl, judges_overrun (too_many MOST_STEPS judge.machine machine (steps_here h judge.front judge.machine r) now new d))
    stops_there machine (Some (Failed rule n detail)) stop d is = absurd (cc)
