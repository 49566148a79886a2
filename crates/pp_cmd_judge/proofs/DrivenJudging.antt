-- What the machine, driven through the steps of each record, says of a start, and of a record more.
use Rattle.std.specs.Prelude.{◌≡◌, ◌≤◌, ◌<◌, ◌+◌, ℕ, zero, suc, true, false, [], List, length, Option, None, Some, Result, Ok, Err}
use Rattle.std.proofs.Common.{refl, sym, ap, subst, ◌∙◌, arith}
use mathlib.Core.Logic.{inl, inr}
use Rattle.pp_core.specs.declared.call.Kind.{Kind}
use Rattle.pp_core.specs.declared.call.Style.{Style}
use Rattle.pp_core.specs.declared.call.Style.TheVariants as styles
use Rattle.pp_core.specs.declared.status.Status.TheVariants as statuses
use Rattle.pp_core.specs.Steps.{Step}
use Rattle.pp_core.specs.declared.step.Rule.{Rule}
use Rattle.pp_core.specs.declared.step.Rule.TheVariants as rules
use Rattle.pp_model.proofs.Lengths.{serial_fits}
use Rattle.pp_model.specs.Config.{first}
use Rattle.pp_model.specs.Rules.{StartMeets}
use Rattle.pp_model.specs.Sound.{Sound, serial_ops}
use Rattle.pp_records.proofs.Whole.{unbegun}
use Rattle.pp_records.specs.Expansions.{front_after}
use Rattle.pp_records.specs.Fronts.{new_front}
use Rattle.pp_records.specs.Records.{RunRecord}
use Rattle.pp_records.specs.Runs.{Records}
use Rattle.pp_format_read.specs.declared.header.Header.{Header}
use Rattle.pp_format_read.specs.Records.{IsReadable}
use Rattle.pp_input_reader.specs.Takers.{IfFault}
use Rattle.pp_input_reader.specs.declared.cause.Cause.{Cause}
use Rattle.pp_input_reader.specs.declared.cause.Cause.TheVariants.{TooManySteps}
use Rattle.pp_input_reader.specs.declared.stop.Stop.{Stop}
use Rattle.pp_input_reader.specs.declared.stop.Stop.TheVariants as stops
use Rattle.pp_kind.specs.Object.{rules_of}
use Rattle.pp_kind.specs.declared.range.TheConstants.{MOST_OPERATIONS}
use Rattle.pp_machine.specs.Machines.{Seen}
use Rattle.pp_machine.specs.declared.detail.Detail.{Detail}
use Rattle.pp_machine.specs.declared.machine.Outcome.TheVariants.{Done, False}
use Rattle.pp_objects.specs.Objects.{kinds_of, objects, place_of}
use Rattle.pp_objects.specs.declared.act.Op.{Op}
use Rattle.pp_styles.proofs.SameFronts.{same_front}
use Rattle.pp_styles.specs.AnyFronts.{any_state, any_style}
use Rattle.pp_styles.specs.Driving.{CostAtMost, Drives, HasDone}
use Rattle.pp_styles.specs.SameFronts.{SameFront}
use Rattle.pp_styles.specs.declared.any_front.AnyFront.{AnyFront}
use Rattle.pp_styles.specs.declared.drive.Halt.{Halt}
use Rattle.pp_styles.specs.declared.drive.Halt.TheVariants.{Failed, TooMany}
use Rattle.pp_judge.proofs.Driving.{FailsWithin, Overruns, fails, steps_here, too_many}
use Rattle.pp_judge.specs.Costs.{StepsCostAtLeast, start_length}
use Rattle.pp_judge.specs.Judging.{CostsAtMostThere, HasFaultThere, Judges}
use Rattle.pp_judge.specs.Objects.{object_of, start_of}
use Rattle.pp_judge.specs.Running.{HasStarted, IsFirstFront, rejection_on}
use Rattle.pp_judge.specs.Scans.{InputScan}
use Rattle.pp_judge.specs.Tallies.{headed, one_more, scan_of}
use Rattle.pp_judge.specs.declared.driven.Rejection.{Rejection}
use Rattle.pp_judge.specs.declared.judge.Judged.{Judged}
use Rattle.pp_judge.specs.declared.judge.Judged.TheVariants.{Good, Rejected}
use Rattle.pp_cmd_judge.specs.Costs.{JudgedCostAtMost, StyleCostAtMost, StyleGoodCostAtLeast, StyleRejectedCostAtLeast}
use Rattle.pp_cmd_judge.specs.Driven.{AreDrivenBehind, judged_of}
use Rattle.pp_cmd_judge.specs.Judgements.{is_driven}
use Rattle.pp_cmd_judge.specs.RulesCosts.{AllCostAtMost}
use Rattle.pp_cmd_judge.specs.StyleJudging.{IsRejectedBy, style_judging}
use Rattle.pp_cmd_judge.specs.declared.driven.DrivenMachine.{DrivenMachine}
use Rattle.pp_cmd_judge.specs.declared.style_judge.StyleJudge.{StyleJudge}
use Rattle.pp_cmd_judge.specs.declared.style_judge.StyleJudge.TheVariants.{Driven}
use Rattle.pp_cmd_judge.proofs.DrivenRecords.{goes_on, least_done, least_failed, most_record, passes_there, rejected_there}
use Rattle.pp_cmd_judge.proofs.RuleSteps as rule_steps
use Rattle.pp_cmd_judge.proofs.Violating.{start_rejected}

-- ---- results

same_Ok : {A E : Type 0} (a b : A) → (let o : Result A E = Ok a in o) ≡ Ok b → a ≡ b
same_Ok a b is = cc

same_Err : {A E : Type 0} (a b : E) → (let o : Result A E = Err a in o) ≡ Err b → a ≡ b
same_Err a b is = cc

-- ---- the bounds of a style that is driven

-- what the start and the steps of a run cost is the bound of such a style
pub to_most : (s : Style) → is_driven s ≡ true → (sc : InputScan) (old new : ℕ) → AllCostAtMost sc old new → StyleCostAtMost s sc old new
to_most styles.Rules is sc old new cost = absurd (cc)
to_most styles.Boosted is sc old new cost = absurd (cc)
to_most styles.Optimistic is sc old new cost = absurd (cc)
to_most styles.Hardware is sc old new cost = cost
to_most styles.Dependent is sc old new cost = cost

of_most : (s : Style) → is_driven s ≡ true → (sc : InputScan) (old new : ℕ) → StyleCostAtMost s sc old new → AllCostAtMost sc old new
of_most styles.Rules is sc old new cost = absurd (cc)
of_most styles.Boosted is sc old new cost = absurd (cc)
of_most styles.Optimistic is sc old new cost = absurd (cc)
of_most styles.Hardware is sc old new cost = cost
of_most styles.Dependent is sc old new cost = cost

to_good : (s : Style) → is_driven s ≡ true → (sc : InputScan) (old new : ℕ) → StepsCostAtLeast statuses.Accepted sc old new → StyleGoodCostAtLeast s sc old new
to_good styles.Rules is sc old new cost = absurd (cc)
to_good styles.Boosted is sc old new cost = absurd (cc)
to_good styles.Optimistic is sc old new cost = absurd (cc)
to_good styles.Hardware is sc old new cost = cost
to_good styles.Dependent is sc old new cost = cost

of_good : (s : Style) → is_driven s ≡ true → (sc : InputScan) (old new : ℕ) → StyleGoodCostAtLeast s sc old new → StepsCostAtLeast statuses.Accepted sc old new
of_good styles.Rules is sc old new cost = absurd (cc)
of_good styles.Boosted is sc old new cost = absurd (cc)
of_good styles.Optimistic is sc old new cost = absurd (cc)
of_good styles.Hardware is sc old new cost = cost
of_good styles.Dependent is sc old new cost = cost

to_bad : (s : Style) → is_driven s ≡ true → (sc : InputScan) (old new : ℕ) → StepsCostAtLeast statuses.Rejected sc old new → StyleRejectedCostAtLeast s sc old new
to_bad styles.Rules is sc old new cost = absurd (cc)
to_bad styles.Boosted is sc old new cost = absurd (cc)
to_bad styles.Optimistic is sc old new cost = absurd (cc)
to_bad styles.Hardware is sc old new cost = cost
to_bad styles.Dependent is sc old new cost = cost

-- ---- the start

module _ (line : ℕ) (h : Header) (driven : is_driven h.style ≡ true) where
  -- a header whose start meets its criteria is good without records, if the front is the first one
  pub begun_good : (judge : DrivenMachine) → IsFirstFront h judge.front → HasStarted h Done judge.machine → AreDrivenBehind h [] judge
  begun_good judge first_one started = record {
    driven = driven;
    shape = ap (λ (m : Seen (List Kind) Op). m.shape) started.1;
    hold = (started.0, tt);
    state = new_front (kinds_of h.catalog);
    place = ap (λ (m : Seen (List Kind) Op). record { front = new_front (kinds_of h.catalog); config = m.config }) started.1;
    count = ap (λ (m : Seen (List Kind) Op). m.count) started.1;
    few = none_yet judge.machine.count (ap (λ (m : Seen (List Kind) Op). m.count) started.1);
    style = first_one.0;
    kept = same_front _ _ first_one.1;
  }
    where
      none_yet : (n : ℕ) → n ≡ 0 → n ≤ 4_294_967_295
      none_yet n x = omega (arith, x)

  -- a start that violates a criterion does not meet them all
  begun_fails : (n : ℕ) (detail : Detail Op) (machine : Seen (List Kind) Op) → HasStarted h (False n detail) machine → StartMeets (object_of h) (start_of h) → ⊥
  begun_fails zero detail machine s meets = absurd (omega (arith, s.1))
  begun_fails (suc n) detail machine s meets = unbegun (object_of h) (start_of h) n meets s.0

  -- a header whose start violates a criterion is rejected
  pub begun_bad : (n : ℕ) (detail : Detail Op) (machine : Seen (List Kind) Op) → HasStarted h (False n detail) machine
      → IsRejectedBy (headed line h) [] (record { step = 0; line = line; rule = rules.Start; criterion = n; detail = detail })
  begun_bad n detail machine s = record {
    fails = inl (begun_fails n detail machine s, refl);
    rejected = start_rejected line n h detail machine s;
    few = λ more on over. begun_fails n detail machine s over.1;
  }

  -- a start that costs one for each of its operations, at most, is within the bound on the counter
  pub begun_most : (old new : ℕ) → new ≤ old + start_length (start_of h) → JudgedCostAtMost (scan_of (headed line h) []) old new
  begun_most old new cost = to_most h.style driven (scan_of (headed line h) []) old new (rule_steps.begun_most line h old new cost)

-- so is one that costs nothing
pub begun_still : (line : ℕ) (h : Header) (driven : is_driven h.style ≡ true) (old : ℕ) → JudgedCostAtMost (scan_of (headed line h) []) old old
begun_still line h driven old = begun_most line h driven old old (still old (start_length (start_of h)))
  where
    still : (n k : ℕ) → n ≤ n + k
    still n k = omega arith

-- ---- a record

module _ (h : Header) (judge : DrivenMachine) (r : RunRecord Op) (line now new : ℕ) where
  abbrev here : List (Step Op)
  here = steps_here h judge.front judge.machine r

  abbrev JudgesSo : Judged StyleJudge Rejection → Type 0
  JudgesSo judged = Judges style_judging h (Driven judge) r line judged now new

  judges_good : (next : DrivenMachine) → any_style next.front ≡ any_style judge.front
      → SameFront (any_state (kinds_of h.catalog) next.front) (front_after (any_state (kinds_of h.catalog) judge.front) judge.machine.config r) → HasDone 4_294_967_295 objects judge.machine here [] next.machine now new
      → JudgesSo (Good (Driven next))
  judges_good next style kept done = record {
    is = λ at before good. goes_on h before judge good line r next now new style kept done;
    least = λ at before good old least.
        to_good h.style good.driven (scan_of (headed at h) (one_more before line r)) old new
        (least_done h before judge good line r at old now new (of_good h.style good.driven (scan_of (headed at h) before) old now least) next.machine done);
  }

  judges_bad : (rejection : Rejection) → IsReadable h.catalog r → FailsWithin 4_294_967_295 judge.machine here line now new rejection → JudgesSo (Rejected rejection)
  judges_bad rejection readable e = record {
    is = λ at before good. rejected_there h before judge good line r at now new rejection readable e;
    least = λ at before good old least.
        to_bad h.style good.driven (scan_of (headed at h) (one_more before line r)) old new
        (least_failed h before judge good line r at old now new (of_good h.style good.driven (scan_of (headed at h) before) old now least) rejection e);
  }

  -- A record whose steps drive the machine is judged by how they end: it is good with the new machine, or it is rejected.
  module _ (next : DrivenMachine) (readable : IsReadable h.catalog r) (style : any_style next.front ≡ any_style judge.front)
      (kept : SameFront (any_state (kinds_of h.catalog) next.front) (front_after (any_state (kinds_of h.catalog) judge.front) judge.machine.config r)) (sound : Sound (rules_of objects next.machine.shape) next.machine.config) where
    judges_failed : (rule : Rule) (n : ℕ) (detail : Detail Op) → Drives 4_294_967_295 objects judge.machine here now (Some (Failed rule n detail)) next.machine new
        → JudgesSo (Rejected (record { step = next.machine.count + 1; line = line; rule = rule; criterion = n; detail = detail }))
    judges_failed rule n detail d =
        judges_bad (record { step = next.machine.count + 1; line = line; rule = rule; criterion = n; detail = detail }) readable
        (fails 4_294_967_295 judge.machine next.machine here now new line rule n detail sound d)

    pub judges : (halt : Option (Halt Op)) (rejection : Option Rejection) → Drives 4_294_967_295 objects judge.machine here now halt next.machine new → rejection_on line next.machine.count halt ≡ Ok rejection
        → JudgesSo (judged_of next rejection)
    judges None rejection d is =
        let same : None ≡ rejection = same_Ok None rejection is in
        subst (λ (o : Option Rejection). JudgesSo (judged_of next o)) same (judges_good next style kept d)
    judges (Some TooMany) rejection d is = absurd (cc)
    judges (Some (Failed rule n detail)) rejection d is =
        let same = same_Ok (Some (record { step = next.machine.count + 1; line = line; rule = rule; criterion = n; detail = detail })) rejection is in
        subst (λ (o : Option Rejection). JudgesSo (judged_of next o)) same (judges_failed rule n detail d)

  -- what the steps cost that were tried is within the judge's bound on the counter
  pub judges_most : CostAtMost 4_294_967_295 objects place_of judge.machine here now new → CostsAtMostThere style_judging h (Driven judge) r line now new
  judges_most cost at before good old most =
      to_most h.style good.driven (scan_of (headed at h) (one_more before line r)) old new
      (most_record h before judge good line r at old now new (of_most h.style good.driven (scan_of (headed at h) before) old now most) cost)

  judges_overrun : Overruns 4_294_967_295 judge.machine here now new → HasFaultThere style_judging h (Driven judge) r line TooManySteps
  judges_overrun over at before good = inl (line, passes_there h before judge good line r at now new over, refl)

  -- a halt that is no rejection is the fault that the record has a step too many
  pub stops_there : (machine : Seen (List Kind) Op) (halt : Option (Halt Op)) (stop : Stop Cause) → Drives 4_294_967_295 objects judge.machine here now halt machine new
      → rejection_on line machine.count halt ≡ Err stop → IfFault stop (λ at cause. (at ≡ line) × HasFaultThere style_judging h (Driven judge) r line cause)
  stops_there machine None stop d is = absurd (cc)
  stops_there machine (Some TooMany) stop d is =
      subst (λ (w : Stop Cause). IfFault w (λ at cause. (at ≡ line) × HasFaultThere style_judging h (Driven judge) r line cause)) (same_Err (stops.Fault line TooManySteps) stop is)
      (refl, judges_overrun (too_many 4_294_967_295 judge.machine machine here now new d))
  stops_there machine (Some (Failed rule n detail)) stop d is = absurd (cc)
