-- The steps of a record, and what halts them. The limit is on the steps of a run.
use Rattle.std.specs.Prelude.{◌≡◌, ◌≤◌, ◌<◌, ◌+◌, ℕ, List, [], ◌∷◌, length, Option, None, Some}
use Rattle.std.proofs.Common.{refl, ap, ◌∙◌, subst, arith}
use mathlib.Core.Logic.{inl}
use Rattle.pp_core.specs.Steps.{Step, rule_of}
use Rattle.pp_core.specs.declared.call.Kind.{Kind}
use Rattle.pp_core.specs.declared.step.Rule.{Rule}
use Rattle.pp_records.specs.Expansions.{expand}
use Rattle.pp_records.specs.Records.{RunRecord}
use Rattle.pp_format_read.specs.declared.header.Header.{Header}
use Rattle.pp_model.specs.Rules.{Breaks}
use Rattle.pp_model.specs.Sound.{Sound}
use Rattle.pp_objects.specs.Objects.{kinds_of, objects, place_of}
use Rattle.pp_objects.specs.declared.act.Op.{Op}
use Rattle.pp_machine.specs.Evidence.{Fits, evidence}
use Rattle.pp_machine.specs.Machines.{Seen}
use Rattle.pp_machine.specs.Shown.{HoldsAtNumber, facts}
use Rattle.pp_machine.specs.declared.detail.Detail.{Detail}
use Rattle.pp_kind.specs.Object.{rules_of}
use Rattle.pp_styles.specs.AnyFronts.{any_state, any_style}
use Rattle.pp_styles.specs.Driving.{CostAtMost, Drives, HasDone}
use Rattle.pp_styles.specs.declared.any_front.AnyFront.{AnyFront}
use Rattle.pp_styles.specs.declared.drive.Halt.{Halt}
use Rattle.pp_styles.specs.declared.drive.Halt.TheVariants.{Failed, TooMany}
use Rattle.pp_judge.specs.Rejected.{IsStepEvident}
use Rattle.pp_judge.specs.declared.driven.Rejection.{Rejection}

-- ---- where a record leads

-- the steps of a record, from where the front and the machine are
abbrev pub steps_here : Header → AnyFront → Seen (List Kind) Op → RunRecord Op → List (Step Op)
steps_here header front machine r =
    expand place_of (any_style front) (any_state (kinds_of header.catalog) front) machine.config r

-- the rejection of a step, of which this is the first false criterion
abbrev pub rejection_of : Seen (List Kind) Op → Step Op → ℕ → ℕ → Rejection
rejection_of machine step line n = record {
  step = machine.count + 1;
  line = line;
  rule = rule_of step;
  criterion = n;
  detail = evidence objects machine.shape machine.config step n;
}

-- Of these steps those before one are done, and that one is the first that does not meet its
-- criteria.
pub record FailsWithin (limit : ℕ) (machine : Seen (List Kind) Op) (steps : List (Step Op)) (line from to : ℕ)
    (rejection : Rejection) : Type 0 where
  pub step : Step Op
  pub behind : List (Step Op)
  pub at : Seen (List Kind) Op
  pub done : HasDone limit objects machine steps (step ∷ behind) at from to
  pub few : at.count < limit
  pub criterion : ℕ
  pub some : 0 < criterion
  pub breaks : Breaks (rules_of objects at.shape) at.config step criterion
  pub is : rejection ≡ rejection_of at step line criterion
  pub fits : Fits objects at.shape (evidence objects at.shape at.config step criterion)
  pub evident : IsStepEvident at.shape at.config step criterion

-- Of these steps those before one are done, and a run may have no step more.
pub record Overruns (limit : ℕ) (machine : Seen (List Kind) Op) (steps : List (Step Op)) (from to : ℕ) :
    Type 0 where
  pub step : Step Op
  pub behind : List (Step Op)
  pub at : Seen (List Kind) Op
  pub done : HasDone limit objects machine steps (step ∷ behind) at from to
  pub full : at.count ≡ limit

-- ---- what halts them

module _ (limit : ℕ) (machine new : Seen (List Kind) Op) (steps : List (Step Op)) (from to : ℕ) where
  -- one fails
  unfoldable pub fails : (line : ℕ) (rule : Rule) (n : ℕ) (detail : Detail Op) → Sound (rules_of objects new.shape) new.config → Drives limit objects machine steps from (Some (Failed rule n detail)) new to
      → FailsWithin limit machine steps line from to (record { step = new.count + 1; line = line; rule = rule; criterion = n; detail = detail })
  fails line rule n detail sound d =
      let step : Step Op = d.0 in
      let effect = d.3.2 in
      let shown = d.3.3 in
      record {
        step = step;
        behind = d.1;
        at = new;
        done = d.2;
        few = d.3.0;
        criterion = n;
        some = effect.1;
        breaks = effect.0;
        is = ap (λ (u : Rule). let w : Rejection = record { step = new.count + 1; line = line; rule = u; criterion = n; detail = detail } in w) d.3.1
            ∙ ap (λ (u : Detail Op). let w : Rejection = record (rejection_of new step line n) { detail = u } in w) effect.3;
        fits = subst (λ (u : Detail Op). Fits objects new.shape u) effect.3 shown.1;
        evident = (sound, subst (λ (u : Detail Op). HoldsAtNumber objects (facts objects new.shape new.config step) n u) effect.3 shown.0);
      }

  -- a run may have no more
  pub too_many : Drives limit objects machine steps from (Some TooMany) new to → Overruns limit machine steps from to
  too_many d = record { step = d.0; behind = d.1; at = new; done = d.2; full = d.3 }

  -- A machine that is driven through steps has counted no more of them than a run may have.
  pub few_there : (halt : Option (Halt Op)) → Drives limit objects machine steps from halt new to → new.count ≤ limit
  few_there None d = d.few
  few_there (Some halt) d = d.2.few

  more_there : (rest : List (Step Op)) → HasDone limit objects machine steps rest new from to → machine.count ≤ new.count
  more_there rest d =
      let same : new.count ≡ machine.count + length d.before = ap (λ (v : Seen (List Kind) Op). v.count) d.is in
      omega (arith, same)

  -- no step is taken back
  pub no_fewer_there : (halt : Option (Halt Op)) → Drives limit objects machine steps from halt new to → machine.count ≤ new.count
  no_fewer_there None d = more_there [] d
  no_fewer_there (Some halt) d = more_there (d.0 ∷ d.1) d.2

-- if no step is tried
pub untried : (limit : ℕ) (machine : Seen (List Kind) Op) (steps : List (Step Op)) (from : ℕ) → machine.count ≤ limit → CostAtMost limit objects place_of machine steps from from
untried limit machine steps from few =
    record {
      before = [];
      tried = [];
      behind = steps;
      parts = refl;
      hold = tt;
      last = inl refl;
      few = no_step machine.count limit few;
      most = no_tick from;
    }
  where
    no_step : (n most : ℕ) → n ≤ most → n + 0 ≤ most
    no_step n most l = omega (arith, l)

    no_tick : (a : ℕ) → a ≤ a + 0
    no_tick a = omega arith
