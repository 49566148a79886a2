-- What the machine as the engine of runs of style rules says of a start, and of a record more.
use Rattle.std.specs.Prelude.{◌≡◌, ◌≤◌, ◌<◌, ◌+◌, ◌*◌, ℕ, zero, suc, List, [], ◌∷◌, ◌++◌, length, map}
use Rattle.std.specs.Prelude.{true, Option, None, Some}
use Rattle.std.proofs.Common.{refl, sym, ap, subst, ◌∙◌, arith, length-append}
use Rattle.std.proofs.lemmas.Option.{same_Some}
use mathlib.Core.Logic.{inl, inr}
use Rattle.pp_core.specs.Steps.{Step, rule_of}
use Rattle.pp_core.specs.declared.call.Kind.{Kind}
use Rattle.pp_core.specs.declared.call.Style.TheVariants as styles
use Rattle.pp_core.specs.declared.status.Status.TheVariants as statuses
use Rattle.pp_model.proofs.Lengths.{serial_fits}
use Rattle.pp_model.proofs.Simulate.{finished_are}
use Rattle.pp_model.specs.Config.{Config, Start, after, after_from, but_last, first}
use Rattle.pp_model.specs.Rules.{Breaks, Meets, RunsFrom, StartMeets}
use Rattle.pp_model.specs.Serial.{attempts, committed_tx}
use Rattle.pp_model.specs.Sound.{Sound, serial_ops}
use Rattle.pp_records.proofs.Ends.{after_append, bare_append, never, runs_append}
use Rattle.pp_records.proofs.Whole.{extends_law, joined_more, led_config, unbegun}
use Rattle.pp_records.specs.Expansions.{IsOfStyle}
use Rattle.pp_records.specs.Records.{RunRecord, Plain}
use Rattle.pp_records.specs.Records as records
use Rattle.pp_records.specs.Runs.{EndsAtFailure, IsRun, Lined, LinedSteps, Records, bare, outset}
use Rattle.pp_format_read.specs.declared.header.Header.{Header}
use Rattle.pp_kind.specs.Object.{rules_of}
use Rattle.pp_kind.specs.declared.range.TheConstants.{MOST_OPERATIONS}
use Rattle.pp_machine.specs.Costs.{CostsBy, at_most}
use Rattle.pp_machine.specs.Evidence.{evidence}
use Rattle.pp_machine.specs.Machines.{Seen}
use Rattle.pp_machine.specs.Stepping.{IsAsked, Stepped}
use Rattle.pp_machine.specs.declared.detail.Detail.{Detail}
use Rattle.pp_machine.specs.declared.machine.Outcome.{Outcome}
use Rattle.pp_machine.specs.declared.machine.Outcome.TheVariants.{Done, False}
use Rattle.pp_objects.specs.Objects.{kinds_of, objects, place_of}
use Rattle.pp_objects.specs.declared.act.Op.{Op}
use Rattle.pp_styles.specs.Costs.{most_ticks, singles}
use Rattle.pp_styles.proofs.Driven.{done_least, most_append, singles_append, vain_least}
use Rattle.pp_summary.specs.Failures.{standing_after}
use Rattle.pp_violations.specs.Searches.{step_violation}
use Rattle.pp_violations.specs.declared.violation.Broken.{Broken}
use Rattle.pp_judge.proofs.Asking.{expansion_asked}
use Rattle.pp_judge.proofs.RecordCosts.{but_last_end}
use Rattle.pp_judge.proofs.Starting.{start_twice}
use Rattle.pp_judge.specs.Costs.{StepsCostAtLeast, start_at_most, start_length}
use Rattle.pp_judge.specs.Objects.{object_of, start_of, translation_of}
use Rattle.pp_judge.specs.Running.{HasStarted}
use Rattle.pp_judge.specs.Tallies.{headed, one_more, scan_of}
use Rattle.pp_judge.specs.laws.Driven.{empty_run}
use Rattle.pp_cmd_quick.specs.Decisions.{steps_behind}
use Rattle.pp_cmd_judge.proofs.Ending as ending
use Rattle.pp_cmd_judge.specs.Engines.{CanTake, CostsAtMost, Finds, Found, HasSteps, Refuses, Starts, Takes, TakesGood, own}
use Rattle.pp_cmd_judge.specs.Rules.{AreDoneBehind, IsBroken, engine_after, rules_engine}
use Rattle.pp_cmd_judge.specs.RulesCosts.{AllCostAtMost, all_at_most}
use Rattle.pp_cmd_judge.specs.RulesLaws.{all_run}
use Rattle.pp_cmd_judge.specs.declared.rules.RuleMachine.{RuleMachine}

-- ---- the start

-- a machine whose start meets its criteria is the engine after it
begun_good : (h : Header) (machine : Seen (List Kind) Op) → h.style ≡ styles.Rules → HasStarted h Done machine → Starts rules_engine h true (record { machine = machine; broken = None })
begun_good h machine styled s = record {
  style = styled;
  shape = ap (λ (m : Seen (List Kind) Op). m.shape) s.1;
  hold = (s.0, tt);
  config = ap (λ (m : Seen (List Kind) Op). m.config) s.1;
  count = ap (λ (m : Seen (List Kind) Op). m.count) s.1;
  steps = refl;
}

-- a start that violates a criterion does not meet them all
begun_bad : (h : Header) (n : ℕ) (detail : Detail Op) (machine : Seen (List Kind) Op) → HasStarted h (False n detail) machine → StartMeets (object_of h) (start_of h) → ⊥
begun_bad h zero detail machine s meets = absurd (omega (arith, s.1))
begun_bad h (suc n) detail machine s meets = unbegun (object_of h) (start_of h) n meets s.0

-- what starting a machine returns and makes of it, the engine returns
pub started : (h : Header) (machine : Seen (List Kind) Op) (outcome : Outcome Op) → h.style ≡ styles.Rules → HasStarted h outcome machine → Starts rules_engine h (engine_after machine outcome).1 (engine_after machine outcome).0
started h machine Done styled s = begun_good h machine styled s
started h machine (False n detail) styled s = begun_bad h n detail machine s

module _ (line : ℕ) (h : Header) (old new : ℕ) where
  -- a start that costs one for each of its operations, at most, is within the judge's bound on the counter
  pub begun_most : new ≤ old + start_length (start_of h) → AllCostAtMost (scan_of (headed line h) []) old new
  begun_most cost run is =
      subst (λ (w : LinedSteps Op). new ≤ old + all_at_most (start_of h) (bare w)) (sym (empty_run h run is)) (whole (start_at_most (start_of h)) (start_twice old new (start_of h) cost))
    where
      whole : (n : ℕ) → new ≤ old + n → new ≤ old + (n + 0)
      whole n x = omega (arith, x)

  -- a start that costs so, and then as much again, is within that bound too
  pub begun_again_most : (then : ℕ) → new ≤ old + start_length (start_of h) → then ≤ new + start_length (start_of h) → AllCostAtMost (scan_of (headed line h) []) old then
  begun_again_most then cost again run is =
      subst (λ (w : LinedSteps Op). then ≤ old + all_at_most (start_of h) (bare w)) (sym (empty_run h run is)) (twice (start_of h) cost again)
    where
      twice : (z : Option (Start Op)) → new ≤ old + start_length z → then ≤ new + start_length z → then ≤ old + (start_at_most z + 0)
      twice None x y = omega (arith, x, y)
      twice (Some z) x y = again_there (length z.items) x y
        where
          again_there : (n : ℕ) → new ≤ old + n → then ≤ new + n → then ≤ old + (2 * n + 0)
          again_there n x y = omega (arith, x, y)

-- ---- a record

-- a machine that may take one more record has taken fewer than 4_294_967_295 steps
pub few : (engine : RuleMachine) (r : RunRecord Op) → CanTake rules_engine engine r → engine.machine.count < 4_294_967_295
few engine r can = fewer engine.machine.count (length can.records) can.good.count can.few
  where
    fewer : (count n : ℕ) → count ≡ n → n < 2_147_483_646 → count < 4_294_967_295
    fewer count n x y = omega (arith, x, y)

-- a step that was read with the header's objects may be asked of the machine
pub step_asked : (engine : RuleMachine) (s : Step Op) → CanTake rules_engine engine (Plain s) → IsAsked objects engine.machine.shape s
step_asked engine s can =
    let h = can.header in
    let p = standing_after (translation_of h) (start_of h) [] in
    subst (λ (k : List Kind). IsAsked objects k s) (sym can.good.shape) (expansion_asked h.catalog h.style p.front p.config (Plain s) can.readable s (inl refl))

-- a record of style rules is a step
pub plain_of : (r : RunRecord Op) → IsOfStyle styles.Rules r → (s : Step Op) × (r ≡ Plain s)
plain_of (Plain s) styled = (s, refl)
plain_of (records.Op t id op) styled = absurd styled
plain_of (records.Commit t) styled = absurd styled
plain_of (records.Abort t) styled = absurd styled
plain_of (records.Retry t) styled = absurd styled
plain_of (records.Refresh t q) styled = absurd styled
plain_of (records.XBegin t) styled = absurd styled
plain_of (records.XEnd t) styled = absurd styled
plain_of (records.XAbort t) styled = absurd styled
plain_of (records.Depend t source) styled = absurd styled
plain_of (records.Publish t) styled = absurd styled
plain_of (records.DropSource t source) styled = absurd styled

-- it means one step
pub one_step : (engine : RuleMachine) (r : RunRecord Op) → IsOfStyle styles.Rules r → HasSteps rules_engine engine r 1
one_step engine r styled h rs c =
    let k = plain_of r styled in
    subst (λ (w : RunRecord Op). 1 ≡ length (own h rs h.style w)) (sym k.1) refl

-- ---- numbers

same_plain : (s t : Step Op) → (let a : RunRecord Op = Plain s in a) ≡ Plain t → s ≡ t
same_plain s t e = cc

plus_more : (a b d : ℕ) → a + (b + d) ≡ (a + b) + d
plus_more a b d = omega arith

up_more : (old now new k all w : ℕ) → new ≤ now + w → now ≤ old + k → all ≡ k + (w + 0) → new ≤ old + all
up_more old now new k all w x y z = omega (arith, x, y, z)

least_more : (old now new a b all : ℕ) → old + a ≤ now → now + b ≤ new → all ≡ a + b → old + all ≤ new
least_more old now new a b all x y z = omega (arith, x, y, z)

least_same : (old now new a : ℕ) → old + a ≤ now → now ≤ new → old + a ≤ new
least_same old now new a x y = omega (arith, x, y)

counted : (new old all one : ℕ) → new ≡ old + 1 → old ≡ all → one ≡ all + 1 → new ≡ one
counted new old all one x y z = omega (arith, x, y, z)

-- ---- the run with one record more

-- where the records lead is where the machine is
led_there : (h : Header) (rs : Records (RunRecord Op)) (engine : RuleMachine) → AreDoneBehind h rs engine → (standing_after (translation_of h) (start_of h) rs).config ≡ engine.machine.config
led_there h rs engine c = led_config (object_of h) (translation_of h) (outset (translation_of h) (start_of h)) rs ∙ sym c.config

module _ (h : Header) (rs : Records (RunRecord Op)) (engine : RuleMachine) (c : AreDoneBehind h rs engine) (line : ℕ) (s : Step Op) where
  abbrev ks : List Kind
  ks = kinds_of h.catalog

  abbrev it : Lined (RunRecord Op)
  it = record { line = line; what = Plain s }

  abbrev more : Records (RunRecord Op)
  more = rs ++ it ∷ []

  -- the steps so far
  abbrev all : LinedSteps Op
  all = steps_behind h rs

  abbrev machine : Seen (List Kind) Op
  machine = engine.machine

  its_step : (C : Config Op) (rest : LinedSteps Op) → EndsAtFailure (object_of h) C (record { line = line; what = s } ∷ []) rest → bare rest ≡ s ∷ []
  its_step C rest (inl e) = ap (λ (w : LinedSteps Op). bare w) e.2
  its_step C rest (inr e) = ap (λ (w : LinedSteps Op). bare w) e.1.2 ∙ ap (λ (w : LinedSteps Op). s ∷ bare w) e.1.1

  -- every run with this record is the steps so far, and its own
  run_next : (run : LinedSteps Op) → IsRun (object_of h) (translation_of h) (start_of h) more run → bare run ≡ bare all ++ s ∷ []
  run_next run (inl e) = absurd (unbegun (object_of h) (start_of h) e.0 c.hold.0 e.1)
  run_next run (inr e) =
      let T = translation_of h in
      let k = ((extends_law (object_of h) T).run (outset T (start_of h)) rs (it ∷ []) run c.hold.1).0 e.1 in
      ap (λ (w : LinedSteps Op). bare w) k.2 ∙ bare_append all k.0
      ∙ ap (λ (w : List (Step Op)). bare all ++ w) (its_step (standing_after T (start_of h) rs).config k.0 k.1)

  steps_next : bare (steps_behind h more) ≡ bare all ++ s ∷ []
  steps_next =
      let T = translation_of h in
      ap (λ (w : LinedSteps Op). bare w) (joined_more (object_of h) T (outset T (start_of h)) rs (it ∷ []))
      ∙ bare_append all (record { line = line; what = s } ∷ [])

  -- ---- what it costs

  most_next : (at old now new : ℕ) → AllCostAtMost (scan_of (headed at h) rs) old now → new ≤ now + at_most place_of machine.config s → AllCostAtMost (scan_of (headed at h) more) old new
  most_next at old now new most cost run is =
      let z = start_of h in
      let xs = bare all in
      let here : now ≤ old + all_at_most z xs = most all (all_run h rs c.hold) in
      let parts : most_ticks place_of (first z) (xs ++ s ∷ []) ≡ most_ticks place_of (first z) xs + (at_most place_of machine.config s + 0) =
      most_append place_of (first z) xs (s ∷ []) ∙ ap (λ (w : Config Op). most_ticks place_of (first z) xs + (at_most place_of w s + 0)) (sym c.config) in
      let sum : all_at_most z (xs ++ s ∷ []) ≡ all_at_most z xs + (at_most place_of machine.config s + 0) =
      ap (λ (n : ℕ). start_at_most z + n) parts ∙ plus_more (start_at_most z) (most_ticks place_of (first z) xs) (at_most place_of machine.config s + 0) in
      subst (λ (w : List (Step Op)). new ≤ old + all_at_most z w) (sym (run_next run is))
      (up_more old now new (all_at_most z xs) (all_at_most z (xs ++ s ∷ [])) (at_most place_of machine.config s) cost here sum)

  module _ (at old now new : ℕ) (least : StepsCostAtLeast statuses.Accepted (scan_of (headed at h) rs) old now) where
    here_least : old + singles (bare all) ≤ now
    here_least = least all (all_run h rs c.hold)

    least_done : CostsBy place_of machine.config s Done now new → StepsCostAtLeast statuses.Accepted (scan_of (headed at h) more) old new
    least_done cost run is =
        subst (λ (w : List (Step Op)). old + singles w ≤ new) (sym (run_next run is))
        (least_more old now new (singles (bare all)) (singles (s ∷ [])) (singles (bare all ++ s ∷ [])) here_least (done_least place_of machine.config s now new cost) (singles_append (bare all) (s ∷ [])))

    least_failed : (n : ℕ) (detail : Detail Op) → CostsBy place_of machine.config s (False n detail) now new → StepsCostAtLeast statuses.Rejected (scan_of (headed at h) more) old new
    least_failed n detail cost run is =
        let front : but_last (bare run) ≡ bare all = ap (λ (w : List (Step Op)). but_last w) (run_next run is) ∙ but_last_end (bare all) s in
        subst (λ (w : List (Step Op)). old + singles w ≤ new) (sym front)
        (least_same old now new (singles (bare all)) here_least (vain_least place_of machine.config s now new cost))

  -- ---- a step that meets its criteria

  done_next : (next : RuleMachine) → Stepped objects machine s Done next.machine → AreDoneBehind h more next
  done_next next done = record {
    style = c.style;
    shape = ap (λ (m : Seen (List Kind) Op). m.shape) done.1 ∙ c.shape;
    hold = (
      c.hold.0,
      subst (λ (w : List (Step Op)). RunsFrom (object_of h) (first (start_of h)) w) (sym steps_next)
          (runs_append (object_of h) (first (start_of h)) (bare all) (s ∷ []) c.hold.1
          (subst (λ (C : Config Op). Meets (object_of h) C s) c.config (subst (λ (k : List Kind). Meets (rules_of objects k) machine.config s) c.shape done.0), tt)),
    );
    config = ap (λ (m : Seen (List Kind) Op). m.config) done.1 ∙ ap (λ (C : Config Op). after_from C (s ∷ [])) c.config
        ∙ sym (after_append (first (start_of h)) (bare all) (s ∷ [])) ∙ ap (λ (w : List (Step Op)). after (start_of h) w) (sym steps_next);
    count = counted next.machine.count machine.count (length rs) (length more) (ap (λ (m : Seen (List Kind) Op). m.count) done.1) c.count (length-append rs (it ∷ []));
    steps = ending.count_next (object_of h) (translation_of h) (start_of h) rs it ∙ ap (λ (n : ℕ). n + 1) c.steps ∙ sym (length-append rs (it ∷ []));
  }

-- ---- what the engine says of it

module _ (engine : RuleMachine) (s : Step Op) (now new : ℕ) where
  -- what a step costs at most keeps the counter within the bound for one more record
  pub steps_most : new ≤ now + at_most place_of engine.machine.config s → CostsAtMost rules_engine engine (Plain s) now new
  steps_most cost h rs c at line old most = most_next h rs engine c line s at old now new most cost

  -- if the machine takes the step of a record, the engine takes the record
  takes_good : (next : RuleMachine) → Stepped objects engine.machine s Done next.machine → CostsBy place_of engine.machine.config s Done now new → TakesGood rules_engine engine (Plain s) next now new
  takes_good next done cost = record {
    good = λ h rs c line. done_next h rs engine c line s next done;
    least = λ h rs c at line old least. least_done h rs engine c line s at old now new least cost;
  }

  -- if the machine finds that the step violates a criterion, the engine keeps which it is, with the evidence
  refuses : (n : ℕ) (detail : Detail Op) (machine : Seen (List Kind) Op) → Stepped objects engine.machine s (False n detail) machine → CostsBy place_of engine.machine.config s (False n detail) now new
      → new ≤ now + at_most place_of engine.machine.config s → Refuses rules_engine engine (Plain s) (record { machine = machine; broken = Some (record { criterion = n; detail = detail }) }) now new
  refuses zero detail machine failed cost most = absurd (omega (arith, failed.1))
  refuses (suc n) detail machine failed cost most = record {
    stays = λ h rs c. record {
      style = c.style;
      shape = ap (λ (m : Seen (List Kind) Op). m.shape) failed.2 ∙ c.shape;
      hold = c.hold;
      config = ap (λ (m : Seen (List Kind) Op). m.config) failed.2 ∙ c.config;
      count = ap (λ (m : Seen (List Kind) Op). m.count) failed.2 ∙ c.count;
      steps = c.steps;
    };
    fails = λ h rs c line. record {
      begun = c.hold.0;
      before = rs;
      behind = [];
      parts = refl;
      hold = c.hold.1;
      fails = λ runs. never (object_of h) (standing_after (translation_of h) (start_of h) rs).config s n runs.0
          (subst (λ (C : Config Op). Breaks (object_of h) C s (suc n)) (sym (led_there h rs engine c))
          (subst (λ (k : List Kind). Breaks (rules_of objects k) engine.machine.config s (suc n)) c.shape failed.0));
    };
    refused = record {
      step = s;
      is = refl;
      number = n;
      breaks = subst (λ (m : Seen (List Kind) Op). Breaks (rules_of objects m.shape) m.config s (suc n)) (sym failed.2) failed.0;
      kept = ap (λ (d : Detail Op). let x : Option (Broken Op) = Some (record { criterion = suc n; detail = d }) in x)
          (failed.3 ∙ ap (λ (m : Seen (List Kind) Op). evidence objects m.shape m.config s (suc n)) (sym failed.2));
    };
    most = λ h rs c at line old then search cost_so_far. most_next h rs engine c line s at old now then cost_so_far (no_search then (at_most place_of engine.machine.config s) search most);
    least = λ h rs c at line old then rises least.
        least_later h rs line at old new then rises (least_failed h rs engine c line s at old now new least (suc n) detail cost);
  }
    where
      no_search : (then k : ℕ) → then ≤ new + 0 → new ≤ now + k → then ≤ now + k
      no_search then k x y = omega (arith, x, y)

      later : (w old then : ℕ) → new ≤ then → old + w ≤ new → old + w ≤ then
      later w old then x y = omega (arith, x, y)

      least_later : (h : Header) (rs : Records (RunRecord Op)) (line at old new then : ℕ) → new ≤ then → StepsCostAtLeast statuses.Rejected (scan_of (headed at h) (one_more rs line (Plain s))) old new
          → StepsCostAtLeast statuses.Rejected (scan_of (headed at h) (one_more rs line (Plain s))) old then
      least_later h rs line at old new then rises least run is = least_same old new then (singles (but_last (bare run))) (least run is) rises

  -- what doing the step returns and makes of the machine, the engine returns
  pub takes : (machine : Seen (List Kind) Op) (outcome : Outcome Op) → Stepped objects engine.machine s outcome machine → CostsBy place_of engine.machine.config s outcome now new → new ≤ now + at_most place_of engine.machine.config s
      → Takes rules_engine engine (Plain s) (engine_after machine outcome).1 (engine_after machine outcome).0 now new
  takes machine Done done cost most = takes_good (record { machine = machine; broken = None }) done cost
  takes machine (False n detail) failed cost most = refuses n detail machine failed cost most

-- the criterion and the evidence that the engine keeps are those of the step, which is the first of the record
pub finds : (engine : RuleMachine) (r : RunRecord Op) (s : Step Op) (b : Broken Op) → IsBroken engine r → r ≡ Plain s → engine.broken ≡ Some b → Finds rules_engine engine r (step_violation 0 (rule_of s) b)
finds engine r s b x is kept h rs c =
    let n : ℕ = x.number in
    let same : x.step ≡ s = same_plain x.step s (sym x.is ∙ is) in
    let criterion : b ≡ record { criterion = suc n; detail = evidence objects engine.machine.shape engine.machine.config x.step (suc n) } = same_Some _ _ (sym kept ∙ x.kept) in
    let here : Found h rs (Plain x.step) (step_violation 0 (rule_of x.step) (record { criterion = suc n; detail = evidence objects engine.machine.shape engine.machine.config x.step (suc n) })) (kinds_of h.catalog) h.style = (
      x.step,
      n,
      record {
        there = refl;
        before = tt;
        breaks = subst (λ (C : Config Op). Breaks (object_of h) C x.step (suc n)) (sym (led_there h rs engine c)) (subst (λ (k : List Kind). Breaks (rules_of objects k) engine.machine.config x.step (suc n)) c.shape x.breaks);
      },
      refl,
      refl,
      ap (λ (k : List Kind). evidence objects k engine.machine.config x.step (suc n)) c.shape ∙ ap (λ (C : Config Op). evidence objects (kinds_of h.catalog) C x.step (suc n)) (sym (led_there h rs engine c)),
    ) in
    subst (λ (w : RunRecord Op). Found h rs w (step_violation 0 (rule_of s) b) (kinds_of h.catalog) h.style) (sym x.is)
    (subst (λ (t : Step Op). Found h rs (Plain x.step) (step_violation 0 (rule_of t) b) (kinds_of h.catalog) h.style) same
    (subst (λ (w : Broken Op). Found h rs (Plain x.step) (step_violation 0 (rule_of x.step) w) (kinds_of h.catalog) h.style) (sym criterion) here))

-- ---- a run that is accepted

-- the committed transactions are those of the steps
pub committed_are : (h : Header) (rs : Records (RunRecord Op)) (engine : RuleMachine) → AreDoneBehind h rs engine
    → engine.machine.config.done ≡ map committed_tx (attempts (start_of h) (bare (steps_behind h rs)))
committed_are h rs engine c =
    ap (λ (C : Config Op). C.done) c.config ∙ finished_are (object_of h) (start_of h) (bare (steps_behind h rs)) c.hold.0 c.hold.1

-- a machine of at most 4_294_967_295 steps, and 256 more shared entries at most, commits fewer than MOST_OPERATIONS operations
pub serial_few : (machine : Seen (List Kind) Op) → Sound (rules_of objects machine.shape) machine.config → length machine.config.shared ≤ machine.count + 256 → machine.count ≤ 4_294_967_295
    → length (serial_ops machine.config.done) < MOST_OPERATIONS
serial_few machine sound short few =
    let fits = serial_fits (rules_of objects machine.shape) machine.config sound in
    omega (arith, fits, short, few)
