-- A machine that is driven through the steps of the run ends where the lines of the run lead.
use Rattle.std.specs.Prelude.{◌≡◌, ◌≤◌, ◌<◌, ◌+◌, ℕ, zero, suc, List, [], ◌∷◌, ◌++◌, length, Option, None, Some}
use Rattle.std.proofs.Common.{refl, sym, ap, ◌∙◌, subst, arith, length-append}
use Rattle.std.proofs.lemmas.List.{append-nil}
use Rattle.pp_core.specs.Catalogs.{Objects}
use Rattle.pp_core.specs.Steps.{Step, Begin, App, Unapp, Push, Unpush, Pull, Unpull, Cmt, Quit, Note}
use Rattle.pp_core.specs.declared.call.Kind.{Kind}
use Rattle.pp_core.specs.declared.limits.TheConstants.{MOST_STEPS}
use Rattle.pp_core.specs.declared.call.Style.TheVariants.{Rules}
use Rattle.pp_records.proofs.Ends.{never, runs_back}
use Rattle.pp_records.proofs.Restating.{plain_steps}
use Rattle.pp_records.proofs.Whole.{extends_law}
use Rattle.pp_records.specs.Fronts.{Front}
use Rattle.pp_records.specs.Laws.{StandsAt}
use Rattle.pp_records.specs.Records.{RunRecord}
use Rattle.pp_records.specs.Runs.{LinedSteps, Standing, Translation, after_records, bare, joined_steps, outset}
use Rattle.pp_records.specs.Styles.{plain}
use Rattle.pp_format_read.specs.declared.header.Header.{Header}
use Rattle.pp_format_write.specs.Headers.{rules_header}
use Rattle.pp_format_write.specs.Statable.{IsStatable}
use Rattle.pp_model.specs.Config.{Config, after_from, first}
use Rattle.pp_model.specs.Lists.{In}
use Rattle.pp_model.specs.Rules.{Breaks, Meets, RunsFrom}
use Rattle.pp_objects.specs.Objects.{objects, place_of}
use Rattle.pp_objects.specs.declared.act.Op.{Op}
use Rattle.pp_machine.specs.Machines.{Seen}
use Rattle.pp_machine.specs.Stepping.{IsAsked}
use Rattle.pp_kind.specs.Object.{rules_of}
use Rattle.pp_styles.proofs.Driven.{most_append}
use Rattle.pp_styles.specs.Costs.{most_ticks, singles}
use Rattle.pp_styles.specs.Driving.{CostAtMost, Drives, Halts, HasDone, after_steps}
use Rattle.pp_styles.specs.declared.drive.Halt.{Halt}
use Rattle.pp_styles.specs.declared.drive.Halt.TheVariants.{Failed, TooMany}
use Rattle.pp_judge.specs.laws.Driven.{few_steps}
use Rattle.pp_judge.specs.Costs.{OfRun, StepsCostAtMost, steps_at_most}
use Rattle.pp_judge.specs.Objects.{translation_of}
use Rattle.pp_judge.specs.Running.{IsRunning, standing_of}
use Rattle.pp_judge.specs.Scans.{InputScan}
use Rattle.pp_judge.specs.declared.progress.Tally.{Tally}
use Rattle.pp_cmd_drill.proofs.Accepted.{drill_accepted}
use Rattle.pp_cmd_drill.proofs.Moves.{each_in}
use Rattle.pp_cmd_drill.proofs.Scanned.{begun, few, lined, of_run, same_length, same_steps, scan_is, scanned}
use Rattle.pp_cmd_drill.proofs.Stating.{steps_stated}
use Rattle.pp_cmd_drill.specs.Drill.{drill_catalog, drill_kinds, drill_steps}
use Rattle.pp_cmd_drill.specs.Law.{drill_objects}
use Rattle.pp_cmd_drill.specs.Reports.{drill_scan}
use Rattle.pp_cmd_drill.specs.Text.{drill_header}

-- ---- what can be stated meets the conditions

step_asked : (step : Step Op) → IsStatable drill_catalog step → IsAsked objects drill_kinds step
step_asked (Begin t p None) h = tt
step_asked (Begin t p (Some b)) h = h.2.small
step_asked (App t i op) h = h.2
step_asked (Unapp t i) h = tt
step_asked (Push t i) h = tt
step_asked (Unpush t i) h = tt
step_asked (Pull t i) h = tt
step_asked (Unpull t i) h = tt
step_asked (Cmt t) h = tt
step_asked (Quit t) h = tt
step_asked (Note t) h = tt

-- The machine before the first step.
abbrev pub unmoved : Seen (List Kind) Op
unmoved = record { shape = drill_kinds; config = first None; count = 0 }

-- For n up to 20,000, each step of the run may be asked of a machine before its first step.
pub asked : (n : ℕ) (steps : List (Step Op)) (machine : Seen (List Kind) Op) → n ≤ 20_000 → steps ≡ drill_steps n → machine ≡ unmoved → (step : Step Op) → In step steps → IsAsked objects machine.shape step
asked n steps machine high is new step there =
    subst (λ (m : Seen (List Kind) Op). IsAsked objects m.shape step) (sym new)
    (step_asked step (each_in (IsStatable drill_catalog) (drill_steps n) step (steps_stated n high) (subst (λ (w : List (Step Op)). In step w) is there)))

-- ---- numbers

over : (count a b all : ℕ) → count ≡ 0 + a → all ≡ a + suc b → all ≤ 200_000 → count ≡ 200_000 → ⊥
over count a b all is parts few full = omega (arith, is, parts, few, full)

no_more : (from to a b c k s : ℕ) → to ≤ from + a → c ≡ a + b → k ≡ c → s ≡ 0 + k → to ≤ from + s
no_more from to a b c k s x y z w = omega (arith, x, y, z, w)

within : (a b most : ℕ) → a ≡ b → b ≤ most → 0 + a ≤ most
within a b most e h = omega (arith, e, h)

one_line_more : (a b c : ℕ) → a ≡ b → c ≡ 0 + b + 1 → a < c
one_line_more a b c e f = omega (arith, e, f)

module _ (n : ℕ) (low : 1 ≤ n) (high : n ≤ 20_000) where
  abbrev steps : List (Step Op)
  steps = drill_steps n

  hold : RunsFrom drill_objects (first None) steps
  hold = (drill_accepted n low high).runs

  -- ---- no step halts the machine

  module _ (from to : ℕ) (new : Seen (List Kind) Op) (step : Step Op) (behind : List (Step Op)) (done : HasDone MOST_STEPS objects unmoved steps (step ∷ behind) new from to) where
    meets : Meets drill_objects (after_from (first None) done.before) step
    meets =
        let rest = runs_back drill_objects (first None) done.before (step ∷ behind) (subst (λ (w : List (Step Op)). RunsFrom drill_objects (first None) w) done.parts hold) in
        rest.0

    breaks_none : (k : ℕ) → 0 < k → Breaks (rules_of objects new.shape) new.config step k → ⊥
    breaks_none zero some b = omega (arith, some)
    breaks_none (suc k) some b =
        never drill_objects (after_from (first None) done.before) step k meets
        (subst (λ (v : Seen (List Kind) Op). Breaks (rules_of objects v.shape) v.config step (suc k)) done.is b)

    no_halt : (halt : Halt Op) → Halts MOST_STEPS objects new step halt → ⊥
    no_halt (Failed rule k detail) h = breaks_none k h.2.1 h.2.0
    no_halt TooMany full =
        over new.count (length done.before) (length behind) (length steps) (ap (λ (v : Seen (List Kind) Op). v.count) done.is)
        (ap (λ (w : List (Step Op)). length w) done.parts ∙ length-append done.before (step ∷ behind)) (few n low high) full

  -- A machine that is driven through the steps of the run is halted by none: all are done.
  pub all_done : (from to : ℕ) (new : Seen (List Kind) Op) (halt : Option (Halt Op)) → Drives MOST_STEPS objects unmoved steps from halt new to → HasDone MOST_STEPS objects unmoved steps [] new from to
  all_done from to new None d = d
  all_done from to new (Some halt) d = absurd (no_halt from to new d.0 d.1 d.2 halt d.3)

  -- ---- where the machine is

  abbrev T : Translation Front (RunRecord Op) Op
  T = translation_of drill_header

  joined_is : joined_steps T (outset T None) (plain (lined n)) ≡ lined n
  joined_is = plain_steps place_of Rules drill_kinds (outset T None) (lined n)

  bare_is : bare (joined_steps T (outset T None) (plain (lined n))) ≡ steps
  bare_is = ap (λ (w : LinedSteps Op). bare w) joined_is ∙ same_steps n

  length_is : length (joined_steps T (outset T None) (plain (lined n))) ≡ length steps
  length_is = ap (λ (w : LinedSteps Op). length w) joined_is ∙ same_length n

  config_is : (after_records T (outset T None) (plain (lined n))).config ≡ after_from (first None) steps
  config_is = (extends_law drill_objects T).config (outset T None) (plain (lined n)) ∙ ap (λ (w : List (Step Op)). after_from (first None) w) bare_is

  abbrev moved : Seen (List Kind) Op
  moved = after_steps unmoved steps

  abbrev state : Front
  state = (after_records T (outset T None) (plain (lined n))).front

  place : standing_of state moved ≡ after_records T (outset T None) (plain (lined n))
  place = ap (λ (c : Config Op). let p : Standing Front Op = record { front = state; config = c } in p) (sym config_is)

  stands : StandsAt drill_objects T None (plain (lined n)) (standing_of state moved) moved.count
  stands =
      record {
        begun = refl;
        hold = subst (λ (w : List (Step Op)). RunsFrom drill_objects (first None) w) (sym bare_is) hold;
        place = place;
        number = counted (length steps) (length (joined_steps T (outset T None) (plain (lined n)))) length_is;
        few = within (length steps) (length steps) 200_000 refl (few n low high);
      }
    where
      counted : (a b : ℕ) → b ≡ a → 0 + a ≡ b
      counted a b e = omega (arith, e)

  plain_length : (rs : LinedSteps Op) → length (plain rs) ≡ length rs
  plain_length [] = refl
  plain_length (r ∷ rs) = ap (λ (k : ℕ). suc k) (plain_length rs)

  running : (tally : Tally) → tally.header ≡ drill_header → tally.lines ≡ moved.count + 1 → tally.begins ≡ n → IsRunning (scanned n) tally moved
  running tally header_is lines_are begins_are =
      let here : IsRunning (scanned n) (record { header = drill_header; lines = tally.lines; begins = tally.begins }) moved = record {
        follows = record {
          at = 1;
          header = refl;
          sound = refl;
          begun = begins_are ∙ sym (begun n low high);
          fewer = one_line_more (length (plain (lined n))) (length steps) tally.lines (plain_length (lined n) ∙ same_length n) lines_are;
        };
        shape = refl;
        state = state;
        stands = stands;
      } in
      subst (λ (h : Header). let t : Tally = record { header = h; lines = tally.lines; begins = tally.begins } in IsRunning (scanned n) t moved) (sym header_is) here

  module _ (from to : ℕ) (new : Seen (List Kind) Op) (halt : Option (Halt Op)) (machine : Seen (List Kind) Op) (list : List (Step Op)) (list_is : list ≡ steps) (machine_is : machine ≡ unmoved)
      (drives : Drives MOST_STEPS objects machine list from halt new to) where
    done : HasDone MOST_STEPS objects unmoved steps [] new from to
    done =
        all_done from to new halt
        (subst (λ (m : Seen (List Kind) Op). Drives MOST_STEPS objects m steps from halt new to) machine_is (subst (λ (w : List (Step Op)). Drives MOST_STEPS objects machine w from halt new to) list_is drives))

    all : done.before ≡ steps
    all = sym (done.parts ∙ append-nil done.before)

    new_is : new ≡ moved
    new_is = done.is ∙ ap (λ (w : List (Step Op)). after_steps unmoved w) all

    -- With the tally of all lines, a machine that was driven through the run is where the records lead.
    pub is_running : (catalog : Objects) (lines : ℕ) → catalog ≡ drill_catalog → lines ≡ new.count + 1 → IsRunning (drill_scan n) (record { header = rules_header catalog None; lines = lines; begins = n }) new
    is_running catalog lines over_is lines_are =
        let tally : Tally = record { header = rules_header catalog None; lines = lines; begins = n } in
        let there : IsRunning (scanned n) tally moved =
        running tally (ap (λ (c : Objects). rules_header c None) over_is) (lines_are ∙ ap (λ (m : Seen (List Kind) Op). m.count + 1) new_is) refl in
        subst (λ (sc : InputScan). IsRunning sc tally new) (sym (scan_is n low high)) (subst (λ (m : Seen (List Kind) Op). IsRunning (scanned n) tally m) (sym new_is) there)

    -- The counter rose by at least what the steps of the run cost at least.
    pub counted_least : OfRun (drill_scan n).header (drill_scan n).records (λ start ss. from + singles ss ≤ to)
    counted_least = of_run n low high (λ start ss. from + singles ss ≤ to) (subst (λ (w : List (Step Op)). from + singles w ≤ to) all done.least)

  -- ---- the cost of the run

  -- If the counter rose within the upper bound of the machine's steps, it is within that of the input.
  pub counted_most : (from to : ℕ) (machine : Seen (List Kind) Op) (list : List (Step Op)) → list ≡ steps → machine ≡ unmoved → CostAtMost MOST_STEPS objects place_of machine list from to → StepsCostAtMost (drill_scan n) from to
  counted_most from to machine list list_is machine_is cost =
      let b = subst (λ (m : Seen (List Kind) Op). CostAtMost MOST_STEPS objects place_of m steps from to) machine_is (subst (λ (w : List (Step Op)). CostAtMost MOST_STEPS objects place_of machine w from to) list_is cost) in
      let z : Config Op = first None in
      of_run n low high (λ start ss. to ≤ from + steps_at_most start ss)
      (no_more from to (most_ticks place_of z b.tried) (most_ticks place_of (after_from z b.tried) b.behind) (most_ticks place_of z (b.tried ++ b.behind)) (most_ticks place_of z steps) (steps_at_most None steps)
      b.most (most_append place_of z b.tried b.behind) (ap (λ (w : List (Step Op)). most_ticks place_of z w) b.parts) (few_steps None steps (few n low high)))
