-- What an engine with its number of steps says of a start, and of a record more.
use Rattle.std.specs.Prelude.{◌≡◌, ◌≤◌, ◌<◌, ◌+◌, ◌*◌, ℕ, true, false, [], ◌∷◌, ◌++◌, length, Result, Ok, Err, IfOk}
use Rattle.std.proofs.Common.{refl, sym, ap, subst, ◌∙◌, arith, length-append}
use mathlib.Core.Logic.{inl, inr}
use Rattle.pp_core.specs.declared.call.Style.{Style}
use Rattle.pp_core.specs.declared.call.Style.TheVariants as styles
use Rattle.pp_records.specs.Expansions.{IsOfStyle}
use Rattle.pp_records.specs.Records.{RunRecord}
use Rattle.pp_records.specs.Runs.{Lined}
use Rattle.pp_format_read.specs.declared.header.Header.{Header}
use Rattle.pp_format_read.specs.Records.{IsReadable}
use Rattle.pp_objects.specs.Objects.{kinds_of}
use Rattle.pp_objects.specs.declared.act.Op.{Op}
use Rattle.pp_violations.specs.declared.violation.Violation.{Violation}
use Rattle.pp_judge.proofs.DrivenSteps as driven
use Rattle.pp_judge.specs.Judging.{CostsAtMostThere, Judges, MayTake}
use Rattle.pp_judge.specs.Objects.{object_of, start_of, translation_of}
use Rattle.pp_judge.specs.Tallies.{headed, one_more, scan_of}
use Rattle.pp_judge.specs.declared.driven.Rejection.{Rejection}
use Rattle.pp_judge.specs.declared.judge.Judged.TheVariants.{Good, Rejected}
use Rattle.pp_cmd_quick.proofs.Judging as quick
use Rattle.pp_cmd_quick.specs.Decisions.{steps_behind}
use Rattle.pp_cmd_judge.specs.Costs.{JudgedCostAtMost, StyleCostAtMost, StyleGoodCostAtLeast, StyleRejectedCostAtLeast}
use Rattle.pp_cmd_judge.specs.EngineLaws.{EngineLaws}
use Rattle.pp_cmd_judge.specs.Engines.{AreCounted, CanTake, CostsAtMost, EngineOf, Finds, Found, HasSteps, Refuses, Starts, TakesGood, own}
use Rattle.pp_cmd_judge.specs.Rejections.{IsRejectedBehind}
use Rattle.pp_cmd_judge.specs.StyleJudging.{IsGoodBy, IsRejectedBy, style_judging}
use Rattle.pp_cmd_judge.specs.StyleLaws.{any_few, any_style_of}
use Rattle.pp_cmd_judge.specs.declared.run_judge.RunJudge.{RunJudge}
use Rattle.pp_cmd_judge.proofs.Ending.{count_next}
use Rattle.pp_cmd_judge.proofs.Violating.{found_below, rejected_by, rejection_by}

-- ---- what a start costs at least

-- a counter that does not fall meets the lower bound of an accepted header without records, in every style
pub begun_good_least : (s : Style) (line : ℕ) (h : Header) (old new : ℕ) → old ≤ new → StyleGoodCostAtLeast s (scan_of (headed line h) []) old new
begun_good_least styles.Rules line h old new rises = driven.begun_good_least line h old new rises
begun_good_least styles.Boosted line h old new rises = quick.begun_good_least line h old new rises
begun_good_least styles.Optimistic line h old new rises = quick.begun_good_least line h old new rises
begun_good_least styles.Hardware line h old new rises = driven.begun_good_least line h old new rises
begun_good_least styles.Dependent line h old new rises = driven.begun_good_least line h old new rises

-- a counter that does not fall meets the lower bound of a rejected header without records, in every style
pub begun_bad_least : (s : Style) (line : ℕ) (h : Header) (old new : ℕ) → old ≤ new → StyleRejectedCostAtLeast s (scan_of (headed line h) []) old new
begun_bad_least styles.Rules line h old new rises = driven.begun_bad_least line h old new rises
begun_bad_least styles.Boosted line h old new rises = quick.begun_bad_least line h old new
begun_bad_least styles.Optimistic line h old new rises = quick.begun_bad_least line h old new
begun_bad_least styles.Hardware line h old new rises = driven.begun_bad_least line h old new rises
begun_bad_least styles.Dependent line h old new rises = driven.begun_bad_least line h old new rises

-- ---- numbers

nothing_yet : (n : ℕ) → 0 ≤ 6_442_451_713 * n
nothing_yet n = omega arith

added : (steps more all own both : ℕ) → steps ≡ all → more ≡ own → both ≡ all + own → steps + more ≡ both
added steps more all own both x y z = omega (arith, x, y, z)

more_room : (steps more count next : ℕ) → steps ≤ 6_442_451_713 * count → more ≤ 6_442_451_713 → next ≡ count + 1 → steps + more ≤ 6_442_451_713 * next
more_room steps more count next x y z = omega (arith, x, y, z)

few_steps : (steps count : ℕ) → steps ≤ 6_442_451_713 * count → count < 2_147_483_646 → steps ≤ 13_835_059_693_812_185_598
few_steps steps count x y = omega (arith, x, y)

below : (n : ℕ) → n + 1 < 2_147_483_647 → n < 2_147_483_646
below n x = omega (arith, x)

-- a counter that does not fall, and then does not fall again, is not below where it was
pub rises_twice : (now new then : ℕ) → now ≤ new → new ≤ then → now ≤ then
rises_twice now new then x y = omega (arith, x, y)

module _ {E : Type 0} (W : EngineOf E) (laws : EngineLaws W) where
  -- ---- the start

  module _ (line : ℕ) (h : Header) (styled : h.style ≡ W.style) where
    -- if the start meets its criteria, the header is good without records: its judge is the engine that started, with 0 steps
    pub begun_good : (engine : E) → Starts W h true engine → IsGoodBy (headed line h) [] (W.wrap (record { engine = engine; steps = 0 }))
    begun_good engine good =
        let counted : AreCounted W h [] (record { engine = engine; steps = 0 }) = record { good = good; steps = refl; few = nothing_yet 0 } in
        laws.good (headed line h) [] (record { engine = engine; steps = 0 }) counted

    -- if it does not, the judge rejects it by any rejection on its line that the run ends with
    pub begun_bad : (engine : E) (rejection : Rejection) → Starts W h false engine → rejection.line ≡ line → IsRejectedBehind (headed line h) [] rejection → IsRejectedBy (headed line h) [] rejection
    begun_bad engine rejection bad is rejected = record {
      fails = inl (bad, is);
      rejected = rejected;
      few = λ more line over. bad over.1;
    }

    -- the bound of the engine's style is that of the header's
    pub begun_most : (old new : ℕ) → StyleCostAtMost W.style (scan_of (headed line h) []) old new → JudgedCostAtMost (scan_of (headed line h) []) old new
    begun_most old new cost = subst (λ (s : Style). StyleCostAtMost s (scan_of (headed line h) []) old new) (sym styled) cost

  -- ---- a record

  module _ (h : Header) (judge : RunJudge E) (may : MayTake style_judging h (W.wrap judge)) where
    -- what the judge has taken
    taken : AreCounted W h may.1 judge
    taken = laws.own_good (headed may.0 h) may.1 judge may.2

    -- if the judge may take one more record, the engine in it can
    pub can_take : (r : RunRecord Op) → IsReadable h.catalog r → IsOfStyle h.style r → CanTake W judge.engine r
    can_take r readable styled = record {
      header = h;
      records = may.1;
      good = taken.good;
      few = below (length may.1) may.3;
      readable = readable;
      styled = subst (λ (s : Style). IsOfStyle s r) (laws.style h may.1 judge.engine taken.good) styled;
    }

    -- a judge that may take one more record has counted at most 13_835_059_693_812_185_598 steps
    pub steps_fit : judge.steps ≤ 13_835_059_693_812_185_598
    steps_fit = few_steps judge.steps (length may.1) taken.few (below (length may.1) may.3)

    -- the place of a violation, found in a record that the engine did not take, is below the number of steps of the record
    pub offset_fits : (r : RunRecord Op) (next : E) (x : Violation Op) (more now new : ℕ) → Refuses W judge.engine r next now new → Finds W next r x → HasSteps W judge.engine r more → x.offset < more
    offset_fits r next x more now new refuses finds has =
        subst (λ (m : ℕ). x.offset < m) (sym (has h may.1 taken.good)) (found_below h may.1 r x (finds h may.1 (refuses.stays h may.1 taken.good)))

  -- an engine that did not take a record can be asked for the step that violates a criterion
  pub can_find : (engine : E) (r : RunRecord Op) (next : E) (now new : ℕ) → CanTake W engine r → Refuses W engine r next now new → CanTake W next r
  can_find engine r next now new can refuses = record {
    header = can.header;
    records = can.records;
    good = refuses.stays can.header can.records can.good;
    few = can.few;
    readable = can.readable;
    styled = can.styled;
  }

  module _ (h : Header) (judge : RunJudge E) (r : RunRecord Op) (line now new : ℕ) where
    -- what it costs to take a record, good or not, is within the judge's bound on the counter
    pub judges_most : CostsAtMost W judge.engine r now new → CostsAtMostThere style_judging h (W.wrap judge) r line now new
    judges_most cost at rs good old most =
        let c = laws.own_good (headed at h) rs judge good in
        let is = laws.style h rs judge.engine c.good in
        subst (λ (s : Style). StyleCostAtMost s (scan_of (headed at h) (one_more rs line r)) old new) (sym is)
        (cost h rs c.good at line old (subst (λ (s : Style). StyleCostAtMost s (scan_of (headed at h) rs) old now) is most))

    -- for a record that is not good, what it costs to try it and then to search its violation is within that bound
    pub searched_most : (next : E) (then : ℕ) → Refuses W judge.engine r next now new → then ≤ new + W.search next → CostsAtMostThere style_judging h (W.wrap judge) r line now then
    searched_most next then refuses search at rs good old most =
        let c = laws.own_good (headed at h) rs judge good in
        let is = laws.style h rs judge.engine c.good in
        subst (λ (s : Style). StyleCostAtMost s (scan_of (headed at h) (one_more rs line r)) old then) (sym is)
        (refuses.most h rs c.good at line old then search (subst (λ (s : Style). StyleCostAtMost s (scan_of (headed at h) rs) old now) is most))

    -- if the engine takes a record, the judge of one more record is the engine that follows, with the steps of the record added
    pub judges_good : (next : E) (more : ℕ) → TakesGood W judge.engine r next now new → HasSteps W judge.engine r more → more ≤ 6_442_451_713
        → Judges style_judging h (W.wrap judge) r line (Good (W.wrap (record { engine = next; steps = judge.steps + more }))) now new
    judges_good next more takes has few = record {
      is = λ at rs good.
          let c = laws.own_good (headed at h) rs judge good in
          let it : Lined (RunRecord Op) = record { line = line; what = r } in
          let all = count_next (object_of h) (translation_of h) (start_of h) rs it in
          let counted : AreCounted W h (rs ++ it ∷ []) (record { engine = next; steps = judge.steps + more }) = record {
            good = takes.good h rs c.good line;
            steps = added judge.steps more (length (steps_behind h rs)) (length (own h rs h.style r)) (length (steps_behind h (rs ++ it ∷ []))) c.steps (has h rs c.good) all;
            few = more_room judge.steps more (length rs) (length (rs ++ it ∷ [])) c.few few (length-append rs (it ∷ []));
          } in
          laws.good (headed at h) (rs ++ it ∷ []) (record { engine = next; steps = judge.steps + more }) counted;
      least = λ at rs good old least.
          let c = laws.own_good (headed at h) rs judge good in
          let is = laws.style h rs judge.engine c.good in
          subst (λ (s : Style). StyleGoodCostAtLeast s (scan_of (headed at h) (one_more rs line r)) old new) (sym is)
          (takes.least h rs c.good at line old (subst (λ (s : Style). StyleGoodCostAtLeast s (scan_of (headed at h) rs) old now) is least));
    }

    -- if the engine does not take a record, the judge rejects the run by the violation that is found in the record
    pub judges_bad : (next : E) (x : Violation Op) (then : ℕ) → Refuses W judge.engine r next now new → new ≤ then → IsReadable h.catalog r → Finds W next r x
        → Judges style_judging h (W.wrap judge) r line (Rejected (rejection_by judge.steps line x)) now then
    judges_bad next x then refuses rises readable finds = record {
      is = λ at rs good.
          let c = laws.own_good (headed at h) rs judge good in
          let found : Found h rs r x (kinds_of h.catalog) h.style = finds h rs (refuses.stays h rs c.good) in
          record {
            fails = inr (record { line = line; what = r }, refuses.fails h rs c.good line, refl);
            rejected = rejected_by h rs r x judge.steps c.steps (laws.hold h rs judge.engine c.good) found at line readable;
            few = λ more. any_few (headed at h) (any_style_of W laws h rs judge c) (one_more rs line r ++ more);
          };
      least = λ at rs good old least.
          let c = laws.own_good (headed at h) rs judge good in
          let is = laws.style h rs judge.engine c.good in
          subst (λ (s : Style). StyleRejectedCostAtLeast s (scan_of (headed at h) (one_more rs line r)) old then) (sym is)
          (refuses.least h rs c.good at line old then rises (subst (λ (s : Style). StyleGoodCostAtLeast s (scan_of (headed at h) rs) old now) is least));
    }

-- ---- one result in two ways

-- two facts of the same value, if there is one
pub ok_both : {T X : Type 0} (r : Result T X) (P Q : T → Type 0) → IfOk r P → IfOk r Q → IfOk r (λ x. P x × Q x)
ok_both (Ok x) P Q p q = (p, q)
ok_both (Err e) P Q p q = tt
