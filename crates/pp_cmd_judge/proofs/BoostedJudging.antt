-- What the summary as the engine of boosted runs says of a start, and of a record more.
use Rattle.std.specs.Prelude.{◌≡◌, ◌≤◌, ◌<◌, ◌+◌, ◌*◌, ℕ, Bool, true, false, List, [], ◌∷◌, length, Option, None, Some}
use Rattle.std.proofs.Common.{refl, sym, ap, subst, ◌∙◌, arith, length-append}
use mathlib.Core.Logic.{inr}
use Rattle.pp_core.specs.declared.call.Kind.{Kind}
use Rattle.pp_core.specs.declared.call.Style.{Style}
use Rattle.pp_core.specs.declared.call.Style.TheVariants as styles
use Rattle.pp_model.specs.Config.{Start}
use Rattle.pp_records.specs.Records.{RunRecord}
use Rattle.pp_records.specs.Runs.{Lined, Records}
use Rattle.pp_format_read.specs.declared.header.Header.{Header}
use Rattle.pp_objects.specs.Objects.{kinds_of, objects, place_of}
use Rattle.pp_objects.specs.declared.act.Op.{Op}
use Rattle.pp_summary.specs.Held.{HasSteps, Held, IsRecordAsked, TakeCosts, Takes, take_most}
use Rattle.pp_violations.specs.Violations.{IsRefused, IsViolation, IsViolationFrom}
use Rattle.pp_violations.specs.declared.violation.Violation.{Violation}
use Rattle.pp_judge.specs.Judging.{Judges}
use Rattle.pp_judge.specs.Costs.{start_at_most, start_length}
use Rattle.pp_judge.specs.Objects.{start_of}
use Rattle.pp_judge.specs.Scans.{InputScan}
use Rattle.pp_judge.specs.Tallies.{headed, one_more, scan_of}
use Rattle.pp_judge.specs.declared.judge.Judged.TheVariants.{Good}
use Rattle.pp_cmd_quick.proofs.Judging.{failed_least, judges_good, judges_most}
use Rattle.pp_cmd_quick.proofs.Judging as quick
use Rattle.pp_cmd_quick.proofs.Readers.{fails_next}
use Rattle.pp_cmd_quick.specs.Costs.{RecordsCostAtMost, tried_most}
use Rattle.pp_cmd_quick.proofs.Starting.{asked_record}
use Rattle.pp_cmd_quick.specs.DeciderLaws.{all_hold, none_fails}
use Rattle.pp_cmd_quick.specs.Decisions.{is_boosted}
use Rattle.pp_cmd_quick.specs.Taking.{AreGoodBehind, StartsQuick, quick_judging}
use Rattle.pp_cmd_judge.specs.Boosted.{boosted_engine}
use Rattle.pp_cmd_judge.specs.BoostedCosts.{BoostedCostAtMost, search_most}
use Rattle.pp_cmd_judge.specs.BoostedLaws.{cost_from}
use Rattle.pp_cmd_judge.specs.Engines.{CanTake, CostsAtMost, Finds, Found, Refuses, Starts, led}
use Rattle.pp_cmd_judge.specs.Engines as engines
use Rattle.pp_cmd_judge.proofs.RunJudging.{rises_twice}

-- ---- the start

-- a counter that rises is not below where it was
pub up_by : (old more : ℕ) → old ≤ old + more
up_by old more = omega arith

-- what starting a Quick returns and makes of it, the engine returns
pub started : (h : Header) → h.style ≡ styles.Boosted → (good : Bool) (q : Held (List Kind) Op) → StartsQuick h good q → Starts boosted_engine h good q
started h styled true q s = quick.begun_good 0 h (ap (λ (s : Style). is_boosted s) styled) q s
started h styled false q s = s

-- what the start costs, if it is asked once, or twice since it fails
module _ (line : ℕ) (h : Header) (old new : ℕ) where
  -- a start that costs one for each of its operations, at most, is within the bound on the counter
  pub begun_most : new ≤ old + start_length (start_of h) → BoostedCostAtMost (scan_of (headed line h) []) old new
  begun_most cost =
      let here = quick.begun_most line h old new cost in
      (λ none. here, cost_from (scan_of (headed line h) []) old (old + search_most []) new (up_by old (search_most [])) here)

  -- a start that costs one for each of its operations, at most, and then as much again, is within the bound on the counter
  pub begun_again_most : (then : ℕ) → new ≤ old + start_length (start_of h) → then ≤ new + start_length (start_of h) → BoostedCostAtMost (scan_of (headed line h) []) old then
  begun_again_most then cost again =
      let here = quick.begun_twice line h old then (twice (start_of h) cost again) in
      (λ none. here, cost_from (scan_of (headed line h) []) old (old + search_most []) then (up_by old (search_most [])) here)
    where
      twice : (z : Option (Start Op)) → new ≤ old + start_length z → then ≤ new + start_length z → then ≤ old + start_at_most z
      twice None x y = omega (arith, x, y)
      twice (Some z) x y = again_there (length z.items) x y
        where
          again_there : (n : ℕ) → new ≤ old + n → then ≤ new + n → then ≤ old + 2 * n
          again_there n x y = omega (arith, x, y)

-- ---- a record

-- the number of records that were taken is far from its limit
pub fewer : (count n : ℕ) → count ≡ n → n < 2_147_483_646 → count < 4_294_967_294
fewer count n x y = omega (arith, x, y)

-- what records cost at most, and then the search
pub searched : (old new then most count so_far many : ℕ) → new ≤ old + most → then ≤ new + (count + 256) → count ≡ so_far → many ≡ so_far + 1 → then ≤ old + (many + 256) + most
searched old new then most count so_far many x y z w = omega (arith, x, y, z, w)

module _ (q : Held (List Kind) Op) (r : RunRecord Op) where
  -- a record that was read may be asked of a Quick that took others of its run
  pub asked : CanTake boosted_engine q r → IsRecordAsked objects q.shape r
  asked can = asked_record can.header.catalog q.shape r can.good.shape can.readable

  -- a Quick that may take one more record has taken fewer than 4_294_967_294
  pub few : CanTake boosted_engine q r → q.count < 4_294_967_294
  few can = fewer q.count (length can.records) can.good.read.count can.few

  -- the number of steps that a Quick finds in a record is that of the steps that the record means
  pub has_steps : (n : ℕ) → HasSteps objects place_of q r n → engines.HasSteps boosted_engine q r n
  has_steps n has h rs c =
      let p = led h rs styles.Boosted in
      subst (λ (s : Style). n ≡ length (engines.own h rs s r)) (sym c.style) (has p.front p.config c.read.held)

  -- a violation for a Quick is the first step of the record that violates a criterion
  pub finds : (x : Violation Op) → IsViolation objects place_of q r x → Finds boosted_engine q r x
  finds x is h rs c =
      let p = led h rs styles.Boosted in
      let v : IsViolationFrom objects place_of q r x p.front p.config = is p.front p.config c.read.held in
      let there : Found h rs r x q.shape styles.Boosted = (v.step, v.number, v.fails, v.rule, v.criterion, v.detail) in
      subst (λ (s : Style). Found h rs r x (kinds_of h.catalog) s) (sym c.style) (subst (λ (shape : List Kind). Found h rs r x shape styles.Boosted) c.shape there)

  module _ (now new : ℕ) (cost : new ≤ now + take_most q.brief r) where
    -- without the search
    here_most : (h : Header) (rs : Records (RunRecord Op)) → AreGoodBehind h rs q → (at line old : ℕ) → BoostedCostAtMost (scan_of (headed at h) rs) old now → RecordsCostAtMost (scan_of (headed at h) (one_more rs line r)) old new
    here_most h rs c at line old most =
        judges_most h (record { quick = q }) r line now new cost at rs c old (most.0 (λ r f. none_fails (headed at h) rs r.line (all_hold h rs q c) (inr (r, f, refl))))

    -- what it costs to take a record, good or not, is within the bound on the counter
    pub counts_most : CostsAtMost boosted_engine q r now new
    counts_most h rs c at line old most =
        let sc : InputScan = scan_of (headed at h) (one_more rs line r) in
        let here : RecordsCostAtMost sc old new = here_most h rs c at line old most in
        (λ none. here, cost_from sc old (old + search_most sc.records) new (up_by old (search_most sc.records)) here)

    -- if a Quick does not take a record, it is as it was, and the record is the first of which a step violates a criterion
    refuses : (next : Held (List Kind) Op) → CanTake boosted_engine q r → Takes objects place_of q r false next → now ≤ new → Refuses boosted_engine q r next now new
    refuses next can takes rises = record {
      stays = λ h rs c. subst (λ (v : Held (List Kind) Op). AreGoodBehind h rs v) (sym (unchanged h rs c)) c;
      fails = λ h rs c line. fails_next h rs q c (record { line = line; what = r }) next takes;
      refused = subst (λ (v : Held (List Kind) Op). IsRefused objects place_of v r) (sym (unchanged can.header can.records can.good)) (λ f c held. (takes f c held).0);
      most = λ h rs c at line old then search most.
          let it : Lined (RunRecord Op) = record { line = line; what = r } in
          let sc : InputScan = scan_of (headed at h) (one_more rs line r) in
          let here : RecordsCostAtMost sc old new = here_most h rs c at line old most in (
            λ none. absurd (none it (fails_next h rs q c it next takes)),
            λ tried k. searched old new then (tried_most h tried) next.count (length rs) (length sc.records) (here tried k) search
                (ap (λ (v : Held (List Kind) Op). v.count) (unchanged h rs c) ∙ c.read.count) (length-append rs (it ∷ [])),
          );
      least = λ h rs c at line old then later least. failed_least (headed at h) rs (record { line = line; what = r }) old now then least (rises_twice now new then rises later);
    }
      where
        unchanged : (h : Header) (rs : Records (RunRecord Op)) → AreGoodBehind h rs q → next ≡ q
        unchanged h rs c = let p = led h rs styles.Boosted in (takes p.front p.config c.read.held).1

    -- what taking a record returns and makes of a Quick, the engine returns
    pub takes : (good : Bool) (next : Held (List Kind) Op) → CanTake boosted_engine q r → Takes objects place_of q r good next → next.shape ≡ q.shape → TakeCosts q.brief r good now new → now ≤ new
        → engines.Takes boosted_engine q r good next now new
    takes true next can t shape costs rises =
        let judges : (h : Header) (line : ℕ) → Judges quick_judging h (record { quick = q }) r line (Good (record { quick = next })) now new =
        λ h line. judges_good h (record { quick = q }) r line now new next (few can) can.styled t shape costs in
        record {
          good = λ h rs c line. (judges h line).is 0 rs c;
          least = λ h rs c at line old least. (judges h line).least at rs c old least;
        }
    takes false next can t shape costs rises = refuses next can t rises
