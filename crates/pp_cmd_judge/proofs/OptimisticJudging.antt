-- What the snapshots as the engine of optimistic runs say of a start, and of a record more.
use Rattle.std.specs.Prelude.{◌≡◌, ◌≤◌, ◌<◌, ◌+◌, ◌*◌, ℕ, Bool, true, false, IsTrue, List, [], ◌∷◌, filter, length, Option, None, Some, option_map}
use Rattle.std.proofs.Common.{refl, lit≤, sym, ap, subst, ◌∙◌, arith}
use Rattle.std.proofs.lemmas.List.{length-append}
use Rattle.std.proofs.lemmas.List.Elements.{filter-append}
use mathlib.Core.Logic.{inr}
use Rattle.pp_core.specs.declared.call.Kind.{Kind}
use Rattle.pp_core.specs.declared.call.Style.{Style}
use Rattle.pp_core.specs.declared.call.Style.TheVariants as styles
use Rattle.pp_model.specs.Config.{Start, start_with}
use Rattle.pp_records.specs.Records.{RunRecord}
use Rattle.pp_records.specs.Runs.{Lined, Records, bare}
use Rattle.pp_records.proofs.Ends.{bare_append}
use Rattle.pp_format_read.specs.declared.header.Header.{Header}
use Rattle.pp_format_read.specs.declared.start.Start.{Start as HeaderStart}
use Rattle.pp_format_read.specs.Starts.{IsReadableStart}
use Rattle.pp_kind.specs.Object.{rules_of}
use Rattle.pp_laws_summary.specs.DecidedRuns.{summary_after}
use Rattle.pp_laws_summary.specs.Laws.{summing}
use Rattle.pp_laws_summary.specs.Summary.{Summary, SummaryGood}
use Rattle.pp_objects.specs.Objects.{kinds_of, objects, place_of}
use Rattle.pp_objects.specs.declared.act.Op.{Op}
use Rattle.pp_summary.specs.Held.{IsRecordAsked}
use Rattle.pp_summary.specs.Sums.{count_ops, is_op}
use Rattle.pp_objects.specs.Parts.{part_of}
use Rattle.pp_kind_parts.specs.Silent.{silent_of}
use Rattle.pp_snapshots.specs.Costs.{AreTried, records_most, take_most}
use Rattle.pp_snapshots.specs.Held.{HasStepCount, IsGoodTaken, Taken, Takes, first_taken, summary_taken}
use Rattle.pp_snapshots.proofs.Sums.{costs_of_tried}
use Rattle.pp_conflicts.specs.Conflicts.{IsConflict, IsConflictFrom}
use Rattle.pp_violations.specs.declared.violation.Violation.{Violation}
use Rattle.pp_judge.specs.Objects.{object_of, start_of}
use Rattle.pp_judge.specs.Costs.{start_at_most, start_length}
use Rattle.pp_judge.specs.Scans.{InputScan}
use Rattle.pp_judge.specs.Tallies.{headed, one_more, scan_of}
use Rattle.pp_cmd_quick.proofs.Judging.{failed_least}
use Rattle.pp_cmd_quick.proofs.Starting.{asked_record}
use Rattle.pp_cmd_quick.specs.DeciderLaws.{none_fails}
use Rattle.pp_cmd_judge.specs.BoostedCosts.{search_most}
use Rattle.pp_cmd_judge.specs.Engines.{CanTake, CostsAtMost, Finds, Found, Refuses, Starts, led}
use Rattle.pp_cmd_judge.specs.Engines as engines
use Rattle.pp_cmd_judge.specs.Optimistic.{AreTakenBehind, StartsSnapshots, optimistic_engine}
use Rattle.pp_cmd_judge.specs.OptimisticCosts.{OptimisticCostAtMost, SnapshotsCostAtMost, first_summary, snapshots_most}
use Rattle.pp_cmd_judge.specs.OptimisticLaws.{all_meet, snapshots_cost_from}
use Rattle.pp_cmd_judge.proofs.BoostedJudging.{searched, up_by}
use Rattle.pp_cmd_judge.proofs.RunJudging.{rises_twice}
use Rattle.pp_cmd_judge.proofs.OptimisticReading.{all_tried, fails_next, good_runs, next_most, refused_stays, takes_of}

-- ---- the start

with_none : (old new s : ℕ) → new ≤ old + s → new ≤ old + (s + 0)
with_none old new s x = omega (arith, x)

-- what starting Snapshots returns and makes of them, the engine returns
pub started : (h : Header) → h.style ≡ styles.Optimistic → (good : Bool) (s : Taken (List Kind) Op) → StartsSnapshots h good s → Starts optimistic_engine h good s
started h styled false s k = k
started h styled true s k =
    let kinds : List Kind = kinds_of h.catalog in
    let first : Taken (List Kind) Op = first_taken kinds (start_of h) in
    let good : AreTakenBehind h [] first = record {
      style = styled;
      shape = refl;
      taken = (takes_of kinds (start_of h)).nothing kinds k.0;
      count = lit≤ tt;
    } in
    subst (λ (t : Taken (List Kind) Op). AreTakenBehind h [] t) (sym k.1) good

-- the transaction of a start
abbrev start_from : Option HeaderStart → Option (Start Op)
start_from o = option_map (λ z. start_with z.tx z.ops) o

-- what the start costs
module _ (line : ℕ) (h : Header) (old new : ℕ) where
  one_start : (now from : ℕ) → now ≤ from + start_at_most (start_of h) → SnapshotsCostAtMost (scan_of (headed line h) []) from now
  one_start now from cost tried k = subst (λ (l : List (RunRecord Op)). now ≤ from + snapshots_most h l) (sym k) (with_none from now (start_at_most (start_of h)) cost)

  pub begun_most : new ≤ old + start_at_most (start_of h) → OptimisticCostAtMost (scan_of (headed line h) []) old new
  begun_most cost =
      let here = one_start new old cost in
      (λ good none. here, snapshots_cost_from (scan_of (headed line h) []) old (old + search_most []) new (up_by old (search_most [])) here)

  -- A start that fails is tried once more.
  pub begun_again_most : (s : Taken (List Kind) Op) (then : ℕ) → StartsSnapshots h false s → IsReadableStart h.catalog h.start
      → new ≤ old + start_at_most (start_of h) → then ≤ new + start_length (start_of h) → OptimisticCostAtMost (scan_of (headed line h) []) old then
  begun_again_most s then bad readable cost again = (
    λ good none. absurd (bad good),
    one_start then (old + search_most []) (again_within h.start readable cost again),
  )
    where
      again_there : (n most : ℕ) → n ≤ 256 → new ≤ old + most → then ≤ new + n → then ≤ old + (0 + 256) + most
      again_there n most few x y = omega (arith, few, x, y)

      again_within : (o : Option HeaderStart) → IsReadableStart h.catalog o → new ≤ old + start_at_most (start_from o) → then ≤ new + start_length (start_from o) → then ≤ old + search_most [] + start_at_most (start_from o)
      again_within None k x y = again_there 0 0 (lit≤ tt) x y
      again_within (Some z) k x y = again_there (length z.ops) (2 * length z.ops) k.few x y

-- ---- a record

tried_next : (old now new s m t u n : ℕ) → now ≤ old + (s + m) → m + u ≤ n → t ≡ u → new ≤ now + t → new ≤ old + (s + n)
tried_next old now new s m t u n x y e z = omega (arith, x, y, e, z)

ops_next : (old now new a b both : ℕ) → old + a ≤ now → now + b ≤ new → both ≡ a + b → old + both ≤ new
ops_next old now new a b both x y e = omega (arith, x, y, e)

-- the operations of one record more
one_more_ops : (rs : Records (RunRecord Op)) (line : ℕ) (r : RunRecord Op) → count_ops (bare (one_more rs line r)) ≡ count_ops (bare rs) + count_ops (r ∷ [])
one_more_ops rs line r =
    let it : Lined (RunRecord Op) = record { line = line; what = r } in
    ap (λ (l : List (RunRecord Op)). count_ops l) (bare_append rs (it ∷ []))
    ∙ ap (λ (l : List (RunRecord Op)). length l) (filter-append is_op (bare rs) (r ∷ []))
    ∙ length-append (filter is_op (bare rs)) (filter is_op (r ∷ []))

module _ (s : Taken (List Kind) Op) (r : RunRecord Op) where
  -- a record that was read may be asked of Snapshots that took others of its run
  pub asked : CanTake optimistic_engine s r → IsRecordAsked objects s.shape r
  asked can = asked_record can.header.catalog s.shape r can.good.shape can.readable

  -- Snapshots that may take one more record have taken fewer than 2_147_483_646
  pub few : CanTake optimistic_engine s r → s.count < 2_147_483_646
  few can = small s.count (length can.records) can.good.taken.count can.few
    where
      small : (count n : ℕ) → count ≡ n → n < 2_147_483_646 → count < 2_147_483_646
      small count n x y = omega (arith, x, y)

  -- the number of steps that Snapshots find in a record is that of the steps that the record means
  pub has_steps : (n : ℕ) → HasStepCount objects place_of s r n → engines.HasSteps optimistic_engine s r n
  has_steps n has h rs c = subst (λ (z : Style). n ≡ length (engines.own h rs z r)) (sym c.style) (has (led h rs styles.Optimistic) c.taken.taken)

  -- a conflict for Snapshots is the first step of the record that violates a criterion
  pub finds : (x : Violation Op) → IsConflict objects place_of s r x → Finds optimistic_engine s r x
  finds x is h rs c =
      let v : IsConflictFrom objects place_of s r x (led h rs styles.Optimistic) = is (led h rs styles.Optimistic) c.taken.taken in
      let there : Found h rs r x s.shape styles.Optimistic = (v.step, v.number, v.fails, v.rule, v.criterion, v.detail) in
      subst (λ (z : Style). Found h rs r x (kinds_of h.catalog) z) (sym c.style) (subst (λ (shape : List Kind). Found h rs r x shape styles.Optimistic) c.shape there)

  module _ (now new : ℕ) (cost : new ≤ now + take_most place_of part_of silent_of (summary_taken [] s) r) where
    -- what the records and this one cost at most, without the search
    here_most : (h : Header) (rs : Records (RunRecord Op)) → AreTakenBehind h rs s → (at line old : ℕ) → OptimisticCostAtMost (scan_of (headed at h) rs) old now → SnapshotsCostAtMost (scan_of (headed at h) (one_more rs line r)) old new
    here_most h rs c at line old most tried k =
        let B = first_summary h in
        let it : Lined (RunRecord Op) = record { line = line; what = r } in
        let all = all_meet h rs s c in
        let here : now ≤ old + snapshots_most h (bare rs) = most.0 all.0 (λ q f. none_fails (headed at h) rs q.line all (inr (q, f, refl))) (bare rs) (all_tried h rs s c) in
        let parted = subst (λ (l : List (RunRecord Op)). AreTried (object_of h) place_of B l tried) (bare_append rs (it ∷ [])) k in
        let law = (costs_of_tried (object_of h) place_of part_of silent_of).next B (bare rs) [] tried r (good_runs h rs s c) parted in
        tried_next old now new (start_at_most (start_of h)) (records_most place_of part_of silent_of B (bare rs)) (take_most place_of part_of silent_of (summary_taken [] s) r)
        (take_most place_of part_of silent_of (summary_after (summing styles.Optimistic (object_of h) place_of) B (bare rs)) r) (records_most place_of part_of silent_of B tried) here law (next_most h rs s c r) cost

    -- what it costs to take a record, good or not, is within the bound on the counter
    pub takes_most : CostsAtMost optimistic_engine s r now new
    takes_most h rs c at line old most =
        let sc : InputScan = scan_of (headed at h) (one_more rs line r) in
        let here : SnapshotsCostAtMost sc old new = here_most h rs c at line old most in
        (λ good none. here, snapshots_cost_from sc old (old + search_most sc.records) new (up_by old (search_most sc.records)) here)

    -- if Snapshots do not take a record, they have the same summary, and the record is the first of which a step violates a criterion
    refuses : (next : Taken (List Kind) Op) → CanTake optimistic_engine s r → Takes objects place_of s r false next → now ≤ new → Refuses optimistic_engine s r next now new
    refuses next can takes rises = record {
      stays = λ h rs c. refused_stays h rs s c (record { line = 0; what = r }) next takes;
      fails = λ h rs c line. fails_next h rs s c (record { line = line; what = r }) next can.styled takes;
      refused = λ p held runs.
          let good : IsGoodTaken objects place_of p.front.kinds next r =
          ((takes_of (kinds_of can.header.catalog) (start_of can.header)).good next p r can.styled held).1 runs in
          takes.0 p.front.kinds
          (subst (λ (B : Summary Op). SummaryGood styles.Optimistic (rules_of objects s.shape) place_of B r) (takes.1.summary p.front.kinds)
          (subst (λ (k : List Kind). SummaryGood styles.Optimistic (rules_of objects k) place_of (summary_taken p.front.kinds next) r) takes.1.shape good));
      most = λ h rs c at line old then search most.
          let it : Lined (RunRecord Op) = record { line = line; what = r } in
          let sc : InputScan = scan_of (headed at h) (one_more rs line r) in
          let here : SnapshotsCostAtMost sc old new = here_most h rs c at line old most in (
            λ good none. absurd (none it (fails_next h rs s c it next can.styled takes)),
            λ tried k. searched old new then (snapshots_most h tried) next.count (length rs) (length sc.records) (here tried k) search
                (takes.1.count ∙ c.taken.count) (length-append rs (it ∷ [])),
          );
      least = λ h rs c at line old then later least. failed_least (headed at h) rs (record { line = line; what = r }) old now then least (rises_twice now new then rises later);
    }

    -- what taking a record returns and makes of Snapshots, the engine returns
    pub takes : (good : Bool) (next : Taken (List Kind) Op) → CanTake optimistic_engine s r → Takes objects place_of s r good next → (IsTrue good → now + count_ops (r ∷ []) ≤ new) → now ≤ new
        → engines.Takes optimistic_engine s r good next now new
    takes true next can t costs rises = record {
      good = λ h rs c line. record {
        style = c.style;
        shape = t.1.shape ∙ c.shape;
        taken = (takes_of (kinds_of h.catalog) (start_of h)).more rs (record { line = line; what = r }) s next can.styled c.taken t;
        count = one_less next.count s.count t.1.count (few can);
      };
      least = λ h rs c at line old least. ops_next old now new (count_ops (bare rs)) (count_ops (r ∷ [])) (count_ops (bare (one_more rs line r))) least (costs refl) (one_more_ops rs line r);
    }
      where
        one_less : (next count : ℕ) → next ≡ count + 1 → count < 2_147_483_646 → next ≤ 2_147_483_646
        one_less next count x y = omega (arith, x, y)
    takes false next can t costs rises = refuses next can t rises
