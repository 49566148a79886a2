-- What Snapshots that take the records of a run, one after another, say of the run.
use Rattle.std.proofs.Common.{◌≡◌, ◌↔◌, ◌+◌, ℕ, true, false, List, [], ◌∷◌, ◌++◌, map, Option, None, Some, refl, sym, ap, subst, ◌∙◌, append-nil, length-append}
use Rattle.pp_core.specs.declared.call.Kind.{Kind}
use Rattle.pp_core.specs.declared.call.Style.TheVariants.{Optimistic}
use Rattle.pp_kind.specs.Object.{IsLawful, IsPlaced, Object, rules_of}
use Rattle.pp_kind.proofs.Places.{tells_states}
use Rattle.pp_model.specs.Config.{Config, SharedEntry, Start, after, as_shared, first}
use Rattle.pp_model.specs.Lists.{Each}
use Rattle.pp_model.specs.Rules.{Accepted, IsVerdict, RunsFrom, StartMeets}
use Rattle.pp_model.specs.Serial.{attempts, committed_tx}
use Rattle.pp_model.proofs.Simulate.{finished_are}
use Rattle.pp_model.proofs.Verdict.{accepted_iff}
use Rattle.pp_records.specs.Expansions.{IsOfStyle}
use Rattle.pp_records.specs.Fronts.{Front, new_front}
use Rattle.pp_records.specs.Records.{RunRecord}
use Rattle.pp_records.specs.Runs.{Lined, Records, Standing, Translation, after_record, bare, outset, steps_at}
use Rattle.pp_records.proofs.Ends.{bare_append}
use Rattle.pp_records.proofs.Whole.{led_config, led_more}
use Rattle.pp_laws_summary.specs.DecidedRuns.{GoodRuns, summary_after}
use Rattle.pp_laws_summary.specs.Laws.{SummariesDecide, summing}
use Rattle.pp_laws_summary.specs.LocalLogs.{Summable}
use Rattle.pp_laws_summary.specs.Summary.{Summary, SummaryGood, next_summary, summary_of}
use Rattle.pp_laws_summary.proofs.LocalRecords.{keeps}
use Rattle.pp_laws_summary.proofs.Placed.{parts_of}
use Rattle.pp_laws_summary.proofs.SummaryRuns.{decided}
use Rattle.pp_summary.specs.Failures.{FailsIn, all_steps, standing_after}
use Rattle.pp_summary.proofs.Failures.{hold_next}
use Rattle.pp_snapshots.specs.Held.{IsGoodTaken, IsTakenOf, Taken, Takes, first_taken, summary_taken}
use Rattle.pp_snapshots.specs.Runs.{AreOptimistic, IsOptimistic, IsTakenAfter, TakesRuns, optimism}
use Rattle.pp_snapshots.specs.Costs.{AreTried}
use Rattle.pp_snapshots.proofs.Moving.{kinds_stay}
use Rattle.pp_snapshots.proofs.Sums.{tried_all, tried_to}

-- one record more of an optimistic run
optimistic_more : {Op : Type 0} (xs : Records (RunRecord Op)) (r : Lined (RunRecord Op)) → AreOptimistic xs → IsOptimistic r.what → AreOptimistic (xs ++ r ∷ [])
optimistic_more [] r h b = (b, tt)
optimistic_more (x ∷ xs) r h b = (h.0, optimistic_more xs r h.1 b)

-- the first records of an optimistic run, and the next one
optimistic_to : {Op : Type 0} (xs : Records (RunRecord Op)) (r : Lined (RunRecord Op)) (ys : Records (RunRecord Op)) → AreOptimistic (xs ++ r ∷ ys) → AreOptimistic xs × IsOptimistic r.what
optimistic_to [] r ys h = (tt, h.0)
optimistic_to (x ∷ xs) r ys h = let k = optimistic_to xs r ys h.1 in ((h.0, k.0), k.1)

module _ {Shape State Op Undo : Type 0} (o : Object Shape State Op Undo) (place : Op → ℕ) (SameAt : ℕ → State → State → Type 0) (laws : IsLawful o) (places : IsPlaced o place SameAt) (ks : List Kind) (h : Option (Start Op)) where
  abbrev T : Translation Front (RunRecord Op) Op
  T = optimism place ks

  decides : (shape : Shape) → SummariesDecide Optimistic (rules_of o shape) place
  decides shape = decided Optimistic tt (rules_of o shape) place (parts_of o place SameAt laws places shape) (tells_states o laws shape)

  started : (shape : Shape) → StartMeets (rules_of o shape) h → Summable (rules_of o shape) place (new_front ks) (first h)
  started shape m = (keeps Optimistic tt (rules_of o shape) place (parts_of o place SameAt laws places shape)).start ks h m

  good : (s : Taken Shape Op) (p : Standing Front Op) (r : RunRecord Op) → IsOptimistic r → IsTakenOf o place s p →
      IsGoodTaken o place p.front.kinds s r ↔ RunsFrom (rules_of o s.shape) p.config (steps_at T p r)
  good s p r style is =
      subst (λ (B : Summary Op). SummaryGood Optimistic (rules_of o s.shape) place B r ↔ RunsFrom (rules_of o s.shape) p.config (steps_at T p r)) is.is
      (((decides s.shape).records ks).good p r style is.summable)

  next : (s w : Taken Shape Op) (p : Standing Front Op) (r : RunRecord Op) → IsOptimistic r → IsTakenOf o place s p → Takes o place s r true w → IsTakenOf o place w (after_record T p r)
  next s w p r style is t =
      let k = p.front.kinds in
      let q = after_record T p r in
      let yes = subst (λ (B : Summary Op). SummaryGood Optimistic (rules_of o s.shape) place B r) (sym is.is) (t.0 k) in
      let step : summary_of place q ≡ next_summary place Optimistic (summary_taken k s) r =
      ((decides s.shape).records ks).step p r style is.summable yes ∙ ap (λ (B : Summary Op). next_summary place Optimistic B r) is.is in
      let same : q.front.kinds ≡ k = ap (λ (B : Summary Op). B.kinds) step ∙ kinds_stay place (summary_taken k s) r style in
      record {
        summable = subst (λ (shape : Shape). Summable (rules_of o shape) place q.front q.config) (sym t.1.shape) (((decides s.shape).records ks).kept p r style is.summable yes);
        is = step ∙ sym (t.1.summary k) ∙ ap (λ (js : List Kind). summary_taken js w) (sym same);
      }

  nothing : (shape : Shape) → StartMeets (rules_of o shape) h → IsTakenAfter o place ks h [] (first_taken shape h)
  nothing shape m =
      record {
        optimistic = tt;
        begun = m;
        meet = tt;
        taken = record { summable = started shape m; is = is h };
        count = refl;
      }
    where
      is : (z : Option (Start Op)) → summary_of place (record { front = new_front ks; config = first z }) ≡ summary_taken ks (first_taken shape z)
      is None = refl
      is (Some z) = ap (λ (G : List (SharedEntry Op)). record (summary_of place (record { front = new_front ks; config = first (Some z) })) { shared = G }) (sym (append-nil (map (as_shared z.tx true) z.items)))

  module _ (rs : Records (RunRecord Op)) (r : Lined (RunRecord Op)) (s w : Taken Shape Op) (t : IsTakenAfter o place ks h rs s) where
    abbrev p : Standing Front Op
    p = standing_after T h rs

    led_next : standing_after T h (rs ++ r ∷ []) ≡ after_record T p r.what
    led_next = led_more (rules_of o s.shape) T (outset T h) rs (r ∷ [])

    more : IsOptimistic r.what → Takes o place s r.what true w → IsTakenAfter o place ks h (rs ++ r ∷ []) w
    more style taken =
        let runs = (good s p r.what style t.taken).0 (taken.0 p.front.kinds) in
        record {
          optimistic = optimistic_more rs r t.optimistic style;
          begun = subst (λ (shape : Shape). StartMeets (rules_of o shape) h) (sym taken.1.shape) t.begun;
          meet = subst (λ (shape : Shape). RunsFrom (rules_of o shape) (first h) (bare (all_steps T h (rs ++ r ∷ [])))) (sym taken.1.shape) (hold_next (rules_of o s.shape) T h rs r t.meet runs);
          taken = subst (λ (z : Standing Front Op). IsTakenOf o place w z) (sym led_next) (next s w p r.what style t.taken taken);
          count = taken.1.count ∙ ap (λ (n : ℕ). n + 1) t.count ∙ sym (length-append rs (r ∷ []));
        }

    fails : (behind : Records (RunRecord Op)) → IsOptimistic r.what → Takes o place s r.what false w → FailsIn (rules_of o s.shape) T h (rs ++ r ∷ behind) r
    fails behind style taken =
        record {
          begun = t.begun;
          before = rs;
          behind = behind;
          parts = refl;
          hold = t.meet;
          fails = λ runs. taken.0 p.front.kinds ((good s p r.what style t.taken).1 runs);
        }

    stays : Takes o place s r.what false w → IsTakenAfter o place ks h rs w
    stays taken =
        record {
          optimistic = t.optimistic;
          begun = subst (λ (shape : Shape). StartMeets (rules_of o shape) h) (sym taken.1.shape) t.begun;
          meet = subst (λ (shape : Shape). RunsFrom (rules_of o shape) (first h) (bare (all_steps T h rs))) (sym taken.1.shape) t.meet;
          taken =
              record {
                summable = subst (λ (shape : Shape). Summable (rules_of o shape) place p.front p.config) (sym taken.1.shape) (t.taken).summable;
                is = (t.taken).is ∙ sym (taken.1.summary p.front.kinds);
              };
          count = taken.1.count ∙ t.count;
        }

  kinds_after : (shape : Shape) (rs : List (RunRecord Op)) (B : Summary Op) → Each (IsOfStyle Optimistic) rs → (summary_after (summing Optimistic (rules_of o shape) place) B rs).kinds ≡ B.kinds
  kinds_after shape [] B e = refl
  kinds_after shape (r ∷ rs) B e = kinds_after shape rs (next_summary place Optimistic B r) e.1 ∙ kinds_stay place B r e.0

  module _ (rs : Records (RunRecord Op)) (s : Taken Shape Op) (t : IsTakenAfter o place ks h rs s) where
    accepted : IsVerdict (rules_of o s.shape) h (bare (all_steps T h rs)) Accepted
    accepted = (accepted_iff (rules_of o s.shape) h (bare (all_steps T h rs))).1 (t.begun, t.meet)

    done : s.done ≡ (after h (bare (all_steps T h rs))).done
    done = ap (λ (B : Summary Op). B.done) (sym (t.taken).is) ∙ ap (λ (c : Config Op). c.done) (led_config (rules_of o s.shape) T (outset T h) rs)

    committed : s.done ≡ map committed_tx (attempts h (bare (all_steps T h rs)))
    committed = done ∙ finished_are (rules_of o s.shape) h (bare (all_steps T h rs)) t.begun t.meet

    are_good : GoodRuns (summing Optimistic (rules_of o s.shape) place) (summary_of place (outset T h)) (bare rs)
    are_good = (((decides s.shape).runs ks).accepted (outset T h) rs t.optimistic (started s.shape t.begun)).1 t.meet

    leads : summary_taken ks s ≡ summary_after (summing Optimistic (rules_of o s.shape) place) (summary_of place (outset T h)) (bare rs)
    leads =
        let last = ((decides s.shape).runs ks).last (outset T h) rs t.optimistic (started s.shape t.begun) are_good in
        let kinds : (standing_after T h rs).front.kinds ≡ ks = ap (λ (B : Summary Op). B.kinds) last ∙ kinds_after s.shape (bare rs) (summary_of place (outset T h)) t.optimistic in
        ap (λ (js : List Kind). summary_taken js s) (sym kinds) ∙ sym (t.taken).is ∙ last

    all_tried : AreTried (rules_of o s.shape) place (summary_of place (outset T h)) (bare rs) (bare rs)
    all_tried = tried_all (rules_of o s.shape) place (bare rs) (summary_of place (outset T h)) are_good

  -- the records up to the one that fails
  module _ (shape : Shape) (rs : Records (RunRecord Op)) (r : Lined (RunRecord Op)) (a : AreOptimistic rs) (f : FailsIn (rules_of o shape) T h rs r) where
    abbrev d : Standing Front Op
    d = standing_after T h f.before

    those : AreOptimistic f.before × IsOptimistic r.what
    those = optimistic_to f.before r f.behind (subst (λ (z : Records (RunRecord Op)). AreOptimistic z) f.parts a)

    good_before : GoodRuns (summing Optimistic (rules_of o shape) place) (summary_of place (outset T h)) (bare f.before)
    good_before = (((decides shape).runs ks).accepted (outset T h) f.before those.0 (started shape f.begun)).1 f.hold

    not_good : SummaryGood Optimistic (rules_of o shape) place (summary_after (summing Optimistic (rules_of o shape) place) (summary_of place (outset T h)) (bare f.before)) r.what → ⊥
    not_good k =
        let runs = (decides shape).runs ks in
        let summable = runs.kept (outset T h) f.before those.0 (started shape f.begun) good_before in
        let same = runs.last (outset T h) f.before those.0 (started shape f.begun) good_before in
        let here = subst (λ (B : Summary Op). SummaryGood Optimistic (rules_of o shape) place B r.what) (sym same) k in
        f.fails ((((decides shape).records ks).good d r.what those.1 summable).0 here)

    tried : AreTried (rules_of o shape) place (summary_of place (outset T h)) (bare rs) (bare f.before ++ r.what ∷ [])
    tried =
        subst (λ (z : List (RunRecord Op)). AreTried (rules_of o shape) place (summary_of place (outset T h)) z (bare f.before ++ r.what ∷ []))
        (sym (ap (λ (z : Records (RunRecord Op)). bare z) f.parts ∙ bare_append f.before (r ∷ f.behind)))
        (tried_to (rules_of o shape) place (bare f.before) (bare f.behind) (summary_of place (outset T h)) r.what good_before not_good)

  -- Snapshots take the records of a run, one after another.
  pub takes_runs : TakesRuns o place ks h
  takes_runs =
      record {
        good = good;
        next = next;
        nothing = nothing;
        more = λ rs r s w style t taken. more rs r s w t style taken;
        fails = λ rs behind r s w style t taken. fails rs r s w t behind style taken;
        stays = λ rs r s w t taken. stays rs r s w t taken;
        accepted = accepted;
        done = done;
        committed = committed;
        are_good = are_good;
        leads = leads;
        tried = tried;
        all_tried = all_tried;
      }
