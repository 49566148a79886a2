-- The summary finds the first step of a run that violates a criterion, and the criterion.
use Rattle.std.specs.Prelude.{◌↔◌, ℕ, List, [], ◌∷◌, ◌++◌, Option}
use Rattle.std.proofs.Common.{sym, subst}
use mathlib.Core.Logic.{inl, inr}
use Rattle.pp_core.specs.declared.call.Kind.{Kind}
use Rattle.pp_core.specs.declared.call.Style.{Style}
use Rattle.pp_model.specs.Config.{Start, Step}
use Rattle.pp_model.specs.Lists.{Each}
use Rattle.pp_model.specs.Object.{Object, TellsStates}
use Rattle.pp_model.specs.Rules.{IsVerdict, StartMeets, Verdict, start_criteria}
use Rattle.pp_model.proofs.Parted.{one_number}
use Rattle.pp_records.specs.Expansions.{IsOfStyle}
use Rattle.pp_records.specs.Fronts.{Front}
use Rattle.pp_records.specs.Records.{RunRecord}
use Rattle.pp_records.specs.Runs.{Records, Standing, after_record, bare, joined_steps, outset, steps_at}
use Rattle.pp_records.specs.Styles.{translation}
use Rattle.pp_laws_summary.specs.Failures.{Asked, FindsFailures, IsAskedVerdict, record_asks, run_asks}
use Rattle.pp_laws_summary.specs.LocalLogs.{HasSummary, Summable}
use Rattle.pp_laws_summary.specs.Laws.{summing}
use Rattle.pp_laws_summary.specs.Places.{PlacesPart}
use Rattle.pp_laws_summary.specs.Summary.{Summary, next_summary, summary_of}
use Rattle.pp_laws_summary.proofs.Asks.{Matches, match_append, same_verdict}
use Rattle.pp_laws_summary.proofs.DecidedRuns.{bare_steps}
use Rattle.pp_laws_summary.proofs.FailingSteps.{record_are}
use Rattle.pp_laws_summary.proofs.Failures.{record_match}
use Rattle.pp_laws_summary.proofs.LocalRecords.{keeps}
use Rattle.pp_laws_summary.proofs.SummaryRuns.{decides_records}

module _ {Op State : Type 0} (O : Object Op State) (place : Op → ℕ) (part : PlacesPart O place) (tells : TellsStates O) (style : Style) (has : HasSummary style) where
  -- The conditions of the summaries on the records match their steps.
  pub run_match : (ks : List Kind) (rs : Records (RunRecord Op)) (p : Standing Front Op) → Each (IsOfStyle style) (bare rs) → Summable O place p.front p.config →
      Matches O p.config (bare (joined_steps (translation place style ks) p rs)) (run_asks style O place (summary_of place p) (bare rs))
  run_match ks [] p s b = tt
  run_match ks (r ∷ rs) p s b =
      let T = translation place style ks in
      let q = decides_records style has O place part tells ks in
      let d = after_record T p r.what in
      let E : List (Step Op) = steps_at T p r.what in
      let rest : List (Asked Op) = run_asks style O place (next_summary place style (summary_of place p) r.what) (bare rs) in
      subst (λ (w : List (Step Op)). Matches O p.config w (record_asks style O place (summary_of place p) r.what ++ rest)) (sym (bare_steps (summing style O place) O T q p r rs))
      (match_append O E (record_asks style O place (summary_of place p) r.what) (bare (joined_steps T d rs)) rest p.config
      (record_match O place part tells style has p.front p.config b r.what s.0)
      (λ g.
      let h = (q.good p r.what s.0 b).1 g in
      subst (λ (z : Summary Op). Matches O d.config (bare (joined_steps T d rs)) (run_asks style O place z (bare rs))) (q.step p r.what s.0 b h) (run_match ks rs d s.1 (q.kept p r.what s.0 b h))))

  -- a run whose start meets its criteria
  from_start : (h : Option (Start Op)) (ss : List (Step Op)) (qs : List (Asked Op)) (v : Verdict) → StartMeets O h → Matches O (outset (translation place style []) h).config ss qs → IsAskedVerdict 1 qs v ↔ IsVerdict O h ss v
  from_start h ss qs v m w = (
    (λ k. inr (m, (same_verdict O ss qs _ 1 v w).0 k)),
    (λ k. elim k [
      | inl z ↦ absurd (let e = one_number (start_criteria O h) 0 _ m z.1 in cc)
      | inr z ↦ (same_verdict O ss qs _ 1 v w).1 z.1
    ]),
  )

  -- The summary finds the failures of records and of runs.
  pub finds : FindsFailures style O place
  finds =
      record {
        are_steps = λ f c r s b. record_are O place part tells style has f c b r s;
        record_verdict = λ f c r i v s b. same_verdict O _ _ c i v (record_match O place part tells style has f c b r s);
        run_verdict = λ ks p rs i v s b. same_verdict O _ _ p.config i v (run_match ks rs p s b);
        verdict = λ ks h rs v s m. from_start h _ _ v m (run_match ks rs (outset (translation place style ks) h) s ((keeps style has O place part).start ks h m));
      }
