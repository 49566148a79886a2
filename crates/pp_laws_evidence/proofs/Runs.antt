-- A summary has the evidence of the first step of a run that violates a criterion.
use Rattle.std.specs.Prelude.{ℕ, List, [], ◌∷◌, ◌++◌}
use Rattle.std.proofs.Common.{sym, subst}
use Rattle.pp_core.specs.declared.call.Kind.{Kind}
use Rattle.pp_core.specs.declared.call.Style.{Style}
use Rattle.pp_kind.specs.Object.{Object, IsLawful, IsPlaced, rules_of}
use Rattle.pp_kind.proofs.Places.{tells_states}
use Rattle.pp_model.specs.Config.{Step}
use Rattle.pp_model.specs.Lists.{Each}
use Rattle.pp_records.specs.Expansions.{IsOfStyle, expand}
use Rattle.pp_records.specs.Fronts.{Front}
use Rattle.pp_records.specs.Records.{RunRecord}
use Rattle.pp_records.specs.Runs.{Records, Standing, after_record, bare, joined_steps, steps_at}
use Rattle.pp_records.specs.Styles.{translation}
use Rattle.pp_machine.specs.declared.detail.Detail.{Detail}
use Rattle.pp_laws_evidence.specs.Details.{HasEvidence, record_details, run_details}
use Rattle.pp_laws_evidence.proofs.Details.{record_show}
use Rattle.pp_laws_evidence.proofs.Shows.{Shows, show_append, shown}
use Rattle.pp_laws_summary.specs.Failures.{Asked, record_asks, run_asks}
use Rattle.pp_laws_summary.specs.Laws.{summing}
use Rattle.pp_laws_summary.specs.LocalLogs.{HasSummary, Summable}
use Rattle.pp_laws_summary.specs.Summary.{Summary, next_summary, summary_of}
use Rattle.pp_laws_summary.proofs.DecidedRuns.{bare_steps}
use Rattle.pp_laws_summary.proofs.FailingRuns.{run_match}
use Rattle.pp_laws_summary.proofs.Failures.{record_match}
use Rattle.pp_laws_summary.proofs.Placed.{parts_of}
use Rattle.pp_laws_summary.proofs.SummaryRuns.{decides_records}

module _ {Shape State Op Undo : Type 0} (o : Object Shape State Op Undo) (place : Op → ℕ) (SameAt : ℕ → State → State → Type 0) (laws : IsLawful o) (places : IsPlaced o place SameAt) (shape : Shape) (style : Style) (has : HasSummary style) where
  -- The summaries have the evidence of the steps of the records.
  run_show : (ks : List Kind) (rs : Records (RunRecord Op)) (p : Standing Front Op) → Each (IsOfStyle style) (bare rs) → Summable (rules_of o shape) place p.front p.config →
      Shows o shape p.config (bare (joined_steps (translation place style ks) p rs)) (run_asks style (rules_of o shape) place (summary_of place p) (bare rs)) (run_details o shape place style (summary_of place p) (bare rs))
  run_show ks [] p s b = tt
  run_show ks (r ∷ rs) p s b =
      let O = rules_of o shape in
      let T = translation place style ks in
      let q = decides_records style has O place (parts_of o place SameAt laws places shape) (tells_states o laws shape) ks in
      let d = after_record T p r.what in
      let E : List (Step Op) = steps_at T p r.what in
      let rest : List (Asked Op) = run_asks style O place (next_summary place style (summary_of place p) r.what) (bare rs) in
      let more : List (List (Detail Op)) = run_details o shape place style (next_summary place style (summary_of place p) r.what) (bare rs) in
      subst (λ (w : List (Step Op)). Shows o shape p.config w (record_asks style O place (summary_of place p) r.what ++ rest) (record_details o shape place style (summary_of place p) r.what ++ more)) (sym (bare_steps (summing style O place) O T q p r rs))
      (show_append o shape E (record_asks style O place (summary_of place p) r.what) (record_details o shape place style (summary_of place p) r.what) (bare (joined_steps T d rs)) rest more p.config
      (record_show o place SameAt laws places shape style has p.front p.config b r.what s.0)
      (λ g.
      let h = (q.good p r.what s.0 b).1 g in
      subst (λ (z : Summary Op). Shows o shape d.config (bare (joined_steps T d rs)) (run_asks style O place z (bare rs)) (run_details o shape place style z (bare rs))) (q.step p r.what s.0 b h)
      (run_show ks rs d s.1 (q.kept p r.what s.0 b h))))

  -- A summary has the evidence of records and of runs.
  pub has_evidence : HasEvidence o shape place style
  has_evidence =
      let O = rules_of o shape in
      let part = parts_of o place SameAt laws places shape in
      let tells = tells_states o laws shape in
      record {
        of_record = λ f c r k s n i b z.
            shown o shape k (expand place style f c r) (record_asks style O place (summary_of place (record { front = f; config = c })) r) (record_details o shape place style (summary_of place (record { front = f; config = c })) r) c
            (record_match O place part tells style has f c b r i) (record_show o place SameAt laws places shape style has f c b r i) s n z.there z.before z.breaks;
        of_run = λ ks p rs k s n i b z.
            shown o shape k (bare (joined_steps (translation place style ks) p rs)) (run_asks style O place (summary_of place p) (bare rs)) (run_details o shape place style (summary_of place p) (bare rs)) p.config
            (run_match O place part tells style has ks rs p i b) (run_show ks rs p i b) s n z.there z.before z.breaks;
      }
