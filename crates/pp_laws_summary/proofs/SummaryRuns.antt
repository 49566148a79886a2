-- Summaries decide a boosted, an optimistic and a hardware run.
use Rattle.std.specs.Prelude.{ℕ, List}
use Rattle.pp_core.specs.declared.call.Kind.{Kind}
use Rattle.pp_core.specs.declared.call.Style.{Style}
use Rattle.pp_model.specs.Object.{Object, TellsStates}
use Rattle.pp_model.proofs.Verdict.{accepted_iff}
use Rattle.pp_records.specs.Runs.{bare, joined_steps, outset}
use Rattle.pp_records.specs.Styles.{translation}
use Rattle.pp_laws_summary.specs.Places.{PlacesPart}
use Rattle.pp_laws_summary.specs.LocalLogs.{HasSummary}
use Rattle.pp_laws_summary.specs.DecidedRuns.{DecidesRecords}
use Rattle.pp_laws_summary.specs.Laws.{SummariesDecide, summing}
use Rattle.pp_laws_summary.proofs.DecidedRuns.{whole}
use Rattle.pp_laws_summary.proofs.SummaryRecords.{good_iff, stepped}
use Rattle.pp_laws_summary.proofs.LocalRecords.{keeps}

module _ {Op State : Type 0} (style : Style) (has : HasSummary style) (O : Object Op State) (place : Op → ℕ) (part : PlacesPart O place) (tells : TellsStates O) where
  -- Summaries decide each record of the three styles.
  pub decides_records : (ks : List Kind) → DecidesRecords (summing style O place) O (translation place style ks)
  decides_records ks =
      let q = keeps style has O place part in
      record {
        good = λ p r s b.
            let w = good_iff O place part tells style has p.front p.config b r s in
            ((λ g. (q.good p.front p.config r s b).0 (w.1 g)), (λ k. w.0 ((q.good p.front p.config r s b).1 k)));
        kept = λ p r s b g. q.kept p.front p.config r s b ((good_iff O place part tells style has p.front p.config b r s).1 g);
        step = λ p r s b g. stepped O place part tells style has p.front p.config b r s ((good_iff O place part tells style has p.front p.config b r s).1 g);
      }

  -- Summaries decide the records and runs of the three styles.
  pub decided : SummariesDecide style O place
  decided =
      record {
        records = decides_records;
        runs = λ ks. whole (summing style O place) O (translation place style ks) (decides_records ks);
        accepted = λ ks h rs s f.
            let T = translation place style ks in
            let p = outset T h in
            let b = (keeps style has O place part).start ks h f in
            let a = (whole (summing style O place) O T (decides_records ks)).accepted p rs s b in (
              (λ k. (accepted_iff O h (bare (joined_steps T p rs))).1 (f, a.0 k)),
              (λ k. a.1 ((accepted_iff O h (bare (joined_steps T p rs))).0 k).1),
            );
      }
