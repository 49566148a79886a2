-- Whole runs of records, and their first record that is not good.
use Rattle.std.specs.Prelude.{◌≡◌, ℕ, suc, ◌+◌, ◌≤◌, ◌<◌, List, [], ◌∷◌, ◌++◌, length, slice_get, Some}
use Rattle.std.proofs.Common.{refl, sym, ap, subst, ◌∙◌, arith, length-append}
use Rattle.std.proofs.lemmas.List.{append-nil}
use Rattle.std.proofs.lemmas.Option.{same_Some}
use mathlib.Core.Logic.{inl, inr}
use Rattle.pp_core.specs.declared.call.Kind.{Kind}
use Rattle.pp_model.specs.Object.{Object}
use Rattle.pp_model.specs.Config.{Config, Step, after_from}
use Rattle.pp_model.specs.Rules.{IsVerdictFrom, Rejected, RunsFrom, Verdict}
use Rattle.pp_model.proofs.Verdict.{accepted_iff}
use Rattle.pp_records.specs.Fronts.{Front}
use Rattle.pp_records.specs.Records.{RunRecord}
use Rattle.pp_records.specs.Runs.{Lined, LinedSteps, Records, Standing, Translation, after_record, after_records, bare, joined_steps, on_line, outset, steps_at}
use Rattle.pp_records.proofs.Ends.{bare_append, bare_on_line, length_bare, runs_append, runs_back, runs_front}
use Rattle.pp_records.proofs.Whole.{joined_more, led_config}
use Rattle.pp_summary.specs.Boosted.{PlacesSwap, Boosted, Good}
use Rattle.pp_summary.specs.Brief.{Brief, BriefGood, brief, brief_then}
use Rattle.pp_summary.specs.Runs.{AreBoosted, BriefRuns, IsBoosted, boosting, brief_after}
use Rattle.pp_summary.specs.Laws.{KeepsBoosted, IsBriefed, BriefsDecide}
use Rattle.pp_summary.proofs.Deciding.{quick}
use Rattle.pp_summary.proofs.Briefs.{briefed}
use Rattle.pp_summary.proofs.Failures.{cut_verdict, lined_there}

module _ {Op State : Type 0} (O : Object Op State) (place : Op → ℕ) (apart : PlacesSwap O place) (ks : List Kind) where
  abbrev T : Translation Front (RunRecord Op) Op
  T = boosting place ks

  abbrev At : Type 0
  At = Standing Front Op

  q : KeepsBoosted O place
  q = quick O place apart

  w : IsBriefed O place
  w = briefed O place apart

  bare_steps : (p : At) (r : Lined (RunRecord Op)) (rs : Records (RunRecord Op)) →
      bare (joined_steps T p (r ∷ rs)) ≡ steps_at T p r.what ++ bare (joined_steps T (after_record T p r.what) rs)
  bare_steps p r rs = bare_append (on_line r.line (steps_at T p r.what)) (joined_steps T (after_record T p r.what) rs)
      ∙ ap (λ (z : List (Step Op)). z ++ bare (joined_steps T (after_record T p r.what) rs)) (bare_on_line r.line (steps_at T p r.what))

  -- The rest of the run after a good record.
  next : (p : At) (r : RunRecord Op) → IsBoosted r → Boosted O place p.config → Good O place p.config r → (rs : List (RunRecord Op)) →
      BriefRuns O place (brief_then place (brief place p.config) r) rs → BriefRuns O place (brief place (after_record T p r).config) rs
  next p r s b g rs h = subst (λ (z : Brief Op). BriefRuns O place z rs) (sym (w.step p.front p.config r s b g)) h

  runs : (rs : Records (RunRecord Op)) (p : At) → AreBoosted rs → Boosted O place p.config → BriefRuns O place (brief place p.config) (bare rs) →
      RunsFrom O p.config (bare (joined_steps T p rs))
  runs [] p s b h = tt
  runs (r ∷ rs) p s b h =
      let g = (w.good p.config r.what s.0 b).1 h.0 in
      let d = after_record T p r.what in
      subst (λ (z : List (Step Op)). RunsFrom O p.config z) (sym (bare_steps p r rs))
      (runs_append O p.config (steps_at T p r.what) (bare (joined_steps T d rs)) ((q.good p.front p.config r.what s.0 b).0 g)
      (runs rs d s.1 (q.kept p.front p.config r.what s.0 b g) (next p r.what s.0 b g (bare rs) h.1)))

  briefs : (rs : Records (RunRecord Op)) (p : At) → AreBoosted rs → Boosted O place p.config → RunsFrom O p.config (bare (joined_steps T p rs)) →
      BriefRuns O place (brief place p.config) (bare rs)
  briefs [] p s b h = tt
  briefs (r ∷ rs) p s b h =
      let d = after_record T p r.what in
      let k = subst (λ (z : List (Step Op)). RunsFrom O p.config z) (bare_steps p r rs) h in
      let g = (q.good p.front p.config r.what s.0 b).1 (runs_front O p.config (steps_at T p r.what) (bare (joined_steps T d rs)) k) in (
        (w.good p.config r.what s.0 b).0 g,
        subst (λ (z : Brief Op). BriefRuns O place z (bare rs)) (w.step p.front p.config r.what s.0 b g)
            (briefs rs d s.1 (q.kept p.front p.config r.what s.0 b g) (runs_back O p.config (steps_at T p r.what) (bare (joined_steps T d rs)) k)),
      )

  boosted : (rs : Records (RunRecord Op)) (p : At) → AreBoosted rs → Boosted O place p.config → BriefRuns O place (brief place p.config) (bare rs) →
      Boosted O place (after_records T p rs).config
  boosted [] p s b h = b
  boosted (r ∷ rs) p s b h =
      let g = (w.good p.config r.what s.0 b).1 h.0 in
      boosted rs (after_record T p r.what) s.1 (q.kept p.front p.config r.what s.0 b g) (next p r.what s.0 b g (bare rs) h.1)

  last : (rs : Records (RunRecord Op)) (p : At) → AreBoosted rs → Boosted O place p.config → BriefRuns O place (brief place p.config) (bare rs) →
      brief place (after_records T p rs).config ≡ brief_after place (brief place p.config) (bare rs)
  last [] p s b h = refl
  last (r ∷ rs) p s b h =
      let g = (w.good p.config r.what s.0 b).1 h.0 in
      last rs (after_record T p r.what) s.1 (q.kept p.front p.config r.what s.0 b g) (next p r.what s.0 b g (bare rs) h.1)
      ∙ ap (λ (z : Brief Op). brief_after place z (bare rs)) (w.step p.front p.config r.what s.0 b g)

  module _ (p : At) (rs more : Records (RunRecord Op)) (r : Lined (RunRecord Op)) where
    abbrev d : At
    d = after_records T p rs

    abbrev e : List (Step Op)
    e = steps_at T d r.what

    steps_are : joined_steps T p (rs ++ r ∷ more) ≡ joined_steps T p rs ++ (on_line r.line e ++ joined_steps T (after_record T d r.what) more)
    steps_are = joined_more O T p rs (r ∷ more)

    bare_are : bare (joined_steps T p (rs ++ r ∷ more)) ≡ bare (joined_steps T p rs) ++ (e ++ bare (joined_steps T (after_record T d r.what) more))
    bare_are = ap (λ (z : LinedSteps Op). bare z) steps_are
        ∙ bare_append (joined_steps T p rs) (on_line r.line e ++ joined_steps T (after_record T d r.what) more)
        ∙ ap (λ (z : List (Step Op)). bare (joined_steps T p rs) ++ z) (bare_steps d r more)

    config_is : d.config ≡ after_from p.config (bare (joined_steps T p rs))
    config_is = led_config O T p rs

    ends : length (joined_steps T p rs) + length e ≡ length (joined_steps T p (rs ++ r ∷ []))
    ends =
        let z : length (joined_steps T p (rs ++ r ∷ [])) ≡ length (joined_steps T p rs ++ (on_line r.line e ++ [])) = ap (λ (z : LinedSteps Op). length z) (joined_more O T p rs (r ∷ [])) in
        let y : length (joined_steps T p rs ++ (on_line r.line e ++ [])) ≡ length (joined_steps T p rs) + length (on_line r.line e ++ []) = length-append (joined_steps T p rs) (on_line r.line e ++ []) in
        let x : length (on_line r.line e ++ []) ≡ length (on_line r.line e) = ap (λ (z : LinedSteps Op). length z) (append-nil (on_line r.line e)) in
        let u : length e ≡ length (on_line r.line e) = ap (λ (z : List (Step Op)). length z) (sym (bare_on_line r.line e)) ∙ length_bare (on_line r.line e) in
        omega arith

    rejected : (i : ℕ) (v : Verdict) → AreBoosted rs → IsBoosted r.what → Boosted O place p.config → BriefRuns O place (brief place p.config) (bare rs) →
        (BriefGood O place (brief_after place (brief place p.config) (bare rs)) r.what → ⊥) → IsVerdictFrom O i p.config (bare (joined_steps T p (rs ++ r ∷ more))) v →
        (step n : ℕ) × (v ≡ Rejected step (suc n)) × (i + length (joined_steps T p rs) ≤ step) × (step < i + length (joined_steps T p (rs ++ r ∷ [])))
    rejected i v s sr b h n k =
        elim (cut_verdict O xs (e ++ ys) i p.config v (subst (λ (z : List (Step Op)). IsVerdictFrom O i p.config z v) bare_are k)) [
          | inr a ↦ absurd (a.0 (runs rs p s b h))
          | inl a ↦ elim (cut_verdict O e ys (i + length xs) d.config v (subst (λ (z : Config Op). IsVerdictFrom O (i + length xs) z (e ++ ys) v) (sym config_is) a.1)) [
            | inl z ↦ absurd (bad z.0)
            | inr z ↦
                let m : i + length xs ≤ z.1.0 = z.1.3 in
                let l : z.1.0 < (i + length xs) + length e = z.1.4 in
                let u : length xs ≡ length (joined_steps T p rs) = length_bare (joined_steps T p rs) in
                let f : length (joined_steps T p rs) + length e ≡ length (joined_steps T p (rs ++ r ∷ [])) = ends in
                (z.1.0, z.1.1, z.1.2, omega arith, omega arith)
          ]
        ]
      where
        xs : List (Step Op)
        xs = bare (joined_steps T p rs)

        ys : List (Step Op)
        ys = bare (joined_steps T (after_record T d r.what) more)

        bad : RunsFrom O d.config e → ⊥
        bad g =
            let bd = boosted rs p s b h in
            n (subst (λ (z : Brief Op). BriefGood O place z r.what) (last rs p s b h)
            ((w.good d.config r.what sr bd).0 ((q.good d.front d.config r.what sr bd).1 g)))

    lined : (k : ℕ) (s : Lined (Step Op)) → length (joined_steps T p rs) ≤ k → k < length (joined_steps T p (rs ++ r ∷ [])) →
        slice_get (joined_steps T p (rs ++ r ∷ more)) k ≡ Some s → s.line ≡ r.line
    lined k s l m f =
        let u : length (joined_steps T p rs) + length e ≡ length (joined_steps T p (rs ++ r ∷ [])) = ends in
        let t = lined_there (joined_steps T p rs) r.line e (joined_steps T (after_record T d r.what) more) k l (omega arith) in
        ap (λ (z : Lined (Step Op)). z.line) (same_Some s t.0 (sym (subst (λ (z : LinedSteps Op). slice_get z k ≡ Some s) steps_are f) ∙ t.1)) ∙ t.2

-- The records of a run decide in the brief as they do in configurations.
pub decided : {Op State : Type 0} (O : Object Op State) (place : Op → ℕ) → PlacesSwap O place → BriefsDecide O place
decided O place apart =
    record {
      accepted = λ ks p rs s b. (runs O place apart ks rs p s b, briefs O place apart ks rs p s b);
      accepted_run = λ ks h rs s f.
          let p = outset (boosting place ks) h in
          let b = (quick O place apart).start h f in (
            (λ k. (accepted_iff O h (bare (joined_steps (boosting place ks) p rs))).1 (f, runs O place apart ks rs p s b k)),
            (λ k. briefs O place apart ks rs p s b ((accepted_iff O h (bare (joined_steps (boosting place ks) p rs))).0 k).1),
          );
      boosted = λ ks p rs s b h. boosted O place apart ks rs p s b h;
      last = λ ks p rs s b h. last O place apart ks rs p s b h;
      rejected = λ ks p rs more r i v s sr b h n k. rejected O place apart ks p rs more r i v s sr b h n k;
      lined = λ ks p rs more r k s l m f. lined O place apart ks p rs more r k s l m f;
    }
