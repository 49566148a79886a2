-- Whole runs of records, and their first record that is not good.
use Rattle.std.specs.Prelude.{◌≡◌, ◌⊎◌, ℕ, suc, ◌+◌, ◌≤◌, ◌<◌, List, [], ◌∷◌, ◌++◌, length, zero, slice_get, Some}
use Rattle.std.proofs.Common.{refl, sym, ap, subst, ◌∙◌, arith, length-append}
use Rattle.std.proofs.lemmas.List.{append-nil}
use Rattle.std.proofs.lemmas.Option.{same_Some}
use mathlib.Core.Logic.{inl, inr}
use Rattle.pp_model.specs.Lists.{Each}
use Rattle.pp_model.specs.Object.{Object}
use Rattle.pp_model.specs.Config.{Config, Step, after_from, then}
use Rattle.pp_model.specs.Rules.{IsVerdictFrom, Rejected, RunsFrom, Verdict, criteria}
use Rattle.pp_model.proofs.Parted.{one_number}
use Rattle.pp_records.specs.Runs.{Lined, LinedSteps, Records, Standing, Translation, after_record, after_records, bare, joined_steps, on_line, steps_at}
use Rattle.pp_records.proofs.Ends.{bare_append, bare_on_line, length_bare, runs_append, runs_back, runs_front}
use Rattle.pp_records.proofs.Whole.{joined_more, led_config}
use Rattle.pp_laws_summary.specs.DecidedRuns.{Summing, GoodRuns, summary_after, DecidesRecords, DecidesRuns}

-- the first step that fails lies among the first steps, or they all hold
cut_verdict : {Op State : Type 0} (O : Object Op State) (ss rest : List (Step Op)) (i : ℕ) (c : Config Op) (v : Verdict) → IsVerdictFrom O i c (ss ++ rest) v →
    (RunsFrom O c ss × IsVerdictFrom O (i + length ss) (after_from c ss) rest v)
    ⊎ ((RunsFrom O c ss → ⊥) × ((step n : ℕ) × (v ≡ Rejected step (suc n)) × (i ≤ step) × (step < i + length ss)))
cut_verdict {Op} O [] rest i c v h = inl (tt, subst (λ (k : ℕ). IsVerdictFrom O k c rest v) (let e : i ≡ i + 0 = omega arith in e) h)
cut_verdict O (s ∷ ss) rest i c v (inl h) = inr (
  (λ k. let z : suc h.0 ≡ 0 = one_number (criteria O c s) (suc h.0) 0 h.1 k.0 in cc),
  (i, h.0, h.2, omega arith, omega arith),
)
cut_verdict {Op} O (s ∷ ss) rest i c v (inr h) = elim (cut_verdict O ss rest (suc i) (then c s) v h.1) [
  | inl r ↦ inl ((h.0, r.0), subst (λ (k : ℕ). IsVerdictFrom O k (after_from (then c s) ss) rest v) (let e : suc i + length ss ≡ i + suc (length ss) = omega arith in e) r.1)
  | inr r ↦ inr ((λ k. r.0 k.1), (r.1.0, r.1.1, r.1.2, (let e : suc i ≤ r.1.0 = r.1.3 in omega arith), (let e : r.1.0 < suc i + length ss = r.1.4 in omega arith)))
]

-- a step after the first ones, and among the next, is there, on their line
lined_there : {A : Type 0} (xs : List (Lined A)) (line : ℕ) (ss : List A) (rest : List (Lined A)) (k : ℕ) → length xs ≤ k → k < length xs + length ss →
    (s : Lined A) × (slice_get (xs ++ (on_line line ss ++ rest)) k ≡ Some s) × (s.line ≡ line)
lined_there [] line [] rest k l m = absurd (omega arith)
lined_there [] line (a ∷ ss) rest zero l m = (record { line = line; what = a }, refl, refl)
lined_there [] line (a ∷ ss) rest (suc k) l m = lined_there [] line ss rest k (omega arith) (omega arith)
lined_there (x ∷ xs) line ss rest zero l m = absurd (omega arith)
lined_there (x ∷ xs) line ss rest (suc k) l m = lined_there xs line ss rest k (omega arith) (omega arith)

module _ {F R Op B State : Type 0} (S : Summing F R Op B) (O : Object Op State) (T : Translation F R Op) (q : DecidesRecords S O T) where
  -- The steps of the records are those of the first record, and then the others.
  pub bare_steps : (p : Standing F Op) (r : Lined R) (rs : Records R) → bare (joined_steps T p (r ∷ rs)) ≡ steps_at T p r.what ++ bare (joined_steps T (after_record T p r.what) rs)
  bare_steps p r rs = bare_append (on_line r.line (steps_at T p r.what)) (joined_steps T (after_record T p r.what) rs)
      ∙ ap (λ (z : List (Step Op)). z ++ bare (joined_steps T (after_record T p r.what) rs)) (bare_on_line r.line (steps_at T p r.what))

  runs : (rs : Records R) (p : Standing F Op) → Each S.OfRun (bare rs) → S.Holds p → GoodRuns S (S.summary p) (bare rs) → RunsFrom O p.config (bare (joined_steps T p rs))
  runs [] p s b h = tt
  runs (r ∷ rs) p s b h =
      let d = after_record T p r.what in
      subst (λ (z : List (Step Op)). RunsFrom O p.config z) (sym (bare_steps p r rs))
      (runs_append O p.config (steps_at T p r.what) (bare (joined_steps T d rs)) ((q.good p r.what s.0 b).0 h.0)
      (runs rs d s.1 (q.kept p r.what s.0 b h.0) (subst (λ (z : B). GoodRuns S z (bare rs)) (sym (q.step p r.what s.0 b h.0)) h.1)))

  goods : (rs : Records R) (p : Standing F Op) → Each S.OfRun (bare rs) → S.Holds p → RunsFrom O p.config (bare (joined_steps T p rs)) → GoodRuns S (S.summary p) (bare rs)
  goods [] p s b h = tt
  goods (r ∷ rs) p s b h =
      let d = after_record T p r.what in
      let k = subst (λ (z : List (Step Op)). RunsFrom O p.config z) (bare_steps p r rs) h in
      let g = (q.good p r.what s.0 b).1 (runs_front O p.config (steps_at T p r.what) (bare (joined_steps T d rs)) k) in (
        g,
        subst (λ (z : B). GoodRuns S z (bare rs)) (q.step p r.what s.0 b g)
            (goods rs d s.1 (q.kept p r.what s.0 b g) (runs_back O p.config (steps_at T p r.what) (bare (joined_steps T d rs)) k)),
      )

  kept : (rs : Records R) (p : Standing F Op) → Each S.OfRun (bare rs) → S.Holds p → GoodRuns S (S.summary p) (bare rs) → S.Holds (after_records T p rs)
  kept [] p s b h = b
  kept (r ∷ rs) p s b h = kept rs (after_record T p r.what) s.1 (q.kept p r.what s.0 b h.0) (subst (λ (z : B). GoodRuns S z (bare rs)) (sym (q.step p r.what s.0 b h.0)) h.1)

  last : (rs : Records R) (p : Standing F Op) → Each S.OfRun (bare rs) → S.Holds p → GoodRuns S (S.summary p) (bare rs) → S.summary (after_records T p rs) ≡ summary_after S (S.summary p) (bare rs)
  last [] p s b h = refl
  last (r ∷ rs) p s b h = last rs (after_record T p r.what) s.1 (q.kept p r.what s.0 b h.0) (subst (λ (z : B). GoodRuns S z (bare rs)) (sym (q.step p r.what s.0 b h.0)) h.1)
      ∙ ap (λ (z : B). summary_after S z (bare rs)) (q.step p r.what s.0 b h.0)

  module _ (p : Standing F Op) (rs more : Records R) (r : Lined R) where
    abbrev d : Standing F Op
    d = after_records T p rs

    abbrev e : List (Step Op)
    e = steps_at T d r.what

    bare_are : bare (joined_steps T p (rs ++ r ∷ more)) ≡ bare (joined_steps T p rs) ++ (e ++ bare (joined_steps T (after_record T d r.what) more))
    bare_are = ap (λ (z : LinedSteps Op). bare z) (joined_more O T p rs (r ∷ more))
        ∙ bare_append (joined_steps T p rs) (on_line r.line e ++ joined_steps T (after_record T d r.what) more)
        ∙ ap (λ (z : List (Step Op)). bare (joined_steps T p rs) ++ z) (bare_steps d r more)

    config_is : d.config ≡ after_from p.config (bare (joined_steps T p rs))
    config_is = led_config O T p rs

    ends : length (joined_steps T p rs) + length e ≡ length (joined_steps T p (rs ++ r ∷ []))
    ends =
        let z : length (joined_steps T p (rs ++ r ∷ [])) ≡ length (joined_steps T p rs ++ (on_line r.line e ++ [])) = ap (λ (z : LinedSteps Op). length z) (joined_more O T p rs (r ∷ [])) in
        let y : length (joined_steps T p rs ++ (on_line r.line e ++ [])) ≡ length (joined_steps T p rs) + length (on_line r.line e ++ []) = length-append (joined_steps T p rs) (on_line r.line e ++ []) in
        let x : length (on_line r.line e ++ []) ≡ length (on_line r.line e) = ap (λ (z : LinedSteps Op). length z) (append-nil (on_line r.line e)) in
        let u : length e ≡ length (on_line r.line e) = ap (λ (z : List (Step Op)). length z) (sym (bare_on_line r.line e)) ∙ length_bare (on_line r.line e) in
        omega arith

    rejected : (i : ℕ) (v : Verdict) → Each S.OfRun (bare rs) → S.OfRun r.what → S.Holds p → GoodRuns S (S.summary p) (bare rs) →
        (S.Good (summary_after S (S.summary p) (bare rs)) r.what → ⊥) → IsVerdictFrom O i p.config (bare (joined_steps T p (rs ++ r ∷ more))) v →
        (step n : ℕ) × (v ≡ Rejected step (suc n)) × (i + length (joined_steps T p rs) ≤ step) × (step < i + length (joined_steps T p (rs ++ r ∷ [])))
    rejected i v s sr b h n k =
        elim (cut_verdict O xs (e ++ ys) i p.config v (subst (λ (z : List (Step Op)). IsVerdictFrom O i p.config z v) bare_are k)) [
          | inr a ↦ absurd (a.0 (runs rs p s b h))
          | inl a ↦ elim (cut_verdict O e ys (i + length xs) d.config v (subst (λ (z : Config Op). IsVerdictFrom O (i + length xs) z (e ++ ys) v) (sym config_is) a.1)) [
            | inl z ↦ absurd (bad z.0)
            | inr z ↦
                let m : i + length xs ≤ z.1.0 = z.1.3 in
                let l : z.1.0 < (i + length xs) + length e = z.1.4 in
                let u : length xs ≡ length (joined_steps T p rs) = length_bare (joined_steps T p rs) in
                let f : length (joined_steps T p rs) + length e ≡ length (joined_steps T p (rs ++ r ∷ [])) = ends in
                (z.1.0, z.1.1, z.1.2, omega arith, omega arith)
          ]
        ]
      where
        xs : List (Step Op)
        xs = bare (joined_steps T p rs)

        ys : List (Step Op)
        ys = bare (joined_steps T (after_record T d r.what) more)

        bad : RunsFrom O d.config e → ⊥
        bad g = n (subst (λ (z : B). S.Good z r.what) (last rs p s b h) ((q.good d r.what sr (kept rs p s b h)).1 g))

    lined : (k : ℕ) (s : Lined (Step Op)) → length (joined_steps T p rs) ≤ k → k < length (joined_steps T p (rs ++ r ∷ [])) →
        slice_get (joined_steps T p (rs ++ r ∷ more)) k ≡ Some s → s.line ≡ r.line
    lined k s l m f =
        let u : length (joined_steps T p rs) + length e ≡ length (joined_steps T p (rs ++ r ∷ [])) = ends in
        let t = lined_there (joined_steps T p rs) r.line e (joined_steps T (after_record T d r.what) more) k l (omega arith) in
        ap (λ (z : Lined (Step Op)). z.line) (same_Some s t.0 (sym (subst (λ (z : LinedSteps Op). slice_get z k ≡ Some s) (joined_more O T p rs (r ∷ more)) f) ∙ t.1)) ∙ t.2

  -- Summaries that decide each record decide each run.
  pub whole : DecidesRuns S O T
  whole =
      record {
        accepted = λ p rs s b. (runs rs p s b, goods rs p s b);
        kept = λ p rs s b h. kept rs p s b h;
        last = λ p rs s b h. last rs p s b h;
        rejected = λ p rs more r i v s sr b h n k. rejected p rs more r i v s sr b h n k;
        lined = λ p rs more r k s l m f. lined p rs more r k s l m f;
      }
