-- A run that is rejected has bookkeeping that is not right, or its restriction to an object is rejected alike.
use Rattle.std.specs.Prelude.{◌≡◌, ◌⊎◌, ℕ, suc, List, [], ◌∷◌, ◌++◌, Option, None, Some}
use Rattle.std.proofs.Common.{refl, sym, ap, subst, ◌∙◌}
use mathlib.Core.Logic.{inl, inr}
use Rattle.pp_core.specs.declared.call.Kind.{Kind}
use Rattle.pp_core.specs.declared.call.Style.{Style}
use Rattle.pp_model.specs.Config.{Config, Start, Step, after_from, first, then}
use Rattle.pp_model.specs.Lists.{Each, In}
use Rattle.pp_model.specs.Object.{Object, TellsStates}
use Rattle.pp_model.specs.Rules.{FirstFalse, IsVerdictFrom, Rejected, RunsFrom, StartMeets, criteria, start_criteria}
use Rattle.pp_model.proofs.Parted.{one_number}
use Rattle.pp_model.proofs.Verdict.{accepted_iff}
use Rattle.pp_records.specs.Expansions.{IsOfStyle}
use Rattle.pp_records.specs.Fronts.{Front}
use Rattle.pp_records.specs.Records.{RunRecord}
use Rattle.pp_records.specs.Runs.{Lined, LinedSteps, Records, Standing, after_record, bare, joined_steps, on_line, outset, steps_at}
use Rattle.pp_records.specs.Styles.{translation}
use Rattle.pp_records.proofs.Ends.{bare_append, bare_on_line, runs_append}
use Rattle.pp_laws_summary.specs.Failures.{Asked, IsStep, record_asks}
use Rattle.pp_laws_summary.specs.LocalLogs.{HasSummary, Summable}
use Rattle.pp_laws_summary.specs.Places.{PlacesPart}
use Rattle.pp_laws_summary.specs.Summary.{Summary, SummaryGood, next_summary, summary_of}
use Rattle.pp_laws_summary.proofs.Asks.{Matches}
use Rattle.pp_laws_summary.proofs.Failures.{record_match}
use Rattle.pp_laws_summary.proofs.LocalRecords.{keeps}
use Rattle.pp_laws_summary.proofs.SummaryRuns.{decided}
use Rattle.pp_laws_locality.specs.Locality.{AcceptedUpTo, HasVerdict, IsAccepted, IsLocal, RunFails}
use Rattle.pp_laws_locality.specs.Rejected.{FailsFrom, IsOfBookkeeping}
use Rattle.pp_laws_locality.specs.Restricted.{restricted, restricted_records, restricted_start, with_record}
use Rattle.pp_laws_locality.proofs.Parts.{summary_at}
use Rattle.pp_laws_locality.proofs.PartFailures.{AskedFails, NamedFails, RestrictedFails, record_fails}
use Rattle.pp_laws_locality.proofs.PartRecords.{RestrictedGood, fits, known_after, restriction_good}
use Rattle.pp_laws_locality.proofs.PartSteps.{after_restricted, ids_after, restricted_ends}
use Rattle.pp_laws_locality.proofs.Runs.{Stays, accepted_local, enough_objects, outset_at, start_ids, start_known, start_local, stays}

module _ {Op State : Type 0} (O : Object Op State) (line : ℕ) (s : Step Op) (n : ℕ) where
  -- a failure among the first steps
  fails_left : (xs ys : LinedSteps Op) (c : Config Op) → FailsFrom O c xs line s n → FailsFrom O c (xs ++ ys) line s n
  fails_left [] ys c f = absurd f
  fails_left (x ∷ xs) ys c (inl f) = inl f
  fails_left (x ∷ xs) ys c (inr f) = inr (f.0, fails_left xs ys (then c x.what) f.1)

  -- a failure among the others
  fails_right : (xs ys : LinedSteps Op) (c : Config Op) → RunsFrom O c (bare xs) → FailsFrom O (after_from c (bare xs)) ys line s n → FailsFrom O c (xs ++ ys) line s n
  fails_right [] ys c r f = f
  fails_right (x ∷ xs) ys c r f = inr (r.0, fails_right xs ys (then c x.what) r.1 f)

  fails_cases : (xs ys : LinedSteps Op) (c : Config Op) → FailsFrom O c (xs ++ ys) line s n → FailsFrom O c xs line s n ⊎ (RunsFrom O c (bare xs) × FailsFrom O (after_from c (bare xs)) ys line s n)
  fails_cases [] ys c f = inr (tt, f)
  fails_cases (x ∷ xs) ys c (inl f) = inl (inl f)
  fails_cases (x ∷ xs) ys c (inr f) = elim (fails_cases xs ys (then c x.what) f.1) [ inl k ↦ inl (inr (f.0, k)) | inr k ↦ inr ((f.0, k.0), k.1) ]

  -- steps of a line fail on it
  own_line : (l : ℕ) (ss : List (Step Op)) (c : Config Op) → FailsFrom O c (on_line l ss) line s n → l ≡ line
  own_line l [] c f = absurd f
  own_line l (x ∷ ss) c (inl f) = ap (λ (w : Lined (Step Op)). w.line) f.0
  own_line l (x ∷ ss) c (inr f) = own_line l ss (then c x) f.1

  -- If steps that match conditions fail, the condition of the failing step is not met.
  to_asked : (l : ℕ) (ss : List (Step Op)) (qs : List (Asked Op)) (c : Config Op) → Matches O c ss qs → FailsFrom O c (on_line l ss) line s n → AskedFails qs s n
  to_asked l [] qs c m f = absurd f
  to_asked l (x ∷ ss) [] c m f = absurd m
  to_asked l (x ∷ ss) (a ∷ qs) c m (inl f) =
      let e : x ≡ s = ap (λ (w : Lined (Step Op)). w.what) f.0 in
      inl (subst (λ (w : Step Op). IsStep a.step w) e m.0, (m.1 (suc n)).1 (subst (λ (w : Step Op). FirstFalse (criteria O c w) (suc n)) (sym e) f.1))
  to_asked l (x ∷ ss) (a ∷ qs) c m (inr f) = inr ((m.1 0).1 f.0, to_asked l ss qs (then c x) (m.2 f.0) f.1)

  -- a named step that fails
  from_named : (ss : List (Step Op)) (qs : List (Asked Op)) (c : Config Op) → Matches O c ss qs → NamedFails qs s n → FailsFrom O c (on_line line ss) line s n
  from_named ss [] c m f = absurd f
  from_named [] (a ∷ qs) c m f = absurd m
  from_named (x ∷ ss) (a ∷ qs) c m (inl f) =
      let e : s ≡ x = subst (λ (w : Option (Step Op)). IsStep w x) f.0 m.0 in
      inl (ap (λ (w : Step Op). record { line = line; what = w }) (sym e), subst (λ (w : Step Op). FirstFalse (criteria O c w) (suc n)) (sym e) ((m.1 (suc n)).0 f.1))
  from_named (x ∷ ss) (a ∷ qs) c m (inr f) = let k = (m.1 0).0 f.0 in inr (k, from_named ss qs (then c x) (m.2 k) f.1)

  -- The verdict is a rejection by this criterion.
  pub fails_verdict : (ss : LinedSteps Op) (c : Config Op) (i : ℕ) → FailsFrom O c ss line s n → (k : ℕ) × IsVerdictFrom O i c (bare ss) (Rejected k (suc n))
  fails_verdict [] c i f = absurd f
  fails_verdict (x ∷ ss) c i (inl f) = (i, inl (n, subst (λ (w : Lined (Step Op)). FirstFalse (criteria O c w.what) (suc n)) (sym f.0) f.1, refl))
  fails_verdict (x ∷ ss) c i (inr f) = let k = fails_verdict ss (then c x.what) (suc i) f.1 in (k.0, inr (f.0, k.1))

-- A run whose verdict is a rejection has such a step.
pub verdict_fails : {Op State : Type 0} (O : Object Op State) (ss : LinedSteps Op) (c : Config Op) (i k m : ℕ) → IsVerdictFrom O i c (bare ss) (Rejected k m) → (line : ℕ) × (s : Step Op) × (n : ℕ) × (m ≡ suc n) × FailsFrom O c ss line s n
verdict_fails O [] c i k m v = absurd (cc)
verdict_fails O (x ∷ ss) c i k m (inl v) = (x.line, x.what, v.0, (let e : Rejected k m ≡ Rejected i (suc v.0) = v.2 in cc), inl (refl, v.1))
verdict_fails O (x ∷ ss) c i k m (inr v) = let r = verdict_fails O ss (then c x.what) (suc i) k m v.1 in (r.0, r.1, r.2, r.3, inr (v.0, r.4))

module _ {Op State : Type 0} (style : Style) (has : HasSummary style) (O : Object Op State) (place : Op → ℕ) (part : PlacesPart O place) (tells : TellsStates O) (ks : List Kind) (line : ℕ) (s : Step Op) (n : ℕ) where
  abbrev Fails : Standing Front Op → Records (RunRecord Op) → Type 0
  Fails p rs = FailsFrom O p.config (joined_steps (translation place style ks) p rs) line s n

  -- The state of the run on the object after a record.
  abbrev stand_after : Standing Front Op → Option (RunRecord Op) → Standing Front Op
  stand_after q None = q
  stand_after q (Some r) = after_record (translation place style ks) q r

  -- steps of a record, one after another
  good_runs : (p : Standing Front Op) (r : RunRecord Op) → IsOfStyle style r → Summable O place p.front p.config → SummaryGood style O place (summary_of place p) r → RunsFrom O p.config (steps_at (translation place style ks) p r)
  good_runs p r st b g = (((decided style has O place part tells).records ks).good p r st b).0 g

  -- a failure after a good record
  more_fails : (p : Standing Front Op) (r : RunRecord Op) (l : ℕ) (rs : Records (RunRecord Op)) → RunsFrom O p.config (steps_at (translation place style ks) p r) → Fails (after_record (translation place style ks) p r) rs →
      Fails p (record { line = l; what = r } ∷ rs)
  more_fails p r l rs g f =
      let T = translation place style ks in
      let ss = steps_at T p r in
      fails_right O line s n (on_line l ss) (joined_steps T (after_record T p r) rs) p.config (subst (λ (w : List (Step Op)). RunsFrom O p.config w) (sym (bare_on_line l ss)) g)
      (subst (λ (w : List (Step Op)). FailsFrom O (after_from p.config w) (joined_steps T (after_record T p r) rs) line s n) (sym (bare_on_line l ss)) f)

  -- The restriction of a good record leads on.
  module _ (o : ℕ) (C : Summary Op) (q : Standing Front Op) (b : Summable O place q.front q.config) (is : summary_of place q ≡ C) where
    leads_on : (w : Option (RunRecord Op)) → Stays place o style w → RestrictedGood style O place C w →
        Summable O place (stand_after q w).front (stand_after q w).config × (summary_of place (stand_after q w) ≡ after_restricted place style C w)
    leads_on None st g = (b, is)
    leads_on (Some r) st g =
        let d = (decided style has O place part tells).records ks in
        let k : SummaryGood style O place (summary_of place q) r = subst (λ (Z : Summary Op). SummaryGood style O place Z r) (sym is) g in
        (d.kept q r st b k, d.step q r st b k ∙ ap (λ (Z : Summary Op). next_summary place style Z r) is)

    later_fails : (w : Option (RunRecord Op)) (l : ℕ) (rs : Records (RunRecord Op)) → Stays place o style w → RestrictedGood style O place C w → Fails (stand_after q w) rs → Fails q (with_record l w rs)
    later_fails None l rs st g f = f
    later_fails (Some r) l rs st g f = more_fails q r l rs (good_runs q r st b (subst (λ (Z : Summary Op). SummaryGood style O place Z r) (sym is) g)) f

    now_fails : (w : Option (RunRecord Op)) (rs : Records (RunRecord Op)) → Stays place o style w → RestrictedFails style O place C w s n → Fails q (with_record line w rs)
    now_fails None rs st f = absurd f
    now_fails (Some r) rs st f =
        let T = translation place style ks in
        fails_left O line s n (on_line line (steps_at T q r)) (joined_steps T (after_record T q r) rs) q.config
        (from_named O line s n (steps_at T q r) (record_asks style O place (summary_of place q) r) q.config (record_match O place part tells style has q.front q.config b r st)
        (subst (λ (Z : Summary Op). NamedFails (record_asks style O place Z r) s n) (sym is) f))

  fails_local : (rs : Records (RunRecord Op)) (p : Standing Front Op) (q : ℕ → Standing Front Op) (js : ℕ → List ℕ) → Each (IsOfStyle style) (bare rs) → Summable O place p.front p.config →
      ((o : ℕ) → Summable O place (q o).front (q o).config) → ((o : ℕ) → summary_of place (q o) ≡ summary_at place o (js o) (summary_of place p)) → ((o i : ℕ) → In i (js o) → In i (summary_of place p).ids) →
      Fails p rs → IsOfBookkeeping s (suc n) ⊎ ((o : ℕ) × Fails (q o) (restricted_records place o rs))
  fails_local [] p q js st b bs is known f = absurd f
  fails_local (r ∷ rs) p q js st b bs is known f =
      let T = translation place style ks in
      let B = summary_of place p in
      let fit = fits O place p.front p.config b in
      let d = (decided style has O place part tells).records ks in
      elim (fails_cases O line s n (on_line r.line (steps_at T p r.what)) (joined_steps T (after_record T p r.what) rs) p.config f) [
        | inl k ↦ elim (record_fails O place part style has B fit s n js known r.what
            (to_asked O line s n r.line (steps_at T p r.what) (record_asks style O place B r.what) p.config (record_match O place part tells style has p.front p.config b r.what st.0) k)) [
              | inl h ↦ inl h
              | inr h ↦
                  let o = h.0 in
                  let w = restricted place o r.what in
                  inr (
                    o,
                    subst (λ (l : ℕ). Fails (q o) (with_record l w (restricted_records place o rs))) (sym (own_line O line s n r.line (steps_at T p r.what) p.config k))
                        (now_fails o (summary_at place o (js o) B) (q o) (bs o) (is o) w (restricted_records place o rs) (stays place o style r.what st.0) h.1),
                  )
            ]
        | inr k ↦
            let g : SummaryGood style O place B r.what = (d.good p r.what st.0 b).1 (subst (λ (w : List (Step Op)). RunsFrom O p.config w) (bare_on_line r.line (steps_at T p r.what)) k.0) in
            let step = d.step p r.what st.0 b g in
            let good = λ (o : ℕ). restriction_good style has O place part B o (js o) (known o) r.what g in
            let on = λ (o : ℕ). leads_on o (summary_at place o (js o) B) (q o) (bs o) (is o) (restricted place o r.what) (stays place o style r.what st.0) (good o) in
            elim (fails_local rs (after_record T p r.what) (λ o. stand_after (q o) (restricted place o r.what)) (λ o. ids_after place o (js o) r.what) st.1 (d.kept p r.what st.0 b g)
            (λ o. (on o).0)
            (λ o. (on o).1 ∙ restricted_ends O place style B fit o (js o) r.what ∙ ap (λ (Z : Summary Op). summary_at place o (ids_after place o (js o) r.what) Z) (sym step))
            (λ o i j. subst (λ (Z : Summary Op). In i Z.ids) (sym step) (known_after place style o (js o) B r.what (known o) i j))
            (subst (λ (w : List (Step Op)). FailsFrom O (after_from p.config w) (joined_steps T (after_record T p r.what) rs) line s n) (bare_on_line r.line (steps_at T p r.what)) k.1)) [
              | inl h ↦ inl h
              | inr h ↦ inr (h.0, later_fails h.0 (summary_at place h.0 (js h.0) B) (q h.0) (bs h.0) (is h.0) (restricted place h.0 r.what) r.line (restricted_records place h.0 rs) (stays place h.0 style r.what st.0) (good h.0) h.1)
            ]
      ]

  -- A rejection is one of the bookkeeping, or on an object.
  pub rejected_local : (h : Option (Start Op)) (rs : Records (RunRecord Op)) → Each (IsOfStyle style) (bare rs) → StartMeets O h → RunFails style O place ks h rs line s n →
      IsOfBookkeeping s (suc n) ⊎ ((o : ℕ) × RunFails style O place ks (restricted_start place o h) (restricted_records place o rs) line s n)
  rejected_local h rs st m f =
      let T = translation place style ks in
      let start = (keeps style has O place part).start ks in
      fails_local rs (outset T h) (λ o. outset T (restricted_start place o h)) (λ o. start_ids place o h) st (start h m) (λ o. start (restricted_start place o h) (((start_local O place part h).0 m).1 o))
      (λ o. outset_at place o style ks h) (λ o. start_known place o h) f

  -- the records before the one that fails
  split_fails : (rs : Records (RunRecord Op)) (p : Standing Front Op) → Fails p rs →
      (before : Records (RunRecord Op)) × (r : Lined (RunRecord Op)) × (more : Records (RunRecord Op)) × (rs ≡ before ++ r ∷ more) × (r.line ≡ line) × RunsFrom O p.config (bare (joined_steps (translation place style ks) p before))
  split_fails [] p f = absurd f
  split_fails (r ∷ rs) p f =
      let T = translation place style ks in
      let ss = steps_at T p r.what in
      elim (fails_cases O line s n (on_line r.line ss) (joined_steps T (after_record T p r.what) rs) p.config f) [
        | inl k ↦ ([], r, rs, refl, own_line O line s n r.line ss p.config k, tt)
        | inr k ↦
            let m = split_fails rs (after_record T p r.what) (subst (λ (w : List (Step Op)). FailsFrom O (after_from p.config w) (joined_steps T (after_record T p r.what) rs) line s n) (bare_on_line r.line ss) k.1) in (
              r ∷ m.0,
              m.1,
              m.2,
              ap (λ (w : Records (RunRecord Op)). r ∷ w) m.3,
              m.4,
              subst (λ (w : List (Step Op)). RunsFrom O p.config w) (sym (bare_append (on_line r.line ss) (joined_steps T (after_record T p r.what) m.0)))
                  (runs_append O p.config (bare (on_line r.line ss)) (bare (joined_steps T (after_record T p r.what) m.0)) k.0
                  (subst (λ (w : List (Step Op)). RunsFrom O (after_from p.config w) (bare (joined_steps T (after_record T p r.what) m.0))) (sym (bare_on_line r.line ss)) m.5)),
            )
      ]

  each_before : (before more : Records (RunRecord Op)) → Each (IsOfStyle style) (bare (before ++ more)) → Each (IsOfStyle style) (bare before)
  each_before [] more st = tt
  each_before (r ∷ before) more st = (st.0, each_before before more st.1)

  -- No restriction is rejected at an earlier record.
  pub accepted_before : (h : Option (Start Op)) (rs : Records (RunRecord Op)) → Each (IsOfStyle style) (bare rs) → StartMeets O h → RunFails style O place ks h rs line s n → AcceptedUpTo style O place ks h rs line
  accepted_before h rs st m f =
      let T = translation place style ks in
      let k = split_fails rs (outset T h) f in
      let a : IsAccepted style O place ks h k.0 = (accepted_iff O h (bare (joined_steps T (outset T h) k.0))).1 (m, k.5) in
      record {
        before = k.0;
        next = k.1;
        after = k.2;
        parts = k.3;
        on_line = k.4;
        whole = a;
        each = ((accepted_local style has O place part tells ks h k.0 (each_before k.0 (k.1 ∷ k.2) (subst (λ (w : Records (RunRecord Op)). Each (IsOfStyle style) (bare w)) k.3 st))).0 a).1;
      }

  -- a rejection of a run
  pub rejects : (h : Option (Start Op)) (rs : Records (RunRecord Op)) → StartMeets O h → RunFails style O place ks h rs line s n → (i : ℕ) × HasVerdict style O place ks h rs (Rejected i (suc n))
  rejects h rs m f = let k = fails_verdict O line s n (joined_steps (translation place style ks) (outset (translation place style ks) h) rs) (first h) 1 f in (k.0, inr (m, k.1))

-- a run that is rejected
pub run_fails : {Op State : Type 0} (style : Style) (O : Object Op State) (place : Op → ℕ) (ks : List Kind) (h : Option (Start Op)) (rs : Records (RunRecord Op)) (i m : ℕ) → StartMeets O h → HasVerdict style O place ks h rs (Rejected i m) →
    (line : ℕ) × (s : Step Op) × (n : ℕ) × (m ≡ suc n) × RunFails style O place ks h rs line s n
run_fails style O place ks h rs i m a (inl v) = absurd (let e = one_number (start_criteria O h) 0 _ a v.1 in cc)
run_fails style O place ks h rs i m a (inr v) = verdict_fails O (joined_steps (translation place style ks) (outset (translation place style ks) h) rs) (first h) 1 i m v.1

-- The runs of the three styles are local.
pub locals : {Op State : Type 0} (style : Style) → HasSummary style → (O : Object Op State) (place : Op → ℕ) → PlacesPart O place → TellsStates O → IsLocal style O place
locals style has O place part tells =
    record {
      start = start_local O place part;
      accepted = λ ks h rs st. accepted_local style has O place part tells ks h rs st;
      enough = λ ks h rs objects st start on book g. enough_objects style has O place part tells ks h rs st objects start on book g;
      rejected = λ ks h rs line s n st m f. rejected_local style has O place part tells ks line s n h rs st m f;
      earlier = λ ks h rs line s n st m f. accepted_before style has O place part tells ks line s n h rs st m f;
      verdict = λ ks h rs line s n m f. rejects style has O place part tells ks line s n h rs m f;
      fails = λ ks h rs i k m v. run_fails style O place ks h rs i k m v;
    }
