-- A report names a breakable criterion.
use Rattle.std.specs.Prelude.{◌≡◌, ◌+◌, ℕ, zero, suc, List, [], ◌∷◌, ◌++◌, length, slice_get, Option, None}
use Rattle.std.specs.Prelude.{Some}
use Rattle.std.proofs.Common.{refl, sym, ap, subst, ◌∙◌, append_assoc, arith}
use Rattle.std.proofs.lemmas.Option.{same_Some}
use mathlib.Core.Logic.{inl, inr}
use Rattle.pp_core.specs.declared.step.Rule.TheVariants as rules
use Rattle.pp_core.specs.Steps.{rule_of}
use Rattle.pp_records.specs.Expansions.{IsRecorded}
use Rattle.pp_records.specs.Inputs.{IsReportBehind, IsReportOf, IsRunReport}
use Rattle.pp_records.specs.Runs.{IsRun, Lined, LinedSteps, bare, joined_steps, outset}
use Rattle.pp_records.proofs.Restating.{run_front}
use Rattle.pp_format_read.specs.declared.header.Header.{Header}
use Rattle.pp_model.specs.Config.{Config, Start, Step, after_from, first, then}
use Rattle.pp_model.specs.Lists.{In}
use Rattle.pp_model.specs.Object.{Object}
use Rattle.pp_model.specs.Rules.{Accepted, Breaks, IsVerdict, IsVerdictFrom, Rejected, RunsFrom, StartBreaks}
use Rattle.pp_model.specs.Rules.{Verdict}
use Rattle.pp_model.proofs.Lists.{not_empty}
use Rattle.pp_objects.specs.declared.act.Op.{Op}
use Rattle.pp_objects.specs.laws.Objects.{objects_placed}
use Rattle.pp_objects.specs.Objects.{kinds_of, place_of}
use Rattle.pp_input.specs.declared.limits.Limits.{Limits}
use Rattle.pp_input_reader.specs.declared.cause.Cause.{Cause}
use Rattle.pp_judge.specs.Inputs.{scan_within}
use Rattle.pp_judge.specs.Objects.{object_of, setting_of, start_of, translation_of}
use Rattle.pp_judge.specs.Reports.{RunReport}
use Rattle.pp_laws_runs.specs.Breakable.{breakable}
use Rattle.pp_laws_runs.specs.Reported.{NamesBreakable, ReportedLaw}
use Rattle.pp_laws_runs.proofs.Law.{breakable_law}
use Rattle.pp_laws_runs.proofs.Rows.{in_start_row}
use Rattle.pp_laws_runs.proofs.Numbers.{in_two, of_none, of_two}
use Rattle.pp_laws_runs.proofs.ScannedRecords.{scan_styled}

-- the step that a verdict names
record FailsAt {Op State : Type 0} (O : Object Op State) (c : Config Op) (ss : LinedSteps Op) (i j n : ℕ) : Type 0 where
  pub past : LinedSteps Op
  pub step : Lined (Step Op)
  pub rest : LinedSteps Op
  pub criterion : ℕ
  pub parts : ss ≡ past ++ step ∷ rest
  pub hold : RunsFrom O c (bare past)
  pub breaks : Breaks O (after_from c (bare past)) step.what (suc criterion)
  pub place : j ≡ i + length past
  pub number : n ≡ suc criterion

one_later : (i k j : ℕ) → j ≡ suc i + k → j ≡ i + suc k
one_later i k j e = omega (arith, e)

here : (i j : ℕ) → j ≡ i → j ≡ i + 0
here i j e = omega (arith, e)

same_step : (i j n m : ℕ) → Rejected j n ≡ Rejected i m → j ≡ i
same_step i j n m e = cc

same_number : (i j n m : ℕ) → Rejected j n ≡ Rejected i m → n ≡ m
same_number i j n m e = cc

fails_at : {Op State : Type 0} (O : Object Op State) (i : ℕ) (c : Config Op) (ss : LinedSteps Op) (j n : ℕ) → IsVerdictFrom O i c (bare ss) (Rejected j n) → FailsAt O c ss i j n
fails_at O i c [] j n v = absurd (let e : Rejected j n ≡ Accepted = v in cc)
fails_at {Op} O i c (s ∷ ss) j n (inl v) = record {
  past = [];
  step = s;
  rest = ss;
  criterion = v.0;
  parts = refl;
  hold = tt;
  breaks = v.1;
  place = here i j (same_step i j n (suc v.0) v.2);
  number = same_number i j n (suc v.0) v.2;
}
fails_at {Op} O i c (s ∷ ss) j n (inr v) =
    let f = fails_at O (suc i) (then c s.what) ss j n v.1 in
    record {
      past = s ∷ f.past;
      step = f.step;
      rest = f.rest;
      criterion = f.criterion;
      parts = ap (λ (w : LinedSteps Op). s ∷ w) f.parts;
      hold = (v.0, f.hold);
      breaks = f.breaks;
      place = one_later i (length f.past) j f.place;
      number = f.number;
    }

get_after : {A : Type 0} (xs ys : List A) (x : A) → slice_get (xs ++ x ∷ ys) (length xs) ≡ Some x
get_after [] ys x = refl
get_after (z ∷ xs) ys x = get_after xs ys x

not_zero : (k : ℕ) → 0 ≡ 1 + k → ⊥
not_zero k e = omega (arith, e)

less_one : (i k : ℕ) → suc i ≡ 1 + k → k ≡ i
less_one i k e = omega (arith, e)

module _ (limits : Limits) (bytes : List ℕ) (h : Lined Header) (there : (scan_within limits bytes).header ≡ Some h) (recorded : IsRecorded h.what.style) where
  start_listed : (o : Option (Start Op)) (n : ℕ) → StartBreaks (object_of h.what) o (suc n) → In (suc n) (breakable rules.Start h.what.style)
  start_listed None n b = absurd (of_none n b)
  start_listed (Some z) n b = in_start_row h.what.style (λ e. subst IsRecorded e recorded) (suc n) (in_two n (of_two _ _ n b))

  module _ (run : LinedSteps Op) (is : IsRun (object_of h.what) (translation_of h.what) (start_of h.what) (scan_within limits bytes).records run) where
    -- The start of the run.
    start_named : (n : ℕ) → IsVerdict (object_of h.what) (start_of h.what) (bare run) (Rejected 0 n) → In n (breakable rules.Start h.what.style)
    start_named n (inl v) = subst (λ (k : ℕ). In k (breakable rules.Start h.what.style)) (sym (same_number 0 0 n (suc v.0) v.2)) (start_listed (start_of h.what) v.0 v.1)
    start_named n (inr v) = absurd (let f = fails_at (object_of h.what) 1 (first (start_of h.what)) run 0 n v.1 in not_zero (length f.past) f.place)

    -- A step of the run.
    step_named : (i n : ℕ) (l : Lined (Step Op)) → IsVerdict (object_of h.what) (start_of h.what) (bare run) (Rejected (suc i) n) → slice_get run i ≡ Some l → In n (breakable (rule_of l.what) h.what.style)
    step_named i n l (inl v) got = absurd (let e : suc i ≡ 0 = same_step 0 (suc i) n (suc v.0) v.2 in omega (arith, e))
    step_named i n l (inr v) got = by is
      where
        f : FailsAt (object_of h.what) (first (start_of h.what)) run 1 (suc i) n
        f = fails_at (object_of h.what) 1 (first (start_of h.what)) run (suc i) n v.1

        same : f.step ≡ l
        same = same_Some f.step l
            (sym (get_after f.past f.rest f.step) ∙ ap (λ (w : LinedSteps Op). slice_get w (length f.past)) (sym f.parts) ∙ ap (λ (k : ℕ). slice_get run k) (less_one i (length f.past) f.place) ∙ got)

        by : IsRun (object_of h.what) (translation_of h.what) (start_of h.what) (scan_within limits bytes).records run → In n (breakable (rule_of l.what) h.what.style)
        by (inl r) = absurd (not_empty f.past f.rest f.step (sym r.2 ∙ f.parts))
        by (inr r) =
            let T = translation_of h.what in
            let front = run_front (object_of h.what) (first (start_of h.what)) (joined_steps T (outset T (start_of h.what)) (scan_within limits bytes).records) run r.1 in
            let parts = front.1 ∙ ap (λ (w : LinedSteps Op). w ++ front.0) f.parts ∙ append_assoc f.past (f.step ∷ f.rest) front.0 in
            let listed = breakable_law (object_of h.what) place_of (λ a b apart. objects_placed.apart a b apart (kinds_of h.what.catalog)) h.what.style (kinds_of h.what.catalog) (start_of h.what) (scan_within limits bytes).records
            f.past (f.rest ++ front.0) f.step f.criterion recorded (scan_styled limits bytes h there) v.0 parts f.hold f.breaks in
            subst (λ (k : ℕ). In k (breakable (rule_of l.what) h.what.style)) (sym f.number)
            (subst (λ (w : Lined (Step Op)). In (suc f.criterion) (breakable (rule_of w.what) h.what.style)) same listed)

    run_named : (v : Verdict) (report : RunReport) → IsVerdict (object_of h.what) (start_of h.what) (bare run) v → IsReportOf {Cause = Cause} (setting_of h) run v report → NamesBreakable h.what.style report
    run_named Accepted report verdict e = subst (λ (r : RunReport). NamesBreakable h.what.style r) (sym e) tt
    run_named (Rejected zero n) report verdict e = subst (λ (r : RunReport). NamesBreakable h.what.style r) (sym e) (start_named n verdict)
    run_named (Rejected (suc i) n) report verdict e = subst (λ (r : RunReport). NamesBreakable h.what.style r) (sym e.2) (step_named i n e.0 verdict e.1)

-- The report of every input in a recorded style names a breakable criterion if it rejects.
pub reported_law : ReportedLaw
reported_law limits bytes fault header report there recorded behind = by fault behind
  where
    by : (o : Option (ℕ × Cause)) → IsReportBehind setting_of o (scan_within limits bytes) report → NamesBreakable header.what.style report
    by (Some f) e = subst (λ (r : RunReport). NamesBreakable header.what.style r) (sym e) tt
    by None run =
        let told = subst (λ (o : Option (Lined Header)). IsRunReport setting_of o (scan_within limits bytes).records report) there run in
        run_named limits bytes header there recorded told.0 told.2 told.1 report told.3 told.4
