-- What a reader of records keeps true.
use Rattle.std.specs.Prelude.{◌≡◌, ◌<◌, ◌≤◌, ◌+◌, ℕ, suc, List, [], ◌∷◌, ◌++◌, length, Option}
use Rattle.std.proofs.Common.{refl, sym, ap, subst, ◌∙◌, arith, append_assoc, length-append}
use Rattle.std.proofs.lemmas.List.{append-nil, map-append}
use mathlib.Core.Logic.{inl, inr}
use Rattle.pp_model.specs.Object.{Object}
use Rattle.pp_model.specs.Config.{Config, Start, Step, after_from, first}
use Rattle.pp_model.specs.Rules.{Accepted, Breaks, IsVerdict, IsVerdictFrom, Rejected, RunsFrom}
use Rattle.pp_model.proofs.Verdict.{accepted_iff}
use Rattle.pp_records.specs.Runs.{EndsAtFailure, HasOneMore, HasTooManySteps, IsRun, Lined, Standing}
use Rattle.pp_records.specs.Runs.{Translation, bare, joined_steps, after_records, on_line, outset}
use Rattle.pp_records.specs.Runs.{after_record, steps_at}
use Rattle.pp_records.specs.Laws.{IsRejectedAt, ReadingLaw, StandsAt}
use Rattle.pp_records.proofs.Ends.{after_append, bare_append, bare_on_line, ends_here, ends_whole}
use Rattle.pp_records.proofs.Ends.{failing_first, few_steps, length_bare, length_on_line}
use Rattle.pp_records.proofs.Ends.{rejected_here, runs_append}
use Rattle.pp_records.proofs.Whole.{joined_more, led_config, led_more, unbegun}

on_line_append : {A : Type 0} (line : ℕ) (xs ys : List A) → on_line line (xs ++ ys) ≡ on_line line xs ++ on_line line ys
on_line_append {A} line xs ys = map-append (λ (s : A). let z : Lined A = record { line = line; what = s } in z) xs ys

module _ {F R Op State : Type 0} (O : Object Op State) (T : Translation F R Op) where
  -- The records, one of which is after the first ones.
  joined_at : (h : Option (Start Op)) (rs more : List (Lined R)) (p : Standing F Op) (r : Lined R) → p ≡ after_records T (outset T h) rs →
      joined_steps T (outset T h) (rs ++ r ∷ more) ≡ joined_steps T (outset T h) rs ++ (on_line r.line (steps_at T p r.what) ++ joined_steps T (after_record T p r.what) more)
  joined_at h rs more p r e =
      joined_more O T (outset T h) rs (r ∷ more)
      ∙ ap (λ (w : Standing F Op). joined_steps T (outset T h) rs ++ (on_line r.line (steps_at T w r.what) ++ joined_steps T (after_record T w r.what) more)) (sym e)

  -- The state of the run after some steps of a record.
  record Within (h : Option (Start Op)) (p : Standing F Op) (count : ℕ) (before : List (Step Op)) (xs : List (Lined (Step Op))) : Type 0 where
    pub hold : RunsFrom O (first h) (bare xs)
    pub config : after_from (first h) (bare xs) ≡ after_from p.config before
    pub number : length xs ≡ count + length before

  within : (h : Option (Start Op)) (rs : List (Lined R)) (p : Standing F Op) (count line : ℕ) (before : List (Step Op)) → StandsAt O T h rs p count → RunsFrom O p.config before →
      Within h p count before (joined_steps T (outset T h) rs ++ on_line line before)
  within h rs p count line before s r =
      let ss : List (Lined (Step Op)) = joined_steps T (outset T h) rs in
      let both : bare (ss ++ on_line line before) ≡ bare ss ++ before = bare_append ss (on_line line before) ∙ ap (λ (w : List (Step Op)). bare ss ++ w) (bare_on_line line before) in
      let here : after_from (first h) (bare ss) ≡ p.config = sym (ap (λ (w : Standing F Op). w.config) s.place ∙ led_config O T (outset T h) rs) in
      record {
        hold = subst (λ (w : List (Step Op)). RunsFrom O (first h) w) (sym both)
            (runs_append O (first h) (bare ss) before s.hold (subst (λ (w : Config Op). RunsFrom O w before) (sym here) r));
        config = ap (λ (w : List (Step Op)). after_from (first h) w) both ∙ after_append (first h) (bare ss) before ∙ ap (λ (w : Config Op). after_from w before) here;
        number = length-append ss (on_line line before) ∙ ap (λ (w : ℕ). length ss + w) (length_on_line line before) ∙ ap (λ (w : ℕ). w + length before) (sym s.number);
      }

  one_more_record : (h : Option (Start Op)) (rs : List (Lined R)) (p : Standing F Op) (count : ℕ) (r : Lined R) → StandsAt O T h rs p count →
      RunsFrom O p.config (steps_at T p r.what) → count + length (steps_at T p r.what) ≤ 200_000 →
      StandsAt O T h (rs ++ r ∷ []) (after_record T p r.what) (count + length (steps_at T p r.what))
  one_more_record h rs p count r s holds few =
      let ss : List (Step Op) = steps_at T p r.what in
      let w = within h rs p count r.line ss s holds in
      let whole : joined_steps T (outset T h) (rs ++ r ∷ []) ≡ joined_steps T (outset T h) rs ++ on_line r.line ss =
      joined_at h rs [] p r s.place ∙ ap (λ (w : List (Lined (Step Op))). joined_steps T (outset T h) rs ++ w) (append-nil (on_line r.line ss)) in
      record {
        begun = s.begun;
        hold = subst (λ (w : List (Lined (Step Op))). RunsFrom O (first h) (bare w)) (sym whole) w.hold;
        place = ap (λ (w : Standing F Op). after_record T w r.what) s.place ∙ sym (led_more O T (outset T h) rs (r ∷ []));
        number = sym (ap (λ (w : List (Lined (Step Op))). length w) whole ∙ w.number);
        few = few;
      }

  -- The steps of all records, of which one more is after those within.
  parted_at : (h : Option (Start Op)) (rs more : List (Lined R)) (p : Standing F Op) (r : Lined R) (before behind : List (Step Op)) (step : Step Op) →
      p ≡ after_records T (outset T h) rs → steps_at T p r.what ≡ before ++ step ∷ behind →
      joined_steps T (outset T h) (rs ++ r ∷ more)
      ≡ (joined_steps T (outset T h) rs ++ on_line r.line before) ++ record { line = r.line; what = step } ∷ (on_line r.line behind ++ joined_steps T (after_record T p r.what) more)
  parted_at h rs more p r before behind step e parts =
      let ss : List (Lined (Step Op)) = joined_steps T (outset T h) rs in
      let rest : List (Lined (Step Op)) = joined_steps T (after_record T p r.what) more in
      joined_at h rs more p r e
      ∙ ap (λ (w : List (Step Op)). ss ++ (on_line r.line w ++ rest)) parts
      ∙ ap (λ (w : List (Lined (Step Op))). ss ++ (w ++ rest)) (on_line_append r.line before (step ∷ behind))
      ∙ ap (λ (w : List (Lined (Step Op))). ss ++ w) (append_assoc (on_line r.line before) (on_line r.line (step ∷ behind)) rest)
      ∙ sym (append_assoc ss (on_line r.line before) (on_line r.line (step ∷ behind) ++ rest))

  failing_record : (h : Option (Start Op)) (rs more : List (Lined R)) (p : Standing F Op) (count : ℕ) (r : Lined R) (before behind : List (Step Op)) (step : Step Op) (n : ℕ) →
      StandsAt O T h rs p count → steps_at T p r.what ≡ before ++ step ∷ behind → RunsFrom O p.config before → count + length before < 200_000 →
      Breaks O (after_from p.config before) step (suc n) →
      IsRejectedAt O T h (rs ++ r ∷ more) (joined_steps T (outset T h) rs ++ on_line r.line (before ++ step ∷ [])) (count + length before + 1) n
  failing_record h rs more p count r before behind step n s parts holds few fails =
      let xs : List (Lined (Step Op)) = joined_steps T (outset T h) rs ++ on_line r.line before in
      let one : Lined (Step Op) = record { line = r.line; what = step } in
      let ys : List (Lined (Step Op)) = on_line r.line behind ++ joined_steps T (after_record T p r.what) more in
      let w = within h rs p count r.line before s holds in
      let whole : joined_steps T (outset T h) (rs ++ r ∷ more) ≡ xs ++ one ∷ ys = parted_at h rs more p r before behind step s.place parts in
      let here : Breaks O (after_from (first h) (bare xs)) step (suc n) = subst (λ (w : Config Op). Breaks O w step (suc n)) (sym w.config) fails in
      let run_is : joined_steps T (outset T h) rs ++ on_line r.line (before ++ step ∷ []) ≡ xs ++ one ∷ [] =
      ap (λ (w : List (Lined (Step Op))). joined_steps T (outset T h) rs ++ w) (on_line_append r.line before (step ∷ [])) ∙ sym (append_assoc (joined_steps T (outset T h) rs) (on_line r.line before) (one ∷ [])) in
      let named : 1 + length (bare xs) ≡ count + length before + 1 = number (length (bare xs)) (count + length before) (length_bare xs ∙ w.number) in
      record {
        run_is = inr (
          s.begun,
          subst (λ (w : List (Lined (Step Op))). EndsAtFailure O (first h) w (joined_steps T (outset T h) rs ++ on_line r.line (before ++ step ∷ []))) (sym whole)
              (subst (λ (w : List (Lined (Step Op))). EndsAtFailure O (first h) (xs ++ one ∷ ys) w) (sym run_is) (ends_here O (first h) xs one ys n w.hold here)),
        );
        verdict = inr (
          s.begun,
          subst (λ (w : List (Step Op)). IsVerdictFrom O 1 (first h) w (Rejected (count + length before + 1) (suc n))) (sym (ap (λ (w : List (Lined (Step Op))). bare w) run_is ∙ bare_append xs (one ∷ [])))
              (subst (λ (w : ℕ). IsVerdictFrom O 1 (first h) (bare xs ++ step ∷ []) (Rejected w (suc n))) named (rejected_here O 1 (first h) (bare xs) step [] n w.hold here)),
        );
        few = λ line m. failing_first O 200_000 (first h) xs ys one n line (short (length xs) (count + length before) w.number few) here
            (subst (λ (w : List (Lined (Step Op))). HasOneMore O 200_000 (first h) w line) whole m.1);
      }
    where
      number : (a b : ℕ) → a ≡ b → 1 + a ≡ b + 1
      number a b e = omega arith

      short : (a b : ℕ) → a ≡ b → b < 200_000 → a < 200_000
      short a b e l = omega arith

  record_too_long : (h : Option (Start Op)) (rs more : List (Lined R)) (p : Standing F Op) (count : ℕ) (r : Lined R) (before behind : List (Step Op)) (step : Step Op) →
      StandsAt O T h rs p count → steps_at T p r.what ≡ before ++ step ∷ behind → RunsFrom O p.config before → count + length before ≡ 200_000 →
      HasTooManySteps O T h (rs ++ r ∷ more) r.line
  record_too_long h rs more p count r before behind step s parts holds full =
      let w = within h rs p count r.line before s holds in (
        s.begun,
        record {
          before = joined_steps T (outset T h) rs ++ on_line r.line before;
          next = record { line = r.line; what = step };
          behind = on_line r.line behind ++ joined_steps T (after_record T p r.what) more;
          parts = parted_at h rs more p r before behind step s.place parts;
          count = w.number ∙ full;
          hold = w.hold;
          place = refl;
        },
      )

  all_hold : (h : Option (Start Op)) (rs : List (Lined R)) (p : Standing F Op) (count : ℕ) → StandsAt O T h rs p count →
      IsRun O T h rs (joined_steps T (outset T h) rs) × IsVerdict O h (bare (joined_steps T (outset T h) rs)) Accepted × ((line : ℕ) → HasTooManySteps O T h rs line → ⊥)
  all_hold h rs p count s =
      let ss : List (Lined (Step Op)) = joined_steps T (outset T h) rs in (
        inr (s.begun, ends_whole O (first h) ss s.hold),
        (accepted_iff O h (bare ss)).1 (s.begun, s.hold),
        λ line m. few_steps O 200_000 (first h) ss line (subst (λ (w : ℕ). w ≤ 200_000) s.number s.few) m.1,
      )

  -- A reader that takes the records one by one keeps the run that they have so far.
  pub reading_law : ReadingLaw O T
  reading_law =
      record {
        nothing = λ h b. record { begun = b; hold = tt; place = refl; number = refl; few = omega arith };
        more = one_more_record;
        fails = failing_record;
        too_many = record_too_long;
        unbegun = λ h rs n f. record { run_is = inl (n, f, refl); verdict = inl (n, f, refl); few = λ line m. unbegun O h n m.0 f };
        end = all_hold;
      }
