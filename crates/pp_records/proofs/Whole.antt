-- The run of a list of records: there is one at most, and records after others extend it.
use Rattle.std.specs.Prelude.{◌≡◌, ◌+◌, ℕ, zero, suc, List, [], ◌∷◌, ◌++◌, length, take, Option}
use Rattle.std.proofs.Common.{refl, sym, ap, subst, ◌∙◌, arith, append_assoc}
use mathlib.Core.Logic.{inl, inr}
use Rattle.pp_model.specs.Object.{Object}
use Rattle.pp_model.specs.Config.{Config, Start, Step, after_from, first}
use Rattle.pp_model.specs.Rules.{Accepted, IsVerdict, Rejected, RunsFrom, StartBreaks, StartMeets}
use Rattle.pp_model.specs.Rules.{FirstFalse, Verdict, start_criteria}
use Rattle.pp_model.proofs.Parted.{one_number}
use Rattle.pp_records.specs.Runs.{EndsAtFailure, HasOneMore, HasTooManySteps, IsRun, IsRunFrom, Lined}
use Rattle.pp_records.specs.Runs.{Standing, Translation, bare, joined_steps, after_records, on_line}
use Rattle.pp_records.specs.Runs.{outset, after_record, steps_at}
use Rattle.pp_records.specs.Laws.{ExtendsLaw, OneRunLaw, up_to}
use Rattle.pp_records.proofs.Ends.{accepted_ends, after_append, bare_append, bare_on_line}
use Rattle.pp_records.proofs.Ends.{ends_behind, ends_once, ends_some, ends_split, failed_stays, less_before}
use Rattle.pp_records.proofs.Ends.{more_before, more_behind, one_line, rejected_from, verdict_off}
use Rattle.pp_records.proofs.Ends.{some_number, verdict_on}

-- A start that meets its criteria breaks none.
pub unbegun : {Op State : Type 0} (O : Object Op State) (h : Option (Start Op)) (n : ℕ) → StartMeets O h → StartBreaks O h (suc n) → ⊥
unbegun O h n a b = let e : zero ≡ suc n = one_number _ zero (suc n) a b in cc

module _ {F R Op State : Type 0} (O : Object Op State) (T : Translation F R Op) where
  some_run : (h : Option (Start Op)) (rs : List (Lined R)) → ((run : List (Lined (Step Op))) → IsRun O T h rs run → ⊥) → ⊥
  some_run h rs none = some_number (start_criteria O h) judged
    where
      judged : (n : ℕ) → FirstFalse (start_criteria O h) n → ⊥
      judged zero m = ends_some O (first h) (joined_steps T (outset T h) rs) (λ (run : List (Lined (Step Op))) e. none run (inr (m, e)))
      judged (suc n) b = none [] (inl (n, b, refl))

  one_run : (h : Option (Start Op)) (rs : List (Lined R)) (a b : List (Lined (Step Op))) → IsRun O T h rs a → IsRun O T h rs b → a ≡ b
  one_run h rs a b (inl x) (inl y) = x.2 ∙ sym y.2
  one_run h rs a b (inl x) (inr y) = absurd (unbegun O h x.0 y.0 x.1)
  one_run h rs a b (inr x) (inl y) = absurd (unbegun O h y.0 x.0 y.1)
  one_run h rs a b (inr x) (inr y) = ends_once O (first h) (joined_steps T (outset T h) rs) a b x.1 y.1

  run_verdict : (h : Option (Start Op)) (rs : List (Lined R)) (run : List (Lined (Step Op))) (v : Verdict) → IsRun O T h rs run →
      IsVerdict O h (bare run) v → IsVerdict O h (bare (joined_steps T (outset T h) rs)) v
  run_verdict h rs run v r (inl k) = inl k
  run_verdict h rs run v (inl r) (inr k) = absurd (unbegun O h r.0 k.0 r.1)
  run_verdict h rs run v (inr r) (inr k) = inr (k.0, verdict_on O 1 (first h) (joined_steps T (outset T h) rs) run v r.1 k.1)

  verdict_run : (h : Option (Start Op)) (rs : List (Lined R)) (run : List (Lined (Step Op))) (v : Verdict) → IsRun O T h rs run →
      IsVerdict O h (bare (joined_steps T (outset T h) rs)) v → IsVerdict O h (bare run) v
  verdict_run h rs run v r (inl k) = inl k
  verdict_run h rs run v (inl r) (inr k) = absurd (unbegun O h r.0 k.0 r.1)
  verdict_run h rs run v (inr r) (inr k) = inr (k.0, verdict_off O 1 (first h) (joined_steps T (outset T h) rs) run v r.1 k.1)

  run_told : (h : Option (Start Op)) (rs : List (Lined R)) (v : Verdict) → IsVerdict O h (bare (joined_steps T (outset T h) rs)) v →
      IsRun O T h rs (up_to v (joined_steps T (outset T h) rs))
  run_told h rs v (inl k) = inl (k.0, k.1, ap (λ (w : Verdict). up_to w (joined_steps T (outset T h) rs)) k.2)
  run_told h rs Accepted (inr k) = inr (k.0, accepted_ends O 1 (first h) (joined_steps T (outset T h) rs) k.1)
  run_told h rs (Rejected i n) (inr k) =
      let r = rejected_from O 1 (first h) (joined_steps T (outset T h) rs) i n k.1 in
      let ss : List (Lined (Step Op)) = joined_steps T (outset T h) rs in
      let at : suc r.0 ≡ i = number i r.0 r.1 in
      inr (k.0, subst (λ (w : ℕ). EndsAtFailure O (first h) ss (take w ss)) at r.2)
    where
      number : (i k : ℕ) → i ≡ 1 + k → suc k ≡ i
      number i k e = omega arith

  -- Records cannot have no run; they have at most one, and it has the verdict of all their steps.
  pub one_run_law : OneRunLaw O T
  one_run_law =
      record {
        some = some_run;
        run = one_run;
        line = λ h rs m n a b. one_line O 200_000 (first h) (joined_steps T (outset T h) rs) m n a.1 b.1;
        verdict = λ h rs run v r. (run_verdict h rs run v r, verdict_run h rs run v r);
        told = run_told;
      }

  -- Records after others.
  pub joined_more : (p : Standing F Op) (rs more : List (Lined R)) → joined_steps T p (rs ++ more) ≡ joined_steps T p rs ++ joined_steps T (after_records T p rs) more
  joined_more p [] more = refl
  joined_more p (r ∷ rs) more =
      ap (λ (w : List (Lined (Step Op))). on_line r.line (steps_at T p r.what) ++ w) (joined_more (after_record T p r.what) rs more)
      ∙ sym (append_assoc (on_line r.line (steps_at T p r.what)) (joined_steps T (after_record T p r.what) rs) (joined_steps T (after_records T (after_record T p r.what) rs) more))

  -- The state after two parts of records is the state after the second part, from the state after the first.
  pub led_more : (p : Standing F Op) (rs more : List (Lined R)) → after_records T p (rs ++ more) ≡ after_records T (after_records T p rs) more
  led_more p [] more = refl
  led_more p (r ∷ rs) more = led_more (after_record T p r.what) rs more

  -- The configuration after records is the one after their joined steps.
  pub led_config : (p : Standing F Op) (rs : List (Lined R)) → (after_records T p rs).config ≡ after_from p.config (bare (joined_steps T p rs))
  led_config p [] = refl
  led_config p (r ∷ rs) =
      let ss : List (Step Op) = steps_at T p r.what in
      let rest : List (Lined (Step Op)) = joined_steps T (after_record T p r.what) rs in
      led_config (after_record T p r.what) rs
      ∙ sym (after_append p.config ss (bare rest))
      ∙ ap (λ (w : List (Step Op)). after_from p.config (w ++ bare rest)) (sym (bare_on_line r.line ss))
      ∙ ap (λ (w : List (Step Op)). after_from p.config w) (sym (bare_append (on_line r.line ss) rest))

  run_to : (p : Standing F Op) (rs more : List (Lined R)) (run : List (Lined (Step Op))) → RunsFrom O p.config (bare (joined_steps T p rs)) →
      IsRunFrom O T p (rs ++ more) run → (rest : List (Lined (Step Op))) × IsRunFrom O T (after_records T p rs) more rest × (run ≡ joined_steps T p rs ++ rest)
  run_to p rs more run r e =
      let k = ends_split O p.config (joined_steps T p rs) (joined_steps T (after_records T p rs) more) run r
      (subst (λ (w : List (Lined (Step Op))). EndsAtFailure O p.config w run) (joined_more p rs more) e) in
      (k.0, subst (λ (w : Config Op). EndsAtFailure O w (joined_steps T (after_records T p rs) more) k.0) (sym (led_config p rs)) k.1, k.2)

  run_of : (p : Standing F Op) (rs more : List (Lined R)) (run : List (Lined (Step Op))) → RunsFrom O p.config (bare (joined_steps T p rs)) →
      (rest : List (Lined (Step Op))) × IsRunFrom O T (after_records T p rs) more rest × (run ≡ joined_steps T p rs ++ rest) → IsRunFrom O T p (rs ++ more) run
  run_of p rs more run r k =
      let xs : List (Lined (Step Op)) = joined_steps T p rs in
      let ys : List (Lined (Step Op)) = joined_steps T (after_records T p rs) more in
      let behind : EndsAtFailure O (after_from p.config (bare xs)) ys k.0 = subst (λ (w : Config Op). EndsAtFailure O w ys k.0) (led_config p rs) k.1 in
      subst (λ (w : List (Lined (Step Op))). EndsAtFailure O p.config w run) (sym (joined_more p rs more))
      (subst (λ (w : List (Lined (Step Op))). EndsAtFailure O p.config (xs ++ ys) w) (sym k.2) (ends_behind O p.config xs ys k.0 r behind))

  more_to : (p : Standing F Op) (rs more : List (Lined R)) (most line : ℕ) →
      HasOneMore O (length (joined_steps T p rs) + most) p.config (joined_steps T p (rs ++ more)) line → HasOneMore O most (after_records T p rs).config (joined_steps T (after_records T p rs) more) line
  more_to p rs more most line m =
      let xs : List (Lined (Step Op)) = joined_steps T p rs in
      let ys : List (Lined (Step Op)) = joined_steps T (after_records T p rs) more in
      subst (λ (w : Config Op). HasOneMore O most w ys line) (sym (led_config p rs))
      (less_before O most p.config xs ys line (subst (λ (w : List (Lined (Step Op))). HasOneMore O (length xs + most) p.config w line) (joined_more p rs more) m))

  more_of : (p : Standing F Op) (rs more : List (Lined R)) (most line : ℕ) → RunsFrom O p.config (bare (joined_steps T p rs)) →
      HasOneMore O most (after_records T p rs).config (joined_steps T (after_records T p rs) more) line → HasOneMore O (length (joined_steps T p rs) + most) p.config (joined_steps T p (rs ++ more)) line
  more_of p rs more most line r m =
      let xs : List (Lined (Step Op)) = joined_steps T p rs in
      let ys : List (Lined (Step Op)) = joined_steps T (after_records T p rs) more in
      subst (λ (w : List (Lined (Step Op))). HasOneMore O (length xs + most) p.config w line) (sym (joined_more p rs more))
      (more_before O most p.config xs ys line r (subst (λ (w : Config Op). HasOneMore O most w ys line) (led_config p rs) m))

  still_rejected : (h : Option (Start Op)) (rs more : List (Lined R)) (run : List (Lined (Step Op))) (i n : ℕ) →
      IsRun O T h rs run → IsVerdict O h (bare run) (Rejected i n) → IsRun O T h (rs ++ more) run
  still_rejected h rs more run i n (inl r) v = inl r
  still_rejected h rs more run i n (inr r) (inl v) = absurd (unbegun O h v.0 r.0 v.1)
  still_rejected h rs more run i n (inr r) (inr v) =
      inr (
        r.0,
        subst (λ (w : List (Lined (Step Op))). EndsAtFailure O (first h) w run) (sym (joined_more (outset T h) rs more))
            (failed_stays O 1 (first h) (joined_steps T (outset T h) rs) (joined_steps T (after_records T (outset T h) rs) more) run i n r.1 v.1),
      )

  still_too_many : (h : Option (Start Op)) (rs more : List (Lined R)) (line : ℕ) → HasTooManySteps O T h rs line → HasTooManySteps O T h (rs ++ more) line
  still_too_many h rs more line m = (
    m.0,
    subst (λ (w : List (Lined (Step Op))). HasOneMore O 200_000 (first h) w line) (sym (joined_more (outset T h) rs more))
        (more_behind O 200_000 (first h) (joined_steps T (outset T h) rs) (joined_steps T (after_records T (outset T h) rs) more) line m.1),
  )

  -- Records after others only extend the run. If each step of the first ones holds, the run of all is these steps, followed by the run of
  -- the others from the state that the first ones lead to.
  pub extends_law : ExtendsLaw O T
  extends_law =
      record {
        steps = joined_more;
        leads = led_more;
        config = led_config;
        run = λ p rs more run r. (run_to p rs more run r, run_of p rs more run r);
        one_more = λ p rs more most line r. (more_to p rs more most line, more_of p rs more most line r);
        rejected = still_rejected;
        too_many = still_too_many;
      }
