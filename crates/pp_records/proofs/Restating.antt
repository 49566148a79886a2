-- Style rules, and the steps of a run taken as its records.
use Rattle.std.specs.Prelude.{◌≡◌, ◌≤◌, ◌↔◌, ℕ, suc, List, [], ◌∷◌, ◌++◌, length, Option}
use Rattle.std.proofs.Common.{refl, sym, ap, subst, ◌∙◌}
use mathlib.Core.Logic.{inl, inr}
use Rattle.pp_core.specs.declared.call.Kind.{Kind}
use Rattle.pp_core.specs.declared.call.Style.{Style}
use Rattle.pp_core.specs.declared.call.Style.TheVariants.{Rules}
use Rattle.pp_model.specs.Object.{Object}
use Rattle.pp_model.specs.Config.{Config, Start, Step, first, then}
use Rattle.pp_model.specs.Rules.{Breaks, Meets, IsVerdict, RunsFrom, StartMeets, Verdict}
use Rattle.pp_records.specs.Fronts.{Front}
use Rattle.pp_records.specs.Runs.{EndsAtFailure, HasOneMore, HasTooManySteps, IsRun, Lined, Standing}
use Rattle.pp_records.specs.Runs.{Translation, bare, joined_steps, outset}
use Rattle.pp_records.specs.Styles.{RestatedLaw, RulesLaw, numbered, plain, restated, translation}
use Rattle.pp_records.proofs.Ends.{bare_append, few_steps, heads, length_bare, more_behind, tails}
use Rattle.pp_records.proofs.Whole.{one_run_law, unbegun}

-- The steps of records that are steps are these steps, in every style.
pub plain_steps : {Op : Type 0} (place : Op → ℕ) (style : Style) (ks : List Kind) (p : Standing Front Op) (ss : List (Lined (Step Op))) → joined_steps (translation place style ks) p (plain ss) ≡ ss
plain_steps place style ks p [] = refl
plain_steps {Op} place style ks p (s ∷ ss) =
    ap (λ (w : List (Lined (Step Op))). s ∷ w) (plain_steps place style ks (record { front = p.front; config = then p.config s.what }) ss)

module _ {Op State : Type 0} (O : Object Op State) (place : Op → ℕ) (ks : List Kind) (h : Option (Start Op)) where
  plain_ends : (ss run : List (Lined (Step Op))) → EndsAtFailure O (first h) ss run → EndsAtFailure O (first h) (joined_steps (translation place Rules ks) (outset (translation place Rules ks) h) (plain ss)) run
  plain_ends ss run e = subst (λ (w : List (Lined (Step Op))). EndsAtFailure O (first h) w run) (sym (plain_steps place Rules ks (outset (translation place Rules ks) h) ss)) e

  plain_run : (ss run : List (Lined (Step Op))) → StartMeets O h → IsRun O (translation place Rules ks) h (plain ss) run → EndsAtFailure O (first h) ss run
  plain_run ss run b (inl r) = absurd (unbegun O h r.0 b r.1)
  plain_run ss run b (inr r) = subst (λ (w : List (Lined (Step Op))). EndsAtFailure O (first h) w run) (plain_steps place Rules ks (outset (translation place Rules ks) h) ss) r.1

  plain_verdict : (ss run : List (Lined (Step Op))) (v : Verdict) → IsRun O (translation place Rules ks) h (plain ss) run → IsVerdict O h (bare run) v ↔ IsVerdict O h (bare ss) v
  plain_verdict ss run v r =
      subst (λ (w : List (Lined (Step Op))). IsVerdict O h (bare run) v ↔ IsVerdict O h (bare w) v) (plain_steps place Rules ks (outset (translation place Rules ks) h) ss)
      ((one_run_law O (translation place Rules ks)).verdict h (plain ss) run v r)

  plain_few : (ss : List (Lined (Step Op))) (line : ℕ) → length ss ≤ 200_000 → HasTooManySteps O (translation place Rules ks) h (plain ss) line → ⊥
  plain_few ss line few m =
      few_steps O 200_000 (first h) (joined_steps (translation place Rules ks) (outset (translation place Rules ks) h) (plain ss)) line
      (subst (λ (w : List (Lined (Step Op))). length w ≤ 200_000) (sym (plain_steps place Rules ks (outset (translation place Rules ks) h) ss)) few) m.1

-- In style `rules`, the run of records is the steps up to and with the first that fails.
pub rules_law : {Op State : Type 0} (O : Object Op State) → RulesLaw O
rules_law O =
    record {
      steps = plain_steps;
      run = λ place ks h ss run b. (plain_run O place ks h ss run b, λ e. inr (b, plain_ends O place ks h ss run e));
      verdict = λ place ks h ss run v r. plain_verdict O place ks h ss run v r;
      few = λ place ks h ss line few m. plain_few O place ks h ss line few m;
    }

-- Steps that are put on numbered lines are bare what they were.
pub bare_numbered : {A : Type 0} (i : ℕ) (ss : List A) → bare (numbered i ss) ≡ ss
bare_numbered i [] = refl
bare_numbered {A} i (s ∷ ss) = ap (λ (w : List A). s ∷ w) (bare_numbered (suc i) ss)

-- a run is its own run, on other lines too
ends_again : {Op State : Type 0} (O : Object Op State) (c : Config Op) (ss run again : List (Lined (Step Op))) → EndsAtFailure O c ss run → bare again ≡ bare run → EndsAtFailure O c again again
ends_again O c ss run [] e same = refl
ends_again {Op} O c [] run (x ∷ again) e same =
    absurd (let z : x.what ∷ bare again ≡ [] = same ∙ ap (λ (w : List (Lined (Step Op))). bare w) e in cc)
ends_again {Op} O c (s ∷ ss) run (x ∷ again) (inl e) same =
    let both : x.what ∷ bare again ≡ s.what ∷ [] = same ∙ ap (λ (w : List (Lined (Step Op))). bare w) e.2 in
    let none : again ≡ [] = bare_none again (tails x.what s.what (bare again) [] both) in
    inl (e.0, subst (λ (w : Step Op). Breaks O c w (suc e.0)) (sym (heads x.what s.what (bare again) [] both)) e.1, ap (λ (w : List (Lined (Step Op))). x ∷ w) none)
  where
    bare_none : {A : Type 0} (xs : List (Lined A)) → bare xs ≡ [] → xs ≡ []
    bare_none [] e = refl
    bare_none (y ∷ xs) e = absurd (cc)
ends_again {Op} O c (s ∷ ss) run (x ∷ again) (inr e) same =
    let both : x.what ∷ bare again ≡ s.what ∷ bare e.1.0 = same ∙ ap (λ (w : List (Lined (Step Op))). bare w) e.1.2 in
    let here : x.what ≡ s.what = heads x.what s.what (bare again) (bare e.1.0) both in
    let rest : EndsAtFailure O (then c s.what) again again = ends_again O (then c s.what) ss e.1.0 again e.1.1 (tails x.what s.what (bare again) (bare e.1.0) both) in
    inr (subst (λ (w : Step Op). Meets O c w) (sym here) e.0, (again, subst (λ (w : Step Op). EndsAtFailure O (then c w) again again) (sym here) rest, refl))

-- a run is a front of the steps
pub run_front : {Op State : Type 0} (O : Object Op State) (c : Config Op) (ss run : List (Lined (Step Op))) → EndsAtFailure O c ss run → (rest : List (Lined (Step Op))) × (ss ≡ run ++ rest)
run_front O c [] run e = ([], ap (λ (w : List (Lined (Step _))). w ++ []) (sym e))
run_front {Op} O c (s ∷ ss) run (inl e) = (ss, ap (λ (w : List (Lined (Step Op))). w ++ ss) (sym e.2))
run_front {Op} O c (s ∷ ss) run (inr e) =
    let r = run_front O (then c s.what) ss e.1.0 e.1.1 in
    (r.0, ap (λ (w : List (Lined (Step Op))). s ∷ w) r.1 ∙ ap (λ (w : List (Lined (Step Op))). w ++ r.0) (sym e.1.2))

-- if the bare steps part, the steps do
record PartsAt {A : Type 0} (run : List (Lined A)) (xs : List A) : Type 0 where
  pub before : List (Lined A)
  pub next : Lined A
  pub behind : List (Lined A)
  pub parts : run ≡ before ++ next ∷ behind
  pub same : bare before ≡ xs

parts_at : {A : Type 0} (run : List (Lined A)) (xs ys : List A) (y : A) → bare run ≡ xs ++ y ∷ ys → PartsAt run xs
parts_at [] [] ys y e = absurd (cc)
parts_at [] (x ∷ xs) ys y e = absurd (cc)
parts_at (r ∷ run) [] ys y e = record { before = []; next = r; behind = run; parts = refl; same = refl }
parts_at {A} (r ∷ run) (x ∷ xs) ys y e =
    let k = parts_at run xs ys y (tails r.what x (bare run) (xs ++ y ∷ ys) e) in
    record {
      before = r ∷ k.before;
      next = k.next;
      behind = k.behind;
      parts = ap (λ (w : List (Lined A)). r ∷ w) k.parts;
      same = ap (λ (w : List A). r.what ∷ w) k.same ∙ ap (λ (w : A). w ∷ xs) (heads r.what x (bare run) (xs ++ y ∷ ys) e);
    }

-- one more step in the same steps on other lines
one_more_again : {Op State : Type 0} (O : Object Op State) (most : ℕ) (c : Config Op) (run again : List (Lined (Step Op))) (line : ℕ) → bare again ≡ bare run → HasOneMore O most c again line →
    (other : ℕ) × HasOneMore O most c run other
one_more_again {Op} O most c run again line same m =
    let k = parts_at run (bare m.before) (bare m.behind) m.next.what (sym same ∙ ap (λ (w : List (Lined (Step Op))). bare w) m.parts ∙ bare_append m.before (m.next ∷ m.behind)) in (
      k.next.line,
      record {
        before = k.before;
        next = k.next;
        behind = k.behind;
        parts = k.parts;
        count = sym (length_bare k.before) ∙ ap (λ (w : List (Step Op)). length w) k.same ∙ length_bare m.before ∙ m.count;
        hold = subst (λ (w : List (Step Op)). RunsFrom O c w) (sym k.same) m.hold;
        place = refl;
      },
    )

module _ {F R Op State : Type 0} (O : Object Op State) (T : Translation F R Op) where
  -- The steps of a run, as records of style `rules`, have that run.
  pub restated_run : (place : Op → ℕ) (ks : List Kind) (h : Option (Start Op)) (rs : List (Lined R)) (run : List (Lined (Step Op))) → IsRun O T h rs run →
      IsRun O (translation place Rules ks) h (plain (restated run)) (restated run)
  restated_run place ks h rs run (inl r) = inl (r.0, r.1, ap (λ (w : List (Lined (Step Op))). restated w) r.2)
  restated_run place ks h rs run (inr r) =
      inr (r.0, plain_ends O place ks h (restated run) (restated run) (ends_again O (first h) (joined_steps T (outset T h) rs) run (restated run) r.1 (bare_numbered 1 (bare run))))

  restated_verdict : (place : Op → ℕ) (ks : List Kind) (h : Option (Start Op)) (run again : List (Lined (Step Op))) (v : Verdict) →
      IsRun O (translation place Rules ks) h (plain (restated run)) again → IsVerdict O h (bare again) v ↔ IsVerdict O h (bare run) v
  restated_verdict place ks h run again v a =
      subst (λ (w : List (Step Op)). IsVerdict O h (bare again) v ↔ IsVerdict O h w v) (bare_numbered 1 (bare run)) (plain_verdict O place ks h (restated run) again v a)

  restated_few : (place : Op → ℕ) (ks : List Kind) (h : Option (Start Op)) (rs : List (Lined R)) (run : List (Lined (Step Op))) → IsRun O T h rs run →
      ((line : ℕ) → HasTooManySteps O T h rs line → ⊥) → (line : ℕ) → HasTooManySteps O (translation place Rules ks) h (plain (restated run)) line → ⊥
  restated_few place ks h rs run (inl r) none line m = unbegun O h r.0 m.0 r.1
  restated_few place ks h rs run (inr r) none line m =
      let ss : List (Lined (Step Op)) = joined_steps T (outset T h) rs in
      let front = run_front O (first h) ss run r.1 in
      let m1 : HasOneMore O 200_000 (first h) (restated run) line =
      subst (λ (w : List (Lined (Step Op))). HasOneMore O 200_000 (first h) w line) (plain_steps place Rules ks (outset (translation place Rules ks) h) (restated run)) m.1 in
      let m2 = one_more_again O 200_000 (first h) run (restated run) line (bare_numbered 1 (bare run)) m1 in
      none m2.0 (r.0, subst (λ (w : List (Lined (Step Op))). HasOneMore O 200_000 (first h) w m2.0) (sym front.1) (more_behind O 200_000 (first h) run front.0 m2.0 m2.1))

  -- The steps of a run, as records of style `rules`, have the same run and verdict.
  pub restated_law : RestatedLaw O T
  restated_law =
      record {
        steps = λ run. bare_numbered 1 (bare run);
        run = restated_run;
        verdict = λ place ks h rs run again v r a. restated_verdict place ks h run again v a;
        few = restated_few;
      }
