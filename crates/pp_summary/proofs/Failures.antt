-- Which record of a run fails.
use Rattle.std.specs.Prelude.{◌≡◌, ◌⊎◌, ℕ, zero, suc, ◌+◌, ◌≤◌, ◌<◌, List, [], ◌∷◌, ◌++◌, length, slice_get, Option, Some}
use Rattle.std.proofs.Common.{refl, sym, ap, subst, ◌∙◌, arith, append_assoc}
use Rattle.std.proofs.lemmas.List.{append-nil}
use mathlib.Core.Logic.{inl, inr}
use Rattle.pp_model.specs.Object.{Object}
use Rattle.pp_model.specs.Config.{Config, Start, Step, after_from, first, then}
use Rattle.pp_model.specs.Rules.{IsVerdict, IsVerdictFrom, Rejected, RunsFrom, StartMeets, Verdict, criteria}
use Rattle.pp_model.proofs.Parted.{one_number}
use Rattle.pp_records.specs.Runs.{Lined, LinedSteps, Records, Standing, Translation, after_record, bare, joined_steps, on_line, outset, steps_at}
use Rattle.pp_records.proofs.Ends.{bare_append, bare_on_line, heads, length_bare, runs_append, runs_back, runs_front, tails}
use Rattle.pp_records.proofs.Whole.{joined_more, led_config, unbegun}
use Rattle.pp_summary.specs.Failures.{FailsIn, FailureLaw, IsRejectedOn, all_steps, standing_after}

-- A verdict on two lists of steps, one after the other: the first list has the first step that fails, or all its steps meet their criteria.
pub cut_verdict : {Op State : Type 0} (O : Object Op State) (ss rest : List (Step Op)) (i : ℕ) (c : Config Op) (v : Verdict) → IsVerdictFrom O i c (ss ++ rest) v →
    (RunsFrom O c ss × IsVerdictFrom O (i + length ss) (after_from c ss) rest v)
    ⊎ ((RunsFrom O c ss → ⊥) × ((step n : ℕ) × (v ≡ Rejected step (suc n)) × (i ≤ step) × (step < i + length ss)))
cut_verdict {Op} O [] rest i c v h = inl (tt, subst (λ (k : ℕ). IsVerdictFrom O k c rest v) (let e : i ≡ i + 0 = omega arith in e) h)
cut_verdict O (s ∷ ss) rest i c v (inl h) = inr (
  (λ k. let z : suc h.0 ≡ 0 = one_number (criteria O c s) (suc h.0) 0 h.1 k.0 in cc),
  (i, h.0, h.2, omega arith, omega arith),
)
cut_verdict {Op} O (s ∷ ss) rest i c v (inr h) = elim (cut_verdict O ss rest (suc i) (then c s) v h.1) [
  | inl r ↦ inl ((h.0, r.0), subst (λ (k : ℕ). IsVerdictFrom O k (after_from (then c s) ss) rest v) (let e : suc i + length ss ≡ i + suc (length ss) = omega arith in e) r.1)
  | inr r ↦ inr ((λ k. r.0 k.1), (r.1.0, r.1.1, r.1.2, (let e : suc i ≤ r.1.0 = r.1.3 in omega arith), (let e : r.1.0 < suc i + length ss = r.1.4 in omega arith)))
]

-- Two cuts of one list are the same, or one of them comes after the other.
cuts : {A : Type 0} (b c : List A) (x y : A) (xs ys : List A) → b ++ x ∷ xs ≡ c ++ y ∷ ys → ((x ≡ y) × (b ≡ c)) ⊎ ((z : List A) × (c ≡ b ++ x ∷ z)) ⊎ ((z : List A) × (b ≡ c ++ y ∷ z))
cuts [] [] x y xs ys e = inl (heads x y xs ys e, refl)
cuts {A} [] (d ∷ c) x y xs ys e = inr (inl (c, ap (λ (w : A). w ∷ c) (sym (heads x d xs (c ++ y ∷ ys) e))))
cuts {A} (d ∷ b) [] x y xs ys e = inr (inr (b, ap (λ (w : A). w ∷ b) (heads d y (b ++ x ∷ xs) ys e)))
cuts {A} (d ∷ b) (g ∷ c) x y xs ys e =
    let k = heads d g (b ++ x ∷ xs) (c ++ y ∷ ys) e in
    elim (cuts b c x y xs ys (tails d g (b ++ x ∷ xs) (c ++ y ∷ ys) e)) [
      | inl h ↦ inl (h.0, ap (λ (w : List A). d ∷ w) h.1 ∙ ap (λ (w : A). w ∷ c) k)
      | inr (inl h) ↦ inr (inl (h.0, ap (λ (w : List A). g ∷ w) h.1 ∙ ap (λ (w : A). w ∷ (b ++ x ∷ h.0)) (sym k)))
      | inr (inr h) ↦ inr (inr (h.0, ap (λ (w : List A). d ∷ w) h.1 ∙ ap (λ (w : A). w ∷ (c ++ y ∷ h.0)) k))
    ]

-- A step at a position after the first list and within the second has its line.
pub lined_there : {A : Type 0} (xs : List (Lined A)) (line : ℕ) (ss : List A) (rest : List (Lined A)) (k : ℕ) → length xs ≤ k → k < length xs + length ss →
    (s : Lined A) × (slice_get (xs ++ (on_line line ss ++ rest)) k ≡ Some s) × (s.line ≡ line)
lined_there [] line [] rest k l m = absurd (omega arith)
lined_there [] line (a ∷ ss) rest zero l m = (record { line = line; what = a }, refl, refl)
lined_there [] line (a ∷ ss) rest (suc k) l m = lined_there [] line ss rest k (omega arith) (omega arith)
lined_there (x ∷ xs) line ss rest zero l m = absurd (omega arith)
lined_there (x ∷ xs) line ss rest (suc k) l m = lined_there xs line ss rest k (omega arith) (omega arith)

module _ {F R Op State : Type 0} (O : Object Op State) (T : Translation F R Op) (h : Option (Start Op)) where
  -- The records before r, and those after it.
  module _ (rs more : Records R) (r : Lined R) where
    abbrev d : Standing F Op
    d = standing_after T h rs

    abbrev e : List (Step Op)
    e = steps_at T d r.what

    abbrev xs : List (Step Op)
    xs = bare (all_steps T h rs)

    abbrev ys : List (Step Op)
    ys = bare (joined_steps T (after_record T d r.what) more)

    steps_are : all_steps T h (rs ++ r ∷ more) ≡ all_steps T h rs ++ (on_line r.line e ++ joined_steps T (after_record T d r.what) more)
    steps_are = joined_more O T (outset T h) rs (r ∷ more)

    bare_are : bare (all_steps T h (rs ++ r ∷ more)) ≡ xs ++ (e ++ ys)
    bare_are =
        ap (λ (z : LinedSteps Op). bare z) steps_are
        ∙ bare_append (all_steps T h rs) (on_line r.line e ++ joined_steps T (after_record T d r.what) more)
        ∙ ap (λ (z : List (Step Op)). xs ++ z) (bare_append (on_line r.line e) (joined_steps T (after_record T d r.what) more) ∙ ap (λ (z : List (Step Op)). z ++ ys) (bare_on_line r.line e))

    config_is : d.config ≡ after_from (first h) xs
    config_is = led_config O T (outset T h) rs

    -- If each step of the run meets its criteria, each step of the record does.
    own_hold : RunsFrom O (first h) (bare (all_steps T h (rs ++ r ∷ more))) → RunsFrom O d.config e
    own_hold k =
        subst (λ (c : Config Op). RunsFrom O c e) (sym config_is)
        (runs_front O (after_from (first h) xs) e ys (runs_back O (first h) xs (e ++ ys) (subst (λ (z : List (Step Op)). RunsFrom O (first h) z) bare_are k)))

    verdict_here : RunsFrom O (first h) xs → (RunsFrom O d.config e → ⊥) → (v : Verdict) → IsVerdict O h (bare (all_steps T h (rs ++ r ∷ more))) v → StartMeets O h →
        IsRejectedOn (all_steps T h (rs ++ r ∷ more)) r.line v
    verdict_here hold fails v (inl k) begun = absurd (unbegun O h k.0 begun k.1)
    verdict_here hold fails v (inr k) begun =
        elim (cut_verdict O xs (e ++ ys) 1 (first h) v (subst (λ (z : List (Step Op)). IsVerdictFrom O 1 (first h) z v) bare_are k.1)) [
          | inr a ↦ absurd (a.0 hold)
          | inl a ↦ elim (cut_verdict O e ys (1 + length xs) d.config v (subst (λ (c : Config Op). IsVerdictFrom O (1 + length xs) c (e ++ ys) v) (sym config_is) a.1)) [
            | inl z ↦ absurd (fails z.0)
            | inr z ↦ found z.1.0 z.1.1 z.1.2 z.1.3 z.1.4
          ]
        ]
      where
        found : (step n : ℕ) → v ≡ Rejected step (suc n) → 1 + length xs ≤ step → step < (1 + length xs) + length e → IsRejectedOn (all_steps T h (rs ++ r ∷ more)) r.line v
        found zero n is l m = absurd (omega arith)
        found (suc i) n is l m =
            let u : length xs ≡ length (all_steps T h rs) = length_bare (all_steps T h rs) in
            let s = lined_there (all_steps T h rs) r.line e (joined_steps T (after_record T d r.what) more) i (omega arith) (omega arith) in
            (i, n, is, (s.0, subst (λ (z : LinedSteps Op). slice_get z i ≡ Some s.0) (sym steps_are) s.1, s.2))

  -- If all steps of the records so far and of the next record meet their criteria, all steps with this record do.
  pub hold_next : (rs : Records R) (r : Lined R) → RunsFrom O (first h) (bare (all_steps T h rs)) → RunsFrom O (standing_after T h rs).config (steps_at T (standing_after T h rs) r.what) →
      RunsFrom O (first h) (bare (all_steps T h (rs ++ r ∷ [])))
  hold_next rs r a b =
      let s = steps_at T (standing_after T h rs) r.what in
      subst (λ (z : List (Step Op)). RunsFrom O (first h) z) (sym (bare_are rs [] r ∙ ap (λ (z : List (Step Op)). bare (all_steps T h rs) ++ z) (append-nil s)))
      (runs_append O (first h) (bare (all_steps T h rs)) s a (subst (λ (c : Config Op). RunsFrom O c s) (config_is rs [] r) b))

  none : (rs : Records R) (r : Lined R) → FailsIn O T h rs r → RunsFrom O (first h) (bare (all_steps T h rs)) → ⊥
  none rs r k a = k.fails (own_hold k.before k.behind r (subst (λ (z : Records R). RunsFrom O (first h) (bare (all_steps T h z))) k.parts a))

  one : (rs : Records R) (r q : Lined R) (a : FailsIn O T h rs r) (b : FailsIn O T h rs q) → (r ≡ q) × (a.before ≡ b.before)
  one rs r q a b = elim (cuts a.before b.before r q a.behind b.behind (sym a.parts ∙ b.parts)) [
    | inl e ↦ e
    | inr (inl e) ↦ absurd (none b.before r (record { begun = a.begun; before = a.before; behind = e.0; parts = e.1; hold = a.hold; fails = a.fails }) b.hold)
    | inr (inr e) ↦ absurd (none a.before q (record { begun = b.begun; before = b.before; behind = e.0; parts = e.1; hold = b.hold; fails = b.fails }) a.hold)
  ]

  stays : (rs more : Records R) (r : Lined R) → FailsIn O T h rs r → FailsIn O T h (rs ++ more) r
  stays rs more r k =
      record {
        begun = k.begun;
        before = k.before;
        behind = k.behind ++ more;
        parts = ap (λ (z : Records R). z ++ more) k.parts ∙ append_assoc k.before (r ∷ k.behind) more;
        hold = k.hold;
        fails = k.fails;
      }

  -- If not all steps of the records meet their criteria, one of the records fails.
  some : (rs before : Records R) → StartMeets O h → RunsFrom O (first h) (bare (all_steps T h before)) → (RunsFrom O (first h) (bare (all_steps T h (before ++ rs))) → ⊥) →
      ((r : Lined R) → FailsIn O T h (before ++ rs) r → ⊥) → ⊥
  some [] before begun hold bad nowhere = bad (subst (λ (z : Records R). RunsFrom O (first h) (bare (all_steps T h z))) (sym (append-nil before)) hold)
  some (r ∷ rs) before begun hold bad nowhere =
      let same : (before ++ r ∷ []) ++ rs ≡ before ++ r ∷ rs = append_assoc before (r ∷ []) rs in
      nowhere r (record {
        begun = begun;
        before = before;
        behind = rs;
        parts = refl;
        hold = hold;
        fails = λ k.
            some rs (before ++ r ∷ []) begun (hold_next before r hold k)
            (λ a. bad (subst (λ (z : Records R). RunsFrom O (first h) (bare (all_steps T h z))) same a))
            (λ q f. nowhere q (subst (λ (z : Records R). FailsIn O T h z q) same f));
      })

  unbegun_verdict : (rs : Records R) (v : Verdict) → (StartMeets O h → ⊥) → IsVerdict O h (bare (all_steps T h rs)) v → (n : ℕ) × (v ≡ Rejected 0 (suc n))
  unbegun_verdict rs v not_met (inl k) = (k.0, k.2)
  unbegun_verdict rs v not_met (inr k) = absurd (not_met k.0)

  verdict : (rs : Records R) (r : Lined R) (v : Verdict) → FailsIn O T h rs r → IsVerdict O h (bare (all_steps T h rs)) v → IsRejectedOn (all_steps T h rs) r.line v
  verdict rs r v k a =
      subst (λ (z : Records R). IsRejectedOn (all_steps T h z) r.line v) (sym k.parts)
      (verdict_here k.before k.behind r k.hold k.fails v (subst (λ (z : Records R). IsVerdict O h (bare (all_steps T h z)) v) k.parts a) k.begun)

-- At most one record of a run fails: the one of the first step that breaks a criterion.
pub failure_law : {F R Op State : Type 0} (O : Object Op State) (T : Translation F R Op) → FailureLaw O T
failure_law O T =
    record {
      one = λ h rs r q a b. one O T h rs r q a b;
      none = λ h rs r k a. none O T h rs r k a;
      some = λ h rs begun bad nowhere. some O T h rs [] begun tt bad nowhere;
      stays = λ h rs more r k. stays O T h rs more r k;
      unbegun = λ h rs v not_met k. unbegun_verdict O T h rs v not_met k;
      verdict = λ h rs r v k a. verdict O T h rs r v k a;
    }
