-- Steps that break only breakable criteria.
use Rattle.std.specs.Prelude.{◌≡◌, ◌≢◌, ◌⊎◌, ℕ, suc, List, [], ◌∷◌, ◌++◌, Option, None, Some}
use Rattle.std.proofs.Common.{refl, arith}
use mathlib.Core.Logic.{inl, inr}
use Rattle.pp_core.specs.declared.call.Style.{Style}
use Rattle.pp_core.specs.declared.call.Style.TheVariants as styles
use Rattle.pp_core.specs.declared.step.Rule.TheVariants as rules
use Rattle.pp_core.specs.Steps.{rule_of}
use Rattle.pp_model.specs.Body.{Tree}
use Rattle.pp_model.specs.Config.{Begin, App, Cmt, Quit, Note, Config, Step, after_from, then, tx}
use Rattle.pp_model.specs.Lists.{In}
use Rattle.pp_model.specs.Names.{Name}
use Rattle.pp_model.specs.Object.{Object}
use Rattle.pp_model.specs.Rules.{Breaks, Meets, RunsFrom}
use Rattle.pp_laws_runs.specs.Breakable.{breakable}
use Rattle.pp_laws_runs.proofs.Rows.{in_app_row, in_begin_row, in_note_row, in_quit_row}
use Rattle.pp_laws_runs.proofs.Numbers.{after_there, in_one, in_two, of_none, of_nothing, of_three, of_two}

-- an option, by what it is
pub known : {A : Type 0} (o : Option A) → (o ≡ None) ⊎ ((x : A) × (o ≡ Some x))
known None = inl refl
known (Some x) = inr (x, refl)

module _ {Op State : Type 0} (O : Object Op State) (style : Style) where
  -- each step breaks a breakable criterion or none, if all steps before it meet their criteria
  abbrev pub OnlyBreaks : Config Op → List (Step Op) → Type 0
  OnlyBreaks c [] = Unit {0}
  OnlyBreaks c (s ∷ ss) =
      ((n : ℕ) → Breaks O c s (suc n) → In (suc n) (breakable (rule_of s) style))
      × (Meets O c s → OnlyBreaks (then c s) ss)

  -- If some steps break only breakable criteria, and so do others after them if the first meet theirs, so do both in turn.
  pub only_append : (c : Config Op) (xs ys : List (Step Op)) → OnlyBreaks c xs → (RunsFrom O c xs → OnlyBreaks (after_from c xs) ys) → OnlyBreaks c (xs ++ ys)
  only_append c [] ys a b = b tt
  only_append c (x ∷ xs) ys a b = (a.0, λ m. only_append (then c x) xs ys (a.1 m) (λ r. b (m, r)))

  -- If steps break only breakable criteria and those before a step meet theirs, the criterion that the step breaks is breakable.
  pub only_at : (c : Config Op) (past rest : List (Step Op)) (s : Step Op) (n : ℕ) → OnlyBreaks c (past ++ s ∷ rest) → RunsFrom O c past → Breaks O (after_from c past) s (suc n) → In (suc n) (breakable (rule_of s) style)
  only_at c [] rest s n a r b = a.0 n b
  only_at c (p ∷ past) rest s n a r b = only_at (then c p) past rest s n (a.1 r.0) r.1 b

  -- ---- steps whose criteria are all breakable

  -- In a recorded style, a BEGIN breaks only breakable criteria.
  pub begin_only : style ≢ styles.Rules → (c : Config Op) (t p : Name) (b : Option Tree) → OnlyBreaks c (Begin t p b ∷ [])
  begin_only recorded c t p b = ((λ n k. in_begin_row style recorded (suc n) (in_two n (of_two _ _ n k))), λ m. tt)

  -- In a recorded style, a criterion that an APP breaks is breakable.
  pub app_breaks : style ≢ styles.Rules → (c : Config Op) (t : Name) (id : ℕ) (op : Op) (n : ℕ) → Breaks O c (App t id op) (suc n) → In (suc n) (breakable rules.App style)
  app_breaks recorded c t id op n b = in_app_row style recorded (suc n) (elim (known (tx t c.opened)) [
    | inl e ↦ inl (let k : n ≡ 0 = of_nothing (tx t c.opened) _ n e b in omega (arith, k))
    | inr x ↦ let r = after_there (tx t c.opened) _ x.0 n x.1 b in by r.0 r.1 (of_three _ _ _ r.0 r.2)
  ])
    where
      by : (k : ℕ) → n ≡ suc k → (k ≡ 0) ⊎ (k ≡ 1) ⊎ (k ≡ 2) → In (suc n) (1 ∷ 2 ∷ 3 ∷ 4 ∷ [])
      by k e (inl h) = inr (inl (omega (arith, e, h)))
      by k e (inr (inl h)) = inr (inr (inl (omega (arith, e, h))))
      by k e (inr (inr h)) = inr (inr (inr (inl (omega (arith, e, h)))))

  -- In a recorded style, an APP breaks only breakable criteria.
  pub app_only : style ≢ styles.Rules → (c : Config Op) (t : Name) (id : ℕ) (op : Op) → OnlyBreaks c (App t id op ∷ [])
  app_only recorded c t id op = (app_breaks recorded c t id op, λ m. tt)

  note_breaks : style ≢ styles.Rules → (c : Config Op) (t : Name) (n : ℕ) → Breaks O c (Note t) (suc n) → In (suc n) (breakable rules.Note style)
  note_breaks recorded c t n b = elim (known (tx t c.opened)) [
    | inl e ↦ in_note_row style recorded (suc n) (in_one n (of_nothing (tx t c.opened) _ n e b))
    | inr x ↦ absurd (let r = after_there (tx t c.opened) _ x.0 n x.1 b in of_none r.0 r.2)
  ]

  -- In a recorded style, a NOTE and steps after it break only breakable criteria if the steps do when it meets its own.
  pub note_only : style ≢ styles.Rules → (c : Config Op) (t : Name) (ss : List (Step Op)) → (Meets O c (Note t) → OnlyBreaks c ss) → OnlyBreaks c (Note t ∷ ss)
  note_only recorded c t ss k = (note_breaks recorded c t, k)

  -- ---- a transaction that is not open

  -- In a recorded style, a QUIT of a transaction that is not open breaks only breakable criteria.
  pub quit_alone : style ≢ styles.Rules → (c : Config Op) (t : Name) → tx t c.opened ≡ None → OnlyBreaks c (Quit t ∷ [])
  quit_alone recorded c t e = ((λ n b. in_quit_row style recorded (suc n) (in_one n (of_nothing (tx t c.opened) _ n e b))), λ m. tt)

  -- In a recorded style, a CMT of a transaction that is not open breaks only breakable criteria.
  pub cmt_alone : style ≢ styles.Rules → (c : Config Op) (t : Name) → tx t c.opened ≡ None → OnlyBreaks c (Cmt t ∷ [])
  cmt_alone recorded c t e = ((λ n b. first_of style recorded n (of_nothing (tx t c.opened) _ n e b)), λ m. tt)
    where
      first_of : (style : Style) → style ≢ styles.Rules → (n : ℕ) → n ≡ 0 → In (suc n) (breakable rules.Cmt style)
      first_of styles.Rules recorded n z = absurd (recorded refl)
      first_of styles.Boosted recorded n z = inl (omega (arith, z))
      first_of styles.Optimistic recorded n z = inl (omega (arith, z))
      first_of styles.Hardware recorded n z = inl (omega (arith, z))
      first_of styles.Dependent recorded n z = inl (omega (arith, z))
