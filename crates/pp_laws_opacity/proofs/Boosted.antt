-- Proof machinery: the records of style boosted push at once.
use Rattle.std.specs.Prelude.{◌≡◌, ◌⊎◌, ℕ, List, [], ◌∷◌, ◌++◌, map, Option, None, Some}
use Rattle.std.proofs.Common.{refl, sym, ap, subst, ◌∙◌}
use mathlib.Core.Logic.{inl, inr}
use Rattle.pp_core.specs.declared.call.Kind.{Kind}
use Rattle.pp_core.specs.declared.call.Style.TheVariants.{Boosted}
use Rattle.pp_records.specs.Expansions.{IsOfStyle, expand, op_at_once, refresh, steps_of_open, taken_at, taken_out}
use Rattle.pp_records.specs.Fronts.{Front}
use Rattle.pp_records.specs.Records.{RunRecord}
use Rattle.pp_records.specs.Records as records
use Rattle.pp_records.specs.Runs.{Lined, LinedSteps, Records, Standing, after_record, bare, joined_steps, on_line, outset}
use Rattle.pp_records.specs.Styles.{translation}
use Rattle.pp_model.specs.Config.{Begin, App, Unapp, Push, Unpush, Pull, Unpull, Cmt, Quit, Note}
use Rattle.pp_model.specs.Config.{Config, LocalEntry, Mark, Pulled, Pushed, SharedEntry, Start, Step, Tx, Unpushed}
use Rattle.pp_model.specs.Config.{after_from, first, then, tx}
use Rattle.pp_model.specs.Lists.{In}
use Rattle.pp_model.specs.Names.{Name}
use Rattle.pp_model.specs.Object.{Object}
use Rattle.pp_model.specs.Rules.{RunsFrom, StartMeets}
use Rattle.pp_model.proofs.Lists.{not_empty}
use Rattle.pp_model.proofs.Steps.{there_holds}
use Rattle.pp_laws_opacity.specs.Boosted.{boosted_steps}
use Rattle.pp_laws_opacity.specs.Opacity.{IsOpaque}
use Rattle.pp_laws_opacity.specs.Sufficient.{PushesAtOnce}
use Rattle.pp_laws_opacity.proofs.Sufficient.{eager_opaque}

-- an element of two joined lists is in the first or in the second
cut : {A : Type 0} (k l past rest : List A) (x : A) → k ++ l ≡ past ++ x ∷ rest
    → ((r : List A) × (k ≡ past ++ x ∷ r) × (rest ≡ r ++ l)) ⊎ ((p : List A) × (l ≡ p ++ x ∷ rest))
cut [] l past rest x e = inr (past, e)
cut {A} (y ∷ k) l [] rest x e = inl (k, let a : y ≡ x = cc in ap (λ (w : A). w ∷ k) a, let b : k ++ l ≡ rest = cc in sym b)
cut {A} (y ∷ k) l (z ∷ past) rest x e =
    let a : y ≡ z = cc in
    let b : k ++ l ≡ past ++ x ∷ rest = cc in
    elim (cut k l past rest x b) [
      | inl r ↦ inl (r.0, ap (λ (w : A). w ∷ k) a ∙ ap (λ (w : List A). z ∷ w) r.1, r.2)
      | inr r ↦ inr (r.0, r.1)
    ]

at_once-append : {Op : Type 0} (k l : List (Step Op)) → PushesAtOnce k → PushesAtOnce l → PushesAtOnce (k ++ l)
at_once-append {Op} k l a b = record {
  app = λ past rest t id op e. elim (cut k l past rest (App t id op) e) [
    | inl r ↦ let m = a.app past r.0 t id op r.1 in (m.0 ++ l, r.2 ∙ ap (λ (w : List (Step Op)). w ++ l) m.1)
    | inr r ↦ b.app r.0 rest t id op r.1
  ];
  unpush = λ past rest t id e. elim (cut k l past rest (Unpush t id) e) [
    | inl r ↦ let m = a.unpush past r.0 t id r.1 in (m.0 ++ l, r.2 ∙ ap (λ (w : List (Step Op)). w ++ l) m.1)
    | inr r ↦ b.unpush r.0 rest t id r.1
  ];
}

none_at_once : {Op : Type 0} → PushesAtOnce {Op = Op} []
none_at_once {Op} = record { app = λ past rest t id op e. absurd (not_empty past rest (App t id op) e); unpush = λ past rest t id e. absurd (not_empty past rest (Unpush t id) e) }

-- a step that is no APP and no UNPUSH
one_at_once : {Op : Type 0} (s : Step Op) → ((t : Name) (id : ℕ) (op : Op) → s ≡ App t id op → ⊥) → ((t : Name) (id : ℕ) → s ≡ Unpush t id → ⊥) → PushesAtOnce (s ∷ [])
one_at_once {Op} s a u = record { app = λ past rest t id op e. absurd (a t id op (is s past rest (App t id op) e)); unpush = λ past rest t id e. absurd (u t id (is s past rest (Unpush t id) e)) }
  where
    is : (s : Step Op) (past rest : List (Step Op)) (x : Step Op) → s ∷ [] ≡ past ++ x ∷ rest → s ≡ x
    is s [] rest x e = cc
    is s (y ∷ past) rest x e = absurd (let n : [] ≡ past ++ x ∷ rest = cc in not_empty past rest x n)

-- an APP and its PUSH, and an UNPUSH and its UNAPP
two_at_once : {Op : Type 0} (s z : Step Op) → ((t : Name) (id : ℕ) (op : Op) → s ≡ App t id op → z ≡ Push t id) → ((t : Name) (id : ℕ) → s ≡ Unpush t id → z ≡ Unapp t id)
    → ((t : Name) (id : ℕ) (op : Op) → z ≡ App t id op → ⊥) → ((t : Name) (id : ℕ) → z ≡ Unpush t id → ⊥) → PushesAtOnce (s ∷ z ∷ [])
two_at_once {Op} s z a u na nu = record {
  app = λ past rest t id op e. elim (is s z past rest (App t id op) e) [
    | inl r ↦ ([], r.1 ∙ ap (λ (w : Step Op). w ∷ []) (a t id op r.0))
    | inr r ↦ absurd (na t id op r)
  ];
  unpush = λ past rest t id e. elim (is s z past rest (Unpush t id) e) [
    | inl r ↦ ([], r.1 ∙ ap (λ (w : Step Op). w ∷ []) (u t id r.0))
    | inr r ↦ absurd (nu t id r)
  ];
}
  where
    is : (s z : Step Op) (past rest : List (Step Op)) (x : Step Op) → s ∷ z ∷ [] ≡ past ++ x ∷ rest → ((s ≡ x) × (rest ≡ z ∷ [])) ⊎ (z ≡ x)
    is s z [] rest x e = inl (cc, let k : z ∷ [] ≡ rest = cc in sym k)
    is s z (y ∷ []) rest x e = inr (cc)
    is s z (y ∷ v ∷ past) rest x e = absurd (let n : [] ≡ past ++ x ∷ rest = cc in not_empty past rest x n)

app_push : {Op : Type 0} (t : Name) (id : ℕ) (op : Op) → PushesAtOnce (App t id op ∷ Push t id ∷ [])
app_push {Op} t id op = two_at_once (App t id op) (Push t id) (λ u i p e. same u i p e) (λ u i e. absurd (cc)) (λ u i p e. absurd (cc)) (λ u i e. absurd (cc))
  where
    same : (u : Name) (i : ℕ) (p : Op) → App t id op ≡ App u i p → ◌≡◌ {A = Step Op} (Push t id) (Push u i)
    same u i p e = let n : t ≡ u = cc in let m : id ≡ i = cc in ap (λ (w : Name). Push w id) n ∙ ap (λ (w : ℕ). Push u w) m

unpush_unapp : {Op : Type 0} (t : Name) (id : ℕ) → PushesAtOnce {Op = Op} (Unpush t id ∷ Unapp t id ∷ [])
unpush_unapp {Op} t id = two_at_once (Unpush t id) (Unapp t id) (λ u i p e. absurd (cc)) (λ u i e. same u i e) (λ u i p e. absurd (cc)) (λ u i e. absurd (cc))
  where
    same : (u : Name) (i : ℕ) → ◌≡◌ {A = Step Op} (Unpush t id) (Unpush u i) → ◌≡◌ {A = Step Op} (Unapp t id) (Unapp u i)
    same u i e = let n : t ≡ u = cc in let m : id ≡ i = cc in ap (λ (w : Name). Unapp w id) n ∙ ap (λ (w : ℕ). Unapp u w) m

pulls_at_once : {Op : Type 0} (t : Name) (l : List (SharedEntry Op)) → PushesAtOnce {Op = Op} (map (λ g. Pull t g.id) l)
pulls_at_once t [] = none_at_once
pulls_at_once {Op} t (g ∷ l) = at_once-append (Pull t g.id ∷ []) (map (λ (w : SharedEntry Op). Pull t w.id) l) (one_at_once (Pull t g.id) (λ u i p e. absurd (cc)) (λ u i e. absurd (cc))) (pulls_at_once t l)

taken_at_once : {Op : Type 0} (t : Name) (l : List (LocalEntry Op)) → PushesAtOnce (taken_out t l)
taken_at_once t [] = none_at_once
taken_at_once {Op} t (e ∷ l) = at_once-append (taken_out t l) (taken_at t e.id e.mark) (taken_at_once t l) (by e.mark)
  where
    by : (m : Mark) → PushesAtOnce {Op = Op} (taken_at t e.id m)
    by Pulled = one_at_once (Unpull t e.id) (λ u i p q. absurd (cc)) (λ u i q. absurd (cc))
    by Pushed = unpush_unapp t e.id
    by Unpushed = one_at_once (Unapp t e.id) (λ u i p q. absurd (cc)) (λ u i q. absurd (cc))

bare-append : {Op : Type 0} (line : ℕ) (ss : List (Step Op)) (rest : LinedSteps Op) → bare (on_line line ss ++ rest) ≡ ss ++ bare rest
bare-append line [] rest = refl
bare-append {Op} line (s ∷ ss) rest = ap (λ (w : List (Step Op)). s ∷ w) (bare-append line ss rest)

module _ {Op State : Type 0} (O : Object Op State) (place : Op → ℕ) (ks : List Kind) where
  front_runs : (c : Config Op) (p q : List (Step Op)) → RunsFrom O c (p ++ q) → RunsFrom O c p × RunsFrom O (after_from c p) q
  front_runs c [] q r = (tt, r)
  front_runs c (s ∷ p) q r = let f = front_runs (then c s) p q r.1 in ((r.0, f.0), f.1)

  -- the steps of one record that hold
  record_at_once : (f : Front) (c : Config Op) (r : RunRecord Op) → IsOfStyle Boosted r → RunsFrom O c (expand place Boosted f c r) → PushesAtOnce (expand place Boosted f c r)
  record_at_once f c (records.Plain (Begin t p b)) is run = one_at_once (Begin t p b) (λ u i q e. absurd (cc)) (λ u i e. absurd (cc))
  record_at_once f c (records.Plain (App t id op)) is run = absurd is
  record_at_once f c (records.Plain (Unapp t id)) is run = absurd is
  record_at_once f c (records.Plain (Push t id)) is run = absurd is
  record_at_once f c (records.Plain (Unpush t id)) is run = absurd is
  record_at_once f c (records.Plain (Pull t id)) is run = absurd is
  record_at_once f c (records.Plain (Unpull t id)) is run = absurd is
  record_at_once f c (records.Plain (Cmt t)) is run = absurd is
  record_at_once f c (records.Plain (Quit t)) is run = absurd is
  record_at_once f c (records.Plain (Note t)) is run = absurd is
  record_at_once f c (records.Op t id op) is run = by (tx t c.opened) refl run
    where
      steps : List (LocalEntry Op) → List (Step Op)
      steps l = op_at_once place c.shared l t id op

      by : (x : Option (Tx Op)) → tx t c.opened ≡ x → RunsFrom O c (steps_of_open x (App t id op) (λ l. op_at_once place c.shared l t id op)) → PushesAtOnce (steps_of_open x (App t id op) (λ l. op_at_once place c.shared l t id op))
      by None e r = absurd (let z = there_holds (tx t c.opened) _ r.0 in let n : ◌≡◌ {A = Option (Tx Op)} None (Some z.0) = sym e ∙ z.1 in cc)
      by (Some x) e r = at_once-append (refresh place t (place op) c.shared x.local) (App t id op ∷ Push t id ∷ []) (pulls_at_once t _) (app_push t id op)
  record_at_once f c (records.Commit t) is run = by (tx t c.opened)
    where
      by : (x : Option (Tx Op)) → PushesAtOnce {Op = Op} (steps_of_open x (Cmt t) (λ l. Cmt t ∷ []))
      by None = one_at_once (Cmt t) (λ u i q e. absurd (cc)) (λ u i e. absurd (cc))
      by (Some x) = one_at_once (Cmt t) (λ u i q e. absurd (cc)) (λ u i e. absurd (cc))
  record_at_once f c (records.Abort t) is run = by (tx t c.opened)
    where
      by : (x : Option (Tx Op)) → PushesAtOnce (steps_of_open x (Quit t) (λ l. taken_out t l ++ Quit t ∷ []))
      by None = one_at_once (Quit t) (λ u i q e. absurd (cc)) (λ u i e. absurd (cc))
      by (Some x) = at_once-append (taken_out t x.local) (Quit t ∷ []) (taken_at_once t x.local) (one_at_once (Quit t) (λ u i q e. absurd (cc)) (λ u i e. absurd (cc)))
  record_at_once f c (records.Retry t) is run = by (tx t c.opened)
    where
      by : (x : Option (Tx Op)) → PushesAtOnce (steps_of_open x (Note t) (λ l. Note t ∷ taken_out t l))
      by None = one_at_once (Note t) (λ u i q e. absurd (cc)) (λ u i e. absurd (cc))
      by (Some x) = at_once-append (Note t ∷ []) (taken_out t x.local) (one_at_once (Note t) (λ u i q e. absurd (cc)) (λ u i e. absurd (cc))) (taken_at_once t x.local)
  record_at_once f c (records.Refresh t o) is run = absurd is
  record_at_once f c (records.XBegin t) is run = absurd is
  record_at_once f c (records.XEnd t) is run = absurd is
  record_at_once f c (records.XAbort t) is run = absurd is
  record_at_once f c (records.Depend t source) is run = absurd is
  record_at_once f c (records.Publish t) is run = absurd is
  record_at_once f c (records.DropSource t source) is run = absurd is

  records_at_once : (p : Standing Front Op) (rs : Records (RunRecord Op)) → ((r : Lined (RunRecord Op)) → In r rs → IsOfStyle Boosted r.what)
      → RunsFrom O p.config (bare (joined_steps (translation place Boosted ks) p rs)) → PushesAtOnce (bare (joined_steps (translation place Boosted ks) p rs))
  records_at_once p [] style run = none_at_once
  records_at_once p (r ∷ rs) style run =
      let T = translation place Boosted ks in
      let ss = expand place Boosted p.front p.config r.what in
      let rest = joined_steps T (after_record T p r.what) rs in
      let is : bare (on_line r.line ss ++ rest) ≡ ss ++ bare rest = bare-append r.line ss rest in
      let both = front_runs p.config ss (bare rest) (subst (λ (w : List (Step Op)). RunsFrom O p.config w) is run) in
      subst (λ (w : List (Step Op)). PushesAtOnce w) (sym is)
      (at_once-append ss (bare rest) (record_at_once p.front p.config r.what (style r (inl refl)) both.0)
      (records_at_once (after_record T p r.what) rs (λ q i. style q (inr i)) both.1))

  -- An accepted run of records of style `boosted` is opaque.
  pub boosted_opaque : (h : Option (Start Op)) (rs : Records (RunRecord Op)) → ((r : Lined (RunRecord Op)) → In r rs → IsOfStyle Boosted r.what) → StartMeets O h
      → RunsFrom O (first h) (boosted_steps place ks h rs) → IsOpaque O h (boosted_steps place ks h rs)
  boosted_opaque h rs style met run =
      eager_opaque O h met (boosted_steps place ks h rs) run (records_at_once (outset (translation place Boosted ks) h) rs style run)
