-- In three styles each pulled entry is committed in the shared log.
use Rattle.std.specs.Prelude.{◌≡◌, ◌≢◌, ◌==◌, ℕ, Bool, true, false, cond, not, List, [], ◌∷◌, ◌++◌, map}
use Rattle.std.specs.Prelude.{Option, None, Some}
use Rattle.std.proofs.Common.{refl, sym, ap, subst, ◌∙◌}
use mathlib.Core.Logic.{inl, inr}
use Rattle.pp_model.specs.Config.{Begin, App, Unapp, Push, Unpush, Pull, Unpull, Cmt, Quit, Note}
use Rattle.pp_model.specs.Config.{Config, LocalEntry, Mark, Pulled, Pushed, SharedEntry, Step}
use Rattle.pp_model.specs.Config.{Tx, Unpushed, after_from, as_applied, as_pulled, as_shared, at_mark, but_last}
use Rattle.pp_model.specs.Config.{commit_effect, entry_of, item, of_other, on_log, pull_effect}
use Rattle.pp_model.specs.Config.{push_effect, set_mark, then, tx, without_local, without_shared}
use Rattle.pp_model.specs.Lists.{Each, In}
use Rattle.pp_model.specs.Names.{Name, ◌=ⁿ◌}
use Rattle.pp_model.specs.Object.{Object}
use Rattle.pp_model.specs.Rules.{Meets, RunsFrom}
use Rattle.pp_model.specs.Sound.{Sound}
use Rattle.pp_model.proofs.Begin.{each_added}
use Rattle.pp_model.proofs.Keeps.{step_keeps}
use Rattle.pp_model.proofs.Lists.{by_key, from_filter, from_map, in_cases, in_filter, in_left, in_map}
use Rattle.pp_model.proofs.Logs.{eqb_not, found_mark, found_other, found_tx, in_but_last, on_each}
use Rattle.pp_model.proofs.Steps.{there_holds}
use Rattle.pp_laws_runs.proofs.Logs.{SharedIds}
use Rattle.pp_laws_runs.proofs.Ending.{PulledStand}

-- each entry that an open transaction pulled is committed in the shared log
abbrev pub PulledCommitted : {Op : Type 0} → Config Op → Type 0
PulledCommitted {Op} c = (x : Tx Op) → In x c.opened → PulledStand c x.local

-- the step pulls nothing
abbrev pub NotPull : {Op : Type 0} → Step Op → Type 0
NotPull (Begin t p b) = Unit {0}
NotPull (App t id op) = Unit {0}
NotPull (Unapp t id) = Unit {0}
NotPull (Push t id) = Unit {0}
NotPull (Unpush t id) = Unit {0}
NotPull (Pull t id) = ⊥
NotPull (Unpull t id) = Unit {0}
NotPull (Cmt t) = Unit {0}
NotPull (Quit t) = Unit {0}
NotPull (Note t) = Unit {0}

-- the step pulls only a committed entry
abbrev pub PullsCommitted : {Op : Type 0} → Config Op → Step Op → Type 0
PullsCommitted {Op} c s = (t : Name) (id : ℕ) (g : SharedEntry Op) → s ≡ Pull t id → of_other t id c.shared ≡ Some g → g.committed ≡ true

-- each of these steps, from this configuration on, pulls only a committed entry
abbrev pub AllCommitted : {Op : Type 0} → Config Op → List (Step Op) → Type 0
AllCommitted c [] = Unit {0}
AllCommitted c (s ∷ ss) = PullsCommitted c s × AllCommitted (then c s) ss

-- A step that is no PULL pulls only committed entries.
pub no_pull : {Op : Type 0} (c : Config Op) (s : Step Op) → NotPull s → PullsCommitted c s
no_pull {Op} c s n t id g e f = absurd (subst (λ (w : Step Op). NotPull w) e n)

-- Steps that are no PULL pull only committed entries.
pub no_pulls : {Op : Type 0} (c : Config Op) (ss : List (Step Op)) → Each NotPull ss → AllCommitted c ss
no_pulls c [] n = tt
no_pulls c (s ∷ ss) n = (no_pull c s n.0, no_pulls (then c s) ss n.1)

-- Joined steps pull only committed entries if the first do, and the second do after them.
pub committed_append : {Op : Type 0} (c : Config Op) (xs ys : List (Step Op)) → AllCommitted c xs → AllCommitted (after_from c xs) ys → AllCommitted c (xs ++ ys)
committed_append c [] ys a b = b
committed_append c (x ∷ xs) ys a b = (a.0, committed_append (then c x) xs ys a.1 b)

-- a pull does not change the shared log
pull_shared : {Op : Type 0} (c : Config Op) (t : Name) (id : ℕ) → (then c (Pull t id)).shared ≡ c.shared
pull_shared {Op} c t id = by (of_other t id c.shared)
  where
    by : (o : Option (SharedEntry Op)) → (pull_effect c t id o).shared ≡ c.shared
    by None = refl
    by (Some g) = refl

-- The PULL steps of committed entries pull only committed entries.
pub pulls_committed : {Op : Type 0} (t : Name) (gs : List (SharedEntry Op)) (c : Config Op) → SharedIds c.shared → ((g : SharedEntry Op) → In g gs → In g c.shared × (g.committed ≡ true)) → AllCommitted c (map (λ g. Pull t g.id) gs)
pulls_committed t [] c d all = tt
pulls_committed {Op} t (g ∷ gs) c d all = (
  (λ u id k e f.
      let o = found_other u id c.shared k f in
      let same_id : g.id ≡ id = number t g.id u id e in
      let same : k ≡ g = by_key (λ (w : SharedEntry Op). w.id) c.shared d k g o.0 (all g (inl refl)).0 (o.1 ∙ sym same_id) in
      ap (λ (w : SharedEntry Op). w.committed) same ∙ (all g (inl refl)).1),
  pulls_committed t gs (then c (Pull t g.id)) (subst (λ (G : List (SharedEntry Op)). SharedIds G) (sym (pull_shared c t g.id)) d)
      (λ k i. (subst (λ (G : List (SharedEntry Op)). In k G) (sym (pull_shared c t g.id)) (all k (inr i)).0, (all k (inr i)).1)),
)
  where
    number : (t : Name) (i : ℕ) (u : Name) (j : ℕ) → ◌≡◌ {A = Step Op} (Pull t i) (Pull u j) → i ≡ j
    number t i u j e = cc

-- ---- what a step keeps

-- An entry that is pulled after another entry got a new mark was pulled before.
pulled_was : {Op : Type 0} (id : ℕ) (m : Mark) (l : List (LocalEntry Op)) (e : LocalEntry Op) → m ≢ Pulled → In e (set_mark id m l) → e.mark ≡ Pulled → In e l
pulled_was {Op} id m l e n i k =
    let f = from_map (λ (w : LocalEntry Op). cond (w.id == id) (record w { mark = m }) w) e l i in
    by f.0 f.1 ((f.0).id == id) f.2
  where
    by : (d : LocalEntry Op) → In d l → (b : Bool) → e ≡ cond b (record d { mark = m }) d → In e l
    by d j true z = absurd (n (ap (λ (w : LocalEntry Op). w.mark) (sym z) ∙ k))
    by d j false z = subst (λ (w : LocalEntry Op). In w l) (sym z) j

module _ {Op State : Type 0} (O : Object Op State) (c : Config Op) (s : Sound O c) (pulled : PulledCommitted c) where
  -- The list G has each committed entry of the shared log.
  abbrev KeepsCommitted : List (SharedEntry Op) → Type 0
  KeepsCommitted G = (g : SharedEntry Op) → In g c.shared → g.committed ≡ true → (k : SharedEntry Op) × In k G × (k.id ≡ g.id) × (k.committed ≡ true)

  abbrev Stand : List (SharedEntry Op) → Tx Op → Type 0
  Stand G x = (e : LocalEntry Op) → In e x.local → e.mark ≡ Pulled → (g : SharedEntry Op) × In g G × (g.id ≡ e.id) × (g.committed ≡ true)

  moved : (G : List (SharedEntry Op)) → KeepsCommitted G → (x : Tx Op) → In x c.opened → Stand G x
  moved G keeps x i e j k =
      let a = pulled x i e j k in
      let b = keeps a.0 a.1 a.3 in
      (b.0, b.1, b.2 ∙ a.2, b.3)

  same_log : KeepsCommitted c.shared
  same_log g i k = (g, i, refl, k)

  -- a change of one log that adds no pulled entry
  at_log : (G : List (SharedEntry Op)) → KeepsCommitted G → (t : Name) (f : List (LocalEntry Op) → List (LocalEntry Op)) → ((l : List (LocalEntry Op)) (e : LocalEntry Op) → In e (f l) → e.mark ≡ Pulled → In e l) →
      (x : Tx Op) → In x (on_log t f c.opened) → Stand G x
  at_log G keeps t f fewer = on_each t f c.opened (Stand G) (λ x i n e j k. moved G keeps x i e (fewer x.local e j k) k) (λ x i n. moved G keeps x i)

  pushed : (t : Name) (id : ℕ) (o : Option (LocalEntry Op)) → PulledCommitted (push_effect c t id o)
  pushed t id None = pulled
  pushed t id (Some e) = at_log (c.shared ++ as_shared t false (item e) ∷ []) (λ g i k. (g, in_left g c.shared (as_shared t false (item e) ∷ []) i, refl, k)) t (set_mark id Pushed) (λ l d i k. pulled_was id Pushed l d (λ z. cc) i k)

  unpushed : (t : Name) (id : ℕ) → Meets O c (Unpush t id) → PulledCommitted (then c (Unpush t id))
  unpushed t id m =
      let x = there_holds (tx t c.opened) _ m in
      let e = there_holds (at_mark id Pushed (x.0).local) _ x.2 in
      let at = found_tx t c.opened x.0 x.1 in
      let f = found_mark id Pushed (x.0).local e.0 e.1 in
      let one : SharedEntry Op = as_shared (x.0).name false (item e.0) in
      let there : In one c.shared = s.pushed_stand x.0 at.0 e.0 f.0 f.2 in
      at_log (without_shared id c.shared)
      (λ g i k. (
        g,
        in_filter (λ (w : SharedEntry Op). not (w.id == id)) g c.shared i
            (eqb_not g.id id (λ z. let same : g ≡ one = by_key (λ (w : SharedEntry Op). w.id) c.shared s.shared_ids g one i there (z ∙ sym f.1) in
            let bad : true ≡ false = sym k ∙ ap (λ (w : SharedEntry Op). w.committed) same in cc)),
        refl,
        k,
      ))
      t (set_mark id Unpushed) (λ l d i k. pulled_was id Unpushed l d (λ z. cc) i k)

  more_pulled : (t : Name) (id : ℕ) (o : Option (SharedEntry Op)) → of_other t id c.shared ≡ o → ((g : SharedEntry Op) → o ≡ Some g → g.committed ≡ true) → PulledCommitted (pull_effect c t id o)
  more_pulled t id None e k = pulled
  more_pulled t id (Some g) e k =
      let there : In g c.shared = (found_other t id c.shared g e).0 in
      on_each t _ c.opened (Stand c.shared)
      (λ x i n d j m. elim (in_cases d x.local (as_pulled g ∷ []) j) [
        | inl old ↦ moved c.shared same_log x i d old m
        | inr (inl new) ↦ (g, there, ap (λ (w : LocalEntry Op). w.id) (sym new), k g refl)
        | inr (inr none) ↦ absurd none
      ])
      (λ x i n. moved c.shared same_log x i)

  committed : (t : Name) (o : Option (Tx Op)) → PulledCommitted (commit_effect c t o)
  committed t None = pulled
  committed t (Some z) =
      let mark = λ (g : SharedEntry Op). cond (g.owner =ⁿ t) (record g { committed = true }) g in
      λ x i. moved (map mark c.shared) (λ g j k. (mark g, in_map mark g c.shared j, (sides g k (g.owner =ⁿ t)).0, (sides g k (g.owner =ⁿ t)).1)) x (from_filter (λ (w : Tx Op). not (w.name =ⁿ t)) x c.opened i).0
    where
      sides : (g : SharedEntry Op) → g.committed ≡ true → (b : Bool) → ((cond b (record g { committed = true }) g).id ≡ g.id) × ((cond b (record g { committed = true }) g).committed ≡ true)
      sides g k true = (refl, refl)
      sides g k false = (refl, k)

  -- A step that pulls only committed entries keeps all pulled entries committed.
  pub step_pulled : (a : Step Op) → Meets O c a → PullsCommitted c a → PulledCommitted (then c a)
  step_pulled (Begin t p b) m k = each_added c.opened (record { name = t; thread = p; body = b; local = [] }) (Stand c.shared) (moved c.shared same_log) (λ e i. absurd i)
  step_pulled (App t id op) m k = at_log c.shared same_log t _ (λ l e i z. elim (in_cases e l (as_applied t id op ∷ []) i) [
    | inl j ↦ j
    | inr (inl j) ↦ absurd (let bad : Unpushed ≡ Pulled = ap (λ (w : LocalEntry Op). w.mark) (sym j) ∙ z in cc)
    | inr (inr j) ↦ absurd j
  ])
  step_pulled (Unapp t id) m k = at_log c.shared same_log t but_last (λ l e i z. in_but_last e l i)
  step_pulled (Push t id) m k = pushed t id (entry_of id Unpushed (tx t c.opened))
  step_pulled (Unpush t id) m k = unpushed t id m
  step_pulled (Pull t id) m k = more_pulled t id (of_other t id c.shared) refl (λ g e. k t id g refl e)
  step_pulled (Unpull t id) m k = at_log c.shared same_log t (without_local id) (λ l e i z. (from_filter (λ (w : LocalEntry Op). not (w.id == id)) e l i).0)
  step_pulled (Cmt t) m k = committed t (tx t c.opened)
  step_pulled (Quit t) m k = λ x i. moved c.shared same_log x (from_filter (λ (w : Tx Op). not (w.name =ⁿ t)) x c.opened i).0
  step_pulled (Note t) m k = pulled

-- Steps that pull only committed entries keep all pulled entries committed.
pub run_pulled : {Op State : Type 0} (O : Object Op State) (c : Config Op) (ss : List (Step Op)) → Sound O c → PulledCommitted c → RunsFrom O c ss → AllCommitted c ss → PulledCommitted (after_from c ss)
run_pulled O c [] s pulled r k = pulled
run_pulled O c (a ∷ ss) s pulled r k = run_pulled O (then c a) ss (step_keeps O c a s r.0) (step_pulled O c s pulled a r.0 k.0) r.1 k.1
