-- The steps that pull entries, and those that apply and publish an operation.
use Rattle.std.specs.Prelude.{◌≡◌, ◌≢◌, ◌==◌, ◌&&◌, ◌||◌, ℕ, suc, Bool, true, false, cond, not, List}
use Rattle.std.specs.Prelude.{[], ◌∷◌, ◌++◌, map, Some}
use Rattle.std.proofs.Common.{refl, sym, ap, subst, ◌∙◌}
use Rattle.std.proofs.lemmas.Bool.{and_parts, eq-eqb}
use mathlib.Core.Logic.{inl, inr}
use Rattle.pp_core.specs.declared.call.Style.{Style}
use Rattle.pp_core.specs.declared.call.Style.TheVariants as styles
use Rattle.pp_core.specs.declared.step.Rule.TheVariants as rules
use Rattle.pp_model.specs.Config.{App, Config, LocalEntry, Pull, Pulled, Push, SharedEntry, Step, Tx}
use Rattle.pp_model.specs.Config.{Unpushed, after_from, at_mark, as_applied, of_other}
use Rattle.pp_model.specs.Config.{pull_effect, relog, then, tx}
use Rattle.pp_model.specs.Lists.{Before, In}
use Rattle.pp_model.specs.Names.{Name}
use Rattle.pp_model.specs.Object.{Allowed, Object, Swaps}
use Rattle.pp_model.specs.Rules.{Breaks, FirstFalse, Meets, RunsFrom}
use Rattle.pp_model.specs.Config.{shared_ops}
use Rattle.pp_model.specs.Sound.{Sound}
use Rattle.pp_model.proofs.Keeps.{run_keeps, step_keeps}
use Rattle.pp_model.proofs.Lists.{before_from_filter, by_key, from_filter, from_map, in_cases, in_right}
use Rattle.pp_model.proofs.Logs.{found_tx}
use Rattle.pp_records.specs.Effects.{as_pulled, missing}
use Rattle.pp_records.specs.Expansions.{op_at_once, op_later, pulls, refresh, refresh_unless, stands_in}
use Rattle.pp_records.specs.Expansions.{touches}
use Rattle.pp_records.proofs.Taking.{pulls_law, tx_on}
use Rattle.pp_laws_runs.specs.Breakable.{breakable}
use Rattle.pp_laws_runs.proofs.Logs.{LocalIds, SharedIds, before_it, mark_found, other_found}
use Rattle.pp_laws_runs.proofs.Numbers.{after_there, fifth, first_holds, four_or_five, two_first_hold}
use Rattle.pp_laws_runs.proofs.Only.{OnlyBreaks, app_breaks, app_only, only_append}
use Rattle.pp_laws_runs.proofs.Rows.{in_pull_row}

-- ---- which entries are in a log

or_true : (a : Bool) → (a || true) ≡ true
or_true true = refl
or_true false = refl

-- An entry of a local log with an id is found in it by this id.
pub stands : {Op : Type 0} (l : List (LocalEntry Op)) (id : ℕ) (e : LocalEntry Op) → In e l → e.id ≡ id → stands_in l id ≡ true
stands [] id e i k = absurd i
stands {Op} (z ∷ l) id e (inl i) k = ap (λ (b : Bool). b || stands_in l id) (eq-eqb z.id id (ap (λ (w : LocalEntry Op). w.id) (sym i) ∙ k))
stands (z ∷ l) id e (inr i) k = ap (λ (b : Bool). (z.id == id) || b) (stands l id e i k) ∙ or_true (z.id == id)

-- all in the shared log is committed
abbrev pub AllShared : {Op : Type 0} → Config Op → Type 0
AllShared {Op} c = (u : SharedEntry Op) → In u c.shared → u.committed ≡ true

-- Each uncommitted entry of the shared log is owned by this transaction.
abbrev pub OnlyOwnOpen : {Op : Type 0} → Name → Config Op → Type 0
OnlyOwnOpen {Op} t c = (u : SharedEntry Op) → In u c.shared → u.committed ≡ false → u.owner ≡ t

module _ {Op State : Type 0} (O : Object Op State) (style : Style) (recorded : style ≢ styles.Rules) where
  -- an entry of the shared log that an open transaction owns is in its local log
  pub own_stands : (c : Config Op) (x : Tx Op) (g : SharedEntry Op) → Sound O c → In x c.opened → In g c.shared → g.owner ≡ x.name → stands_in x.local g.id ≡ true
  own_stands c x g s i j own = by g.committed refl
    where
      by : (b : Bool) → g.committed ≡ b → stands_in x.local g.id ≡ true
      by true k =
          let r = s.committed_from g j k in
          absurd (s.apart x r.0 i r.1 (sym own ∙ ap (λ (w : SharedEntry Op). w.owner) r.4))
      by false k =
          let r = s.uncommitted_from g j k in
          let same : r.0 ≡ x = by_key (λ (w : Tx Op). w.name) c.opened s.open_names r.0 x r.1 i (ap (λ (w : SharedEntry Op). w.owner) (sym r.5) ∙ own) in
          stands x.local g.id r.2 (subst (λ (w : Tx Op). In r.2 w.local) same r.3) (ap (λ (w : SharedEntry Op). w.id) (sym r.5))

  -- ---- pulls

  pull_breaks : (c : Config Op) (t : Name) (id : ℕ) (x : Tx Op) (g : SharedEntry Op) → tx t c.opened ≡ Some x → of_other t id c.shared ≡ Some g → ((e : LocalEntry Op) → In e x.local → e.id ≢ id) → (n : ℕ) →
      Breaks O c (Pull t id) (suc n) → In (suc n) (breakable rules.Pull style)
  pull_breaks c t id x g e f apart n b =
      let a = after_there (tx t c.opened) _ x n e b in
      let k = after_there (of_other t id c.shared) _ g a.0 f a.2 in
      let l = first_holds _ _ _ k.0 apart k.2 in
      in_pull_row style recorded (suc n) (four_or_five n a.0 k.0 l.0 a.1 k.1 l.1 l.2)

  each_pull_only : (t : Name) (gs : List (SharedEntry Op)) (c : Config Op) (x : Tx Op) → SharedIds gs → ((g : SharedEntry Op) → In g gs → of_other t g.id c.shared ≡ Some g) → tx t c.opened ≡ Some x →
      ((g : SharedEntry Op) → In g gs → (e : LocalEntry Op) → In e x.local → e.id ≢ g.id) → OnlyBreaks O style c (map (λ g. Pull t g.id) gs)
  each_pull_only t [] c x d found h apart = tt
  each_pull_only t (g ∷ gs) c x d found h apart =
      let c2 : Config Op = pull_effect c t g.id (Some g) in
      let to : then c (Pull t g.id) ≡ c2 = ap (λ (w : _). pull_effect c t g.id w) (found g (inl refl)) in
      let x2 : Tx Op = relog (λ l. l ++ as_pulled g ∷ []) x in
      let next : OnlyBreaks O style c2 (map (λ g. Pull t g.id) gs) =
      each_pull_only t gs c2 x2 (λ a b i. d a b (inr i)) (λ k i. found k (inr i)) (tx_on t (λ l. l ++ as_pulled g ∷ []) c.opened x h)
      (λ k i e j. elim (in_cases e x.local (as_pulled g ∷ []) j) [
        | inl m ↦ apart k (inr i) e m
        | inr (inl m) ↦ λ z. d g k (inl (refl, i)) (ap (λ (w : LocalEntry Op). w.id) (sym m) ∙ z)
        | inr (inr m) ↦ absurd m
      ]) in
      (pull_breaks c t g.id x g h (found g (inl refl)) (apart g (inl refl)), λ m. subst (λ (w : Config Op). OnlyBreaks O style w (map (λ g. Pull t g.id) gs)) (sym to) next)

  -- The pulls of the wanted entries that an open transaction lacks break only breakable criteria.
  pub pulls_only : (c : Config Op) (t : Name) (x : Tx Op) (wanted : SharedEntry Op → Bool) → Sound O c → tx t c.opened ≡ Some x → OnlyBreaks O style c (pulls t wanted c.shared x.local)
  pulls_only c t x wanted s h =
      let test = λ (g : SharedEntry Op). wanted g && not (stands_in x.local g.id) in
      let gs = missing wanted c.shared x.local in
      let f = found_tx t c.opened x h in
      let absent : (g : SharedEntry Op) → In g gs → stands_in x.local g.id ≡ true → ⊥ = λ g i k.
      let parts = and_parts (wanted g) (not (stands_in x.local g.id)) (from_filter test g c.shared i).1 in
      let z : not true ≡ true = subst (λ (b : Bool). not b ≡ true) k parts.1 in cc in
      let there : (g : SharedEntry Op) → In g gs → In g c.shared = λ g i. (from_filter test g c.shared i).0 in
      each_pull_only t gs c x (λ a b i. s.shared_ids a b (before_from_filter test a b c.shared i))
      (λ g i. other_found t c.shared g s.shared_ids (there g i) (λ own. absent g i (own_stands c x g s f.0 (there g i) (own ∙ sym f.1))))
      h (λ g i e j k. absent g i (stands x.local g.id e j k))

  -- ---- an operation that waits for its push

  unless_only : (place : Op → ℕ) (c : Config Op) (t : Name) (x : Tx Op) (o : ℕ) → Sound O c → tx t c.opened ≡ Some x → (seen : Bool) → OnlyBreaks O style c (cond seen [] (refresh place t o c.shared x.local))
  unless_only place c t x o s h true = tt
  unless_only place c t x o s h false = pulls_only c t x _ s h

  -- An operation that waits for its push, after a refresh if no seen entry is on its object, breaks only breakable criteria.
  pub later_only : (place : Op → ℕ) (seen : List (LocalEntry Op)) (c : Config Op) (t : Name) (x : Tx Op) (id : ℕ) (op : Op) → Sound O c → tx t c.opened ≡ Some x → OnlyBreaks O style c (op_later place seen c.shared x.local t id op)
  later_only place seen c t x id op s h =
      only_append O style c (refresh_unless place t (place op) seen c.shared x.local) (App t id op ∷ [])
      (unless_only place c t x (place op) s h (touches place (place op) seen))
      (λ r. app_only O style recorded (after_from c (refresh_unless place t (place op) seen c.shared x.local)) t id op)

  -- ---- a push

  -- a push breaks only criteria after those that are always true
  push_rest : (c : Config Op) (t : Name) (x : Tx Op) (p q : List (LocalEntry Op)) (e : LocalEntry Op) → Sound O c → tx t c.opened ≡ Some x → x.local ≡ p ++ e ∷ q → e.mark ≡ Unpushed →
      ((a : LocalEntry Op) → In a p → a.mark ≡ Unpushed → Swaps O e.op a.op) → (n : ℕ) → Breaks O c (Push t e.id) (suc n) →
      (j k : ℕ) × (n ≡ suc j) × (j ≡ suc k) × ((a : LocalEntry Op) → Before a e x.local → a.mark ≡ Unpushed → Swaps O e.op a.op)
      × FirstFalse (
      ((a : LocalEntry Op) → Before a e x.local → a.mark ≡ Unpushed → Swaps O e.op a.op)
      ∷ ((u : SharedEntry Op) → In u c.shared → u.committed ≡ false → u.owner ≢ t → Swaps O u.op e.op)
      ∷ Allowed O (shared_ops c.shared ++ e.op ∷ [])
      ∷ []
      ) (suc k)
  push_rest c t x p q e s h w mark swap n b =
      let there : In x c.opened = (found_tx t c.opened x h).0 in
      let ids : LocalIds (p ++ e ∷ q) = subst (λ (l : List (LocalEntry Op)). LocalIds l) w (s.local_ids x there) in
      let at = ap (λ (l : List (LocalEntry Op)). at_mark e.id Unpushed l) w ∙ mark_found (p ++ e ∷ q) e Unpushed ids (in_right e p (e ∷ q) (inl refl)) mark in
      let a = after_there (tx t c.opened) _ x n h b in
      let k = after_there (at_mark e.id Unpushed x.local) _ e a.0 at a.2 in
      (a.0, k.0, a.1, k.1, (λ d i m. swap d (before_it p q e ids d (subst (λ (l : List (LocalEntry Op)). Before d e l) w i)) m), k.2)

  -- A PUSH of an unpushed entry that unpushed ones before it may move left past breaks only criterion 4 or 5.
  pub push_breaks : (c : Config Op) (t : Name) (x : Tx Op) (p q : List (LocalEntry Op)) (e : LocalEntry Op) → Sound O c → tx t c.opened ≡ Some x → x.local ≡ p ++ e ∷ q → e.mark ≡ Unpushed →
      ((a : LocalEntry Op) → In a p → a.mark ≡ Unpushed → Swaps O e.op a.op) → (n : ℕ) → Breaks O c (Push t e.id) (suc n) → In (suc n) (4 ∷ 5 ∷ [])
  push_breaks c t x p q e s h w mark swap n b =
      let r = push_rest c t x p q e s h w mark swap n b in
      let l = first_holds _ _ _ r.1 r.4 r.5 in
      four_or_five n r.0 r.1 l.0 r.2 r.3 l.1 l.2

  -- if all uncommitted entries of the shared log are its own, a push breaks only criterion 5
  pub push_breaks_last : (c : Config Op) (t : Name) (x : Tx Op) (p q : List (LocalEntry Op)) (e : LocalEntry Op) → Sound O c → tx t c.opened ≡ Some x → x.local ≡ p ++ e ∷ q → e.mark ≡ Unpushed →
      ((a : LocalEntry Op) → In a p → a.mark ≡ Unpushed → Swaps O e.op a.op) → OnlyOwnOpen t c → (n : ℕ) → Breaks O c (Push t e.id) (suc n) → In (suc n) (5 ∷ [])
  push_breaks_last c t x p q e s h w mark swap own n b =
      let r = push_rest c t x p q e s h w mark swap n b in
      fifth n r.0 r.1 r.2 r.3 (two_first_hold _ _ _ r.1 r.4 (λ u i z o. absurd (o (own u i z))) r.5)

  -- ---- an operation that is published at once

  -- An operation published at once breaks only breakable criteria, if 4 and 5 of PUSH are and unpushed entries may move left past it.
  pub at_once_only : ((n : ℕ) → In n (4 ∷ 5 ∷ []) → In n (breakable rules.Push style)) → (place : Op → ℕ) (c : Config Op) (t : Name) (x : Tx Op) (id : ℕ) (op : Op) → Sound O c → tx t c.opened ≡ Some x →
      ((a : LocalEntry Op) → In a x.local → a.mark ≡ Unpushed → Swaps O op a.op) → OnlyBreaks O style c (op_at_once place c.shared x.local t id op)
  at_once_only listed place c t x id op s h swap =
      only_append O style c first (App t id op ∷ Push t id ∷ []) (pulls_only c t x wanted s h) (λ r. (app_breaks O style recorded (after_from c first) t id op, push r))
    where
      wanted : SharedEntry Op → Bool
      wanted = λ g. g.committed && (place g.op == place op)

      first : List (Step Op)
      first = pulls t wanted c.shared x.local

      push : RunsFrom O c first → Meets O (after_from c first) (App t id op) → OnlyBreaks O style (then (after_from c first) (App t id op)) (Push t id ∷ [])
      push r m =
          let c1 : Config Op = after_from c first in
          let more : List (LocalEntry Op) = map as_pulled (missing wanted c.shared x.local) in
          let x1 : Tx Op = relog (λ l. l ++ map as_pulled (missing wanted c.shared l)) x in
          let h1 : tx t c1.opened ≡ Some x1 = (pulls_law O).log c t wanted x s h r in
          let e : LocalEntry Op = as_applied t id op in
          let c2 : Config Op = then c1 (App t id op) in
          let x2 : Tx Op = relog (λ l. l ++ e ∷ []) x1 in
          let h2 : tx t c2.opened ≡ Some x2 = tx_on t (λ l. l ++ e ∷ []) c1.opened x1 h1 in
          let s2 : Sound O c2 = step_keeps O c1 (App t id op) (run_keeps O first c s r) m in
          let old : (a : LocalEntry Op) → In a x1.local → a.mark ≡ Unpushed → Swaps O op a.op = λ a i k.
          elim (in_cases a x.local more i) [
            | inl j ↦ swap a j k
            | inr j ↦ absurd (
                let f = from_map as_pulled a (missing wanted c.shared x.local) j in
                let z : Pulled ≡ Unpushed = sym (ap (λ (w : LocalEntry Op). w.mark) f.2) ∙ k in cc)
          ] in
          ((λ n b. listed (suc n) (push_breaks c2 t x2 x1.local [] e s2 h2 refl refl old n b)), λ k. tt)
