-- How the steps of one transaction change the others, and its own log.
use Rattle.std.specs.Prelude.{◌≡◌, ◌≢◌, ◌==◌, ◌&&◌, ℕ, Bool, true, false, cond, not, List, [], ◌∷◌, ◌++◌}
use Rattle.std.specs.Prelude.{filter, map, Option, None, Some}
use Rattle.std.proofs.Common.{refl, sym, ap, subst, ◌∙◌, append_assoc}
use mathlib.Core.Logic.{inl, inr}
use Rattle.pp_model.specs.Config.{Begin, App, Unapp, Push, Unpush, Pull, Unpull, Cmt, Quit, Note}
use Rattle.pp_model.specs.Config.{Config, LocalEntry, Mark, Pulled, Pushed, SharedEntry, Step, Tx}
use Rattle.pp_model.specs.Config.{Unpushed, after_from, as_applied, at_mark, commit_effect, entry_of}
use Rattle.pp_model.specs.Config.{is_mark, of_other, on_log, pull_effect, push_effect, relog, set_mark}
use Rattle.pp_model.specs.Config.{then, tx, without_tx}
use Rattle.pp_model.specs.Lists.{Each, In}
use Rattle.pp_model.specs.Names.{Name, ◌=ⁿ◌}
use Rattle.pp_model.specs.Object.{Object}
use Rattle.pp_model.specs.Rules.{Meets, RunsFrom}
use Rattle.pp_model.specs.Sound.{Sound}
use Rattle.pp_model.proofs.Keeps.{run_keeps, step_keeps}
use Rattle.pp_model.proofs.Lists.{from_filter, from_map, in_cases, in_right}
use Rattle.pp_model.proofs.Logs.{found_tx, on_each}
use Rattle.pp_model.proofs.Names.{not_names}
use Rattle.pp_model.proofs.Steps.{there_holds}
use Rattle.pp_model.proofs.Trace.{subject}
use Rattle.pp_records.specs.Effects.{as_pulled, missing}
use Rattle.pp_records.specs.Expansions.{op_at_once, op_later, pushall, refresh}
use Rattle.pp_records.specs.Expansions.{taken_at, taken_out, touches}
use Rattle.pp_records.proofs.Ends.{after_append, runs_back, runs_front}
use Rattle.pp_records.proofs.Taking.{pulls_law, tx_on}
use Rattle.pp_laws_runs.proofs.Logs.{LocalIds, mark_found, marked, set_mark_at}
use Rattle.pp_laws_runs.proofs.Pushing.{NoneUnpushed}
use Rattle.pp_laws_runs.proofs.Changes.{names_stay}

-- ---- other transactions

on_other : {Op : Type 0} (t : Name) (f : List (LocalEntry Op) → List (LocalEntry Op)) (xs : List (Tx Op)) (y : Tx Op) → In y (on_log t f xs) → y.name ≢ t → In y xs
on_other {Op} t f xs y i = on_each t f xs (λ (w : Tx Op). w.name ≢ t → In w xs) (λ x j e n. absurd (n e)) (λ x j m n. j) y i

-- a transaction that is open after a step of another one was open before it
pub still_open : {Op : Type 0} (c : Config Op) (s : Step Op) (y : Tx Op) → In y (then c s).opened → y.name ≢ subject s → In y c.opened
still_open {Op} c (Begin t p b) y i n = elim (in_cases y c.opened (record { name = t; thread = p; body = b; local = [] } ∷ []) i) [
  | inl j ↦ j
  | inr (inl e) ↦ absurd (n (ap (λ (w : Tx Op). w.name) e))
  | inr (inr j) ↦ absurd j
]
still_open c (App t id op) y i n = on_other t _ c.opened y i n
still_open c (Unapp t id) y i n = on_other t _ c.opened y i n
still_open {Op} c (Push t id) y i n = by (entry_of id Unpushed (tx t c.opened)) i
  where
    by : (o : Option (LocalEntry Op)) → In y (push_effect c t id o).opened → In y c.opened
    by None j = j
    by (Some e) j = on_other t _ c.opened y j n
still_open c (Unpush t id) y i n = on_other t _ c.opened y i n
still_open {Op} c (Pull t id) y i n = by (of_other t id c.shared) i
  where
    by : (o : Option (SharedEntry Op)) → In y (pull_effect c t id o).opened → In y c.opened
    by None j = j
    by (Some g) j = on_other t _ c.opened y j n
still_open c (Unpull t id) y i n = on_other t _ c.opened y i n
still_open {Op} c (Cmt t) y i n = by (tx t c.opened) i
  where
    by : (o : Option (Tx Op)) → In y (commit_effect c t o).opened → In y c.opened
    by None j = j
    by (Some x) j = (from_filter (λ (w : Tx Op). not (w.name =ⁿ t)) y c.opened j).0
still_open {Op} c (Quit t) y i n = (from_filter (λ (w : Tx Op). not (w.name =ⁿ t)) y c.opened i).0
still_open c (Note t) y i n = i

-- A name that was begun stays begun.
pub begun_after : {Op : Type 0} (ss : List (Step Op)) (c : Config Op) (t : Name) → In t c.names → In t (after_from c ss).names
begun_after [] c t i = i
begun_after (s ∷ ss) c t i = begun_after ss (then c s) t (names_stay c s t i)

-- all these steps are of the transaction of this name
abbrev pub AreOf : {Op : Type 0} → Name → List (Step Op) → Type 0
AreOf t ss = Each (λ s. subject s ≡ t) ss

-- A transaction that is open after steps of another one was open before them.
pub still_after : {Op : Type 0} (t : Name) (ss : List (Step Op)) (c : Config Op) (y : Tx Op) → AreOf t ss → In y (after_from c ss).opened → y.name ≢ t → In y c.opened
still_after t [] c y k i n = i
still_after t (s ∷ ss) c y k i n = still_open c s y (still_after t ss (then c s) y k.1 i n) (λ z. n (z ∙ k.0))

-- Joined steps are of one transaction if both parts are.
pub of_append : {Op : Type 0} (t : Name) (xs ys : List (Step Op)) → AreOf t xs → AreOf t ys → AreOf t (xs ++ ys)
of_append t [] ys h k = k
of_append t (x ∷ xs) ys h k = (h.0, of_append t xs ys h.1 k)

of_pulls : {Op : Type 0} (t : Name) (gs : List (SharedEntry Op)) → AreOf {Op = Op} t (map (λ g. Pull t g.id) gs)
of_pulls t [] = tt
of_pulls t (g ∷ gs) = (refl, of_pulls t gs)

of_pushes : {Op : Type 0} (t : Name) (es : List (LocalEntry Op)) → AreOf {Op = Op} t (map (λ e. Push t e.id) es)
of_pushes t [] = tt
of_pushes t (e ∷ es) = (refl, of_pushes t es)

-- The steps of a pushall are of its transaction.
pub of_pushall : {Op : Type 0} (t : Name) (l : List (LocalEntry Op)) → AreOf {Op = Op} t (pushall t l)
of_pushall t l = of_pushes t (filter (λ e. is_mark e.mark Unpushed) l)

-- The steps that take entries out of a local log are of its transaction.
pub of_taken : {Op : Type 0} (t : Name) (l : List (LocalEntry Op)) → AreOf {Op = Op} t (taken_out t l)
of_taken t [] = tt
of_taken {Op} t (e ∷ l) = of_append t (taken_out t l) (taken_at t e.id e.mark) (of_taken t l) (by e.mark)
  where
    by : (m : Mark) → AreOf {Op = Op} t (taken_at t e.id m)
    by Pulled = (refl, tt)
    by Pushed = (refl, (refl, tt))
    by Unpushed = (refl, tt)

-- a transaction that is open after the end of t was open before it, and is not t
pub after_quit : {Op : Type 0} (c : Config Op) (t : Name) (y : Tx Op) → In y (then c (Quit t)).opened → In y c.opened × (y.name ≢ t)
after_quit {Op} c t y i = let f = from_filter (λ (w : Tx Op). not (w.name =ⁿ t)) y c.opened i in (f.0, not_names y.name t f.1)

-- A transaction that is open after a CMT was open before it, and is another one.
pub after_cmt : {Op State : Type 0} (O : Object Op State) (c : Config Op) (t : Name) (y : Tx Op) → Meets O c (Cmt t) → In y (then c (Cmt t)).opened → In y c.opened × (y.name ≢ t)
after_cmt {Op} O c t y m i =
    let x = there_holds (tx t c.opened) _ m in
    let j : In y (without_tx t c.opened) = subst (λ (d : Config Op). In y d.opened) (ap (λ (o : Option (Tx Op)). commit_effect c t o) x.1) i in
    let f = from_filter (λ (w : Tx Op). not (w.name =ⁿ t)) y c.opened j in
    (f.0, not_names y.name t f.1)

-- ---- the own log

-- The log of t grows by entries that are not unpushed, and then by one more entry.
pub record Grows {Op : Type 0} (t : Name) (x : Tx Op) (c : Config Op) (ss : List (Step Op)) (last : LocalEntry Op) : Type 0 where
  pub more : List (LocalEntry Op)
  pub none : NoneUnpushed more
  pub led : tx t (after_from c ss).opened ≡ Some (relog (λ l. l ++ (more ++ last ∷ [])) x)
  pub own : AreOf t ss

none_pulled : {Op : Type 0} (gs : List (SharedEntry Op)) → NoneUnpushed (map as_pulled gs)
none_pulled {Op} gs a i k =
    let f = from_map as_pulled a gs i in
    let z : Pulled ≡ Unpushed = sym (ap (λ (w : LocalEntry Op). w.mark) f.2) ∙ k in cc

module _ {Op State : Type 0} (O : Object Op State) (place : Op → ℕ) (c : Config Op) (t : Name) (x : Tx Op) (id : ℕ) (op : Op) (s : Sound O c) (h : tx t c.opened ≡ Some x) where
  abbrev applied : LocalEntry Op
  applied = as_applied t id op

  abbrev wanted : SharedEntry Op → Bool
  wanted = λ g. g.committed && (place g.op == place op)

  abbrev entries : List (LocalEntry Op)
  entries = map as_pulled (missing wanted c.shared x.local)

  abbrev first : List (Step Op)
  first = refresh place t (place op) c.shared x.local

  pulled_led : RunsFrom O c first → tx t (after_from c first).opened ≡ Some (relog (λ l. l ++ entries) x)
  pulled_led r = (pulls_law O).log c t wanted x s h r

  -- an APP after these steps
  app_led : (steps : List (Step Op)) (more : List (LocalEntry Op)) → tx t (after_from c steps).opened ≡ Some (relog (λ l. l ++ more) x) →
      tx t (after_from c (steps ++ App t id op ∷ [])).opened ≡ Some (relog (λ l. l ++ (more ++ applied ∷ [])) x)
  app_led steps more led =
      ap (λ (d : Config Op). tx t d.opened) (after_append c steps (App t id op ∷ []))
      ∙ tx_on t (λ l. l ++ applied ∷ []) (after_from c steps).opened (relog (λ l. l ++ more) x) led
      ∙ ap (λ (l : List (LocalEntry Op)). Some (relog (λ k. l) x)) (append_assoc x.local more (applied ∷ []))

  -- An operation at once adds pulled entries and a pushed one to the local log.
  pub at_once_grows : RunsFrom O c (op_at_once place c.shared x.local t id op) → Grows t x c (op_at_once place c.shared x.local t id op) (marked Pushed applied)
  at_once_grows r =
      let two : List (Step Op) = App t id op ∷ Push t id ∷ [] in
      let front = runs_front O c first two r in
      let behind = runs_back O c first two r in
      let c1 : Config Op = after_from c first in
      let x1 : Tx Op = relog (λ l. l ++ entries) x in
      let x2 : Tx Op = relog (λ l. l ++ applied ∷ []) x1 in
      let c2 : Config Op = then c1 (App t id op) in
      let s2 : Sound O c2 = step_keeps O c1 (App t id op) (run_keeps O first c s front) behind.0 in
      let h2 : tx t c2.opened ≡ Some x2 = tx_on t (λ l. l ++ applied ∷ []) c1.opened x1 (pulled_led front) in
      let ids : LocalIds (x1.local ++ applied ∷ []) = s2.local_ids x2 (found_tx t c2.opened x2 h2).0 in
      let at : at_mark id Unpushed x2.local ≡ Some applied = mark_found x2.local applied Unpushed ids (in_right applied x1.local (applied ∷ []) (inl refl)) refl in
      let found : entry_of id Unpushed (tx t c2.opened) ≡ Some applied = ap (λ (o : Option (Tx Op)). entry_of id Unpushed o) h2 ∙ at in
      let to : then c2 (Push t id) ≡ push_effect c2 t id (Some applied) = ap (λ (o : Option (LocalEntry Op)). push_effect c2 t id o) found in
      record {
        more = entries;
        none = none_pulled (missing wanted c.shared x.local);
        led = ap (λ (d : Config Op). tx t d.opened) (after_append c first two ∙ to)
            ∙ tx_on t (set_mark id Pushed) c2.opened x2 h2
            ∙ ap (λ (l : List (LocalEntry Op)). Some (relog (λ k. l) x)) (set_mark_at x1.local [] applied ids Pushed ∙ append_assoc x.local entries (marked Pushed applied ∷ []));
        own = of_append t first two (of_pulls t (missing wanted c.shared x.local)) (refl, (refl, tt));
      }

  -- An operation that is pushed later adds pulled entries and an unpushed one to the local log.
  pub later_grows : (seen : List (LocalEntry Op)) → RunsFrom O c (op_later place seen c.shared x.local t id op) → Grows t x c (op_later place seen c.shared x.local t id op) applied
  later_grows seen r = by (touches place (place op) seen) r
    where
      by : (b : Bool) → RunsFrom O c (cond b [] first ++ App t id op ∷ []) → Grows t x c (cond b [] first ++ App t id op ∷ []) applied
      by true r = record {
        more = [];
        none = λ a i. absurd i;
        led = tx_on t (λ l. l ++ applied ∷ []) c.opened x h;
        own = (refl, tt);
      }
      by false r = record {
        more = entries;
        none = none_pulled (missing wanted c.shared x.local);
        led = app_led first entries (pulled_led (runs_front O c first (App t id op ∷ []) r));
        own = of_append t first (App t id op ∷ []) (of_pulls t (missing wanted c.shared x.local)) (refl, tt);
      }
