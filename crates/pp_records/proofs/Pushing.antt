-- After a pushall no entry of the local log is unpushed.
use Rattle.std.specs.Prelude.{◌≡◌, ℕ, eqb, Bool, cond, List, [], ◌∷◌, map, filter, Option, Some}
use Rattle.std.proofs.Common.{sym, ap, subst, ◌∙◌}
use Rattle.std.proofs.lemmas.Bool.Decides.{eqb_tells}
use mathlib.Core.Logic.{inl, inr}
use Rattle.pp_model.specs.Lists.{In}
use Rattle.pp_model.specs.Names.{Name}
use Rattle.pp_model.specs.Object.{Object}
use Rattle.pp_model.specs.Config.{Config, LocalEntry, Push, Pushed, Step, Tx, Unpushed, after_from}
use Rattle.pp_model.specs.Config.{at_mark, entry_of, is_mark, set_mark, push_effect, relog, then}
use Rattle.pp_model.specs.Config.{tx}
use Rattle.pp_model.specs.Rules.{RunsFrom}
use Rattle.pp_model.proofs.Lists.{from_map, in_filter, in_map}
use Rattle.pp_model.proofs.Steps.{there_holds}
use Rattle.pp_records.specs.Effects.{PushallLaw}
use Rattle.pp_records.proofs.Taking.{tx_on}

-- the log with the entries of these ids marked pushed
abbrev marks : {Op : Type 0} → List ℕ → List (LocalEntry Op) → List (LocalEntry Op)
marks [] l = l
marks (i ∷ is) l = marks is (set_mark i Pushed l)

pushes : {Op State : Type 0} (O : Object Op State) (t : Name) (us : List (LocalEntry Op)) (c : Config Op) (x : Tx Op) → tx t c.opened ≡ Some x → RunsFrom O c (map (λ e. Push t e.id) us) →
    tx t (after_from c (map (λ e. Push t e.id) us)).opened ≡ Some (relog (λ l. marks (map (λ e. e.id) us) l) x)
pushes O t [] c x h r = h
pushes {Op} O t (u ∷ us) c x h r =
    let k = there_holds (tx t c.opened) _ r.0 in
    let q = there_holds (at_mark u.id Unpushed k.0.local) _ k.2 in
    let found : entry_of u.id Unpushed (tx t c.opened) ≡ Some q.0 = ap (λ (w : Option (Tx Op)). entry_of u.id Unpushed w) k.1 ∙ q.1 in
    let to : then c (Push t u.id) ≡ push_effect c t u.id (Some q.0) = ap (λ (w : Option (LocalEntry Op)). push_effect c t u.id w) found in
    let more : List (Step Op) = map (λ e. Push t e.id) us in
    ap (λ (w : Config Op). tx t (after_from w more).opened) to
    ∙ pushes O t us (push_effect c t u.id (Some q.0)) (relog (set_mark u.id Pushed) x) (tx_on t (set_mark u.id Pushed) c.opened x h) (subst (λ (w : Config Op). RunsFrom O w more) to r.1)

-- an entry that is unpushed then was so before, and its id is none of these
unmarked : {Op : Type 0} (is : List ℕ) (l : List (LocalEntry Op)) (e : LocalEntry Op) → In e (marks is l) → e.mark ≡ Unpushed → In e l × (In e.id is → ⊥)
unmarked [] l e i m = (i, λ j. j)
unmarked {Op} (k ∷ is) l e i m =
    let r = unmarked is (set_mark k Pushed l) e i m in
    let f = from_map (λ (d : LocalEntry Op). cond (eqb d.id k) (record { id = d.id; owner = d.owner; mark = Pushed; op = d.op }) d) e l r.0 in
    let d : LocalEntry Op = f.0 in
    let as_marked : LocalEntry Op = record { id = d.id; owner = d.owner; mark = Pushed; op = d.op } in
    elim (eqb_tells d.id k) [
      | inl a ↦
          let is_pushed : e ≡ as_marked = f.2 ∙ ap (λ (b : Bool). cond b as_marked d) a.0 in
          let bad : Pushed ≡ Unpushed = sym (ap (λ (w : LocalEntry Op). w.mark) is_pushed) ∙ m in
          absurd (cc)
      | inr a ↦
          let same : e ≡ d = f.2 ∙ ap (λ (b : Bool). cond b as_marked d) a.0 in
          (subst (λ (w : LocalEntry Op). In w l) (sym same) f.1, λ j. elim j [ inl z ↦ a.1 (sym (ap (λ (w : LocalEntry Op). w.id) same) ∙ z) | inr z ↦ r.1 z ])
    ]

-- After a pushall that holds, no entry of the local log is unpushed.
pub pushall_law : {Op State : Type 0} (O : Object Op State) → PushallLaw O
pushall_law {Op} O c t x h r =
    let test : LocalEntry Op → Bool = λ e. is_mark e.mark Unpushed in
    let us : List (LocalEntry Op) = filter test x.local in (
      relog (λ l. marks (map (λ e. e.id) us) l) x,
      pushes O t us c x h r,
      λ e i m. let k = unmarked (map (λ (w : LocalEntry Op). w.id) us) x.local e i m in
          k.1 (in_map (λ (w : LocalEntry Op). w.id) e us (in_filter test e x.local k.0 (ap (λ (w : _). is_mark w Unpushed) m))),
    )
