-- What judging a step passes on to its effect.
use Rattle.std.proofs.Common.{◌≡◌, ◌==◌, ◌-◌, ℕ, true, false, List, map, length, Option, Some, None}
use Rattle.std.proofs.Common.{option_map, position, slice_get, sym, ap, subst, ◌∙◌, arith}
use Rattle.std.proofs.lemmas.Bool.{eq-eqb}
use Rattle.pp_core.specs.declared.entry.CommittedTx.{CommittedTx}
use Rattle.pp_core.specs.declared.entry.LocalEntry.{LocalEntry}
use Rattle.pp_core.specs.declared.entry.SharedEntry.{SharedEntry}
use Rattle.pp_model.specs.Config.{Mark, Tx, Unpushed, Pushed, at_mark, is_mark, item, last}
use Rattle.pp_model.specs.Config.{Step, of_other, as_shared, is_own, own_items}
use Rattle.pp_model.specs.Lists.{Before, In}
use Rattle.pp_model.specs.Names.{Name}
use Rattle.pp_model.specs.Rules.{IsLast}
use Rattle.pp_model.proofs.Lists.{by_key}
use Rattle.pp_model.proofs.Logs.{found_mark, found_tx, in_own}
use Rattle.pp_model.proofs.Finding.{find_nowhere, place_none}
use Rattle.pp_log_shared.specs.Committing.{HoldsIdsOf}
use Rattle.pp_kind.specs.Object.{Object, SwapsIn}
use Rattle.pp_machine.specs.Finding.{IsLastUnpushed}
use Rattle.pp_machine.specs.Machines.{Holds, Seen, config_of, tx_of}
use Rattle.pp_machine.specs.Costs.{CostsBy, CostsInVain}
use Rattle.pp_machine.specs.Judges.{FindsPushed, IsAt, IsLastAt, IsOfOther}
use Rattle.pp_machine.specs.Judges.{Refuses}
use Rattle.pp_machine.specs.Stepping.{Stepped}
use Rattle.pp_machine.specs.declared.detail.Refusal.{Refusal}
use Rattle.pp_machine.specs.declared.machine.Outcome.{Outcome}
use Rattle.pp_machine.specs.declared.machine.Outcome.TheVariants.{False}
use Rattle.pp_machine.specs.Transactions.{Open, Txs}
use Rattle.pp_machine.proofs.Cuts.{last_at}
use Rattle.pp_machine.proofs.Opened.{HasLog, logged, opened}

not_both : true ≡ false → ⊥
not_both e = cc

-- a step that is refused has done nothing
module _ {Shape State Op Undo : Type 0} (o : Object Shape State Op Undo) (old new : Seen Shape Op) (step : Step Op) (refusal : Refusal Op) (out : Outcome Op) (is : out ≡ False refusal.criterion refusal.detail) where
  -- A step that is refused has done nothing, and its outcome names the criterion.
  pub refused_step : Refuses o old step refusal → new ≡ old → Stepped o old step out new
  refused_step k same = subst (λ (z : Outcome Op). Stepped o old step z new) (sym is) (k.breaks, k.not_zero, same, k.is_evidence)

-- The cost of a refused step is within that of a step in vain.
pub refused_cost : {Shape Op : Type 0} (place : Op → ℕ) (v : Seen Shape Op) (step : Step Op) (refusal : Refusal Op) (out : Outcome Op) → out ≡ False refusal.criterion refusal.detail → (a b : ℕ) → CostsInVain place v.config step a b → CostsBy place v.config step out a b
refused_cost {Shape} {Op} place v step refusal out is a b h = subst (λ (z : Outcome Op). CostsBy place v.config step z a b) (sym is) h

module _ {Shape State Op Undo : Type 0} (o : Object Shape State Op Undo) (shape : Shape) (v : Txs Shape Op) (ids : List ℕ) (G : Shape × List (SharedEntry Op)) (F : List (CommittedTx Op)) (n : ℕ) (h : Holds o shape v ids G F n) (w : Seen Shape Op)
    (same : ◌≡◌ {A = Seen Shape Op} (record { shape = shape; config = config_of v ids G.1 F; count = n }) w) where
  -- the local log of the open transaction t, with an entry that is in it
  pub record HasEntry (t : Name) (id : ℕ) (m : Mark) (i : ℕ) (e : LocalEntry Op) : Type 0 where
    pub log : Shape × List (LocalEntry Op)
    pub has : HasLog o shape v ids G F n h t log
    pub found : at_mark id m log.1 ≡ Some e
    pub here : slice_get log.1 i ≡ Some e

  -- An entry at a position of a local log of the configuration is there in the machine's log.
  pub entry_at : (t : Name) (id : ℕ) (m : Mark) (i : ℕ) (e : LocalEntry Op) → IsAt w.config t id m i e → HasEntry t id m i e
  entry_at t id m i e k =
      let q = subst (λ (z : Seen Shape Op). IsAt z.config t id m i e) (sym same) k in
      let y = opened o shape v ids G F n h t q.holder q.is_open in
      let is : (y.0).local.1 ≡ (q.holder).local = ap (λ (z : Tx Op). z.local) y.2 in
      record {
        log = (y.0).local;
        has = logged o shape v ids G F n h t (y.0).local (sym (ap (option_map (λ (x : Open Shape Op). x.local)) y.1));
        found = ap (at_mark id m) is ∙ q.found;
        here = ap (λ (l : List (LocalEntry Op)). slice_get l i) is ∙ q.here;
      }

  -- An entry at a position of the machine's local log is at it in the configuration.
  pub is_at : (t : Name) (id : ℕ) (m : Mark) (i : ℕ) (e : LocalEntry Op) (l : Shape × List (LocalEntry Op)) → HasLog o shape v ids G F n h t l → at_mark id m l.1 ≡ Some e → slice_get l.1 i ≡ Some e → IsAt w.config t id m i e
  is_at t id m i e l r q at = subst (λ (z : Seen Shape Op). IsAt z.config t id m i e) same (record { holder = _; is_open = r.is; found = q; here = at })

  -- The entry of another owner that the machine finds is the one in the configuration.
  pub of_other_is : (t : Name) (id : ℕ) (g : SharedEntry Op) → of_other t id G.1 ≡ Some g → IsOfOther w.config t id g
  of_other_is t id g e = subst (λ (z : Seen Shape Op). IsOfOther z.config t id g) same e

  -- The entry of another owner in the configuration is the one that the machine finds.
  pub is_of_other : (t : Name) (id : ℕ) (g : SharedEntry Op) → IsOfOther w.config t id g → of_other t id G.1 ≡ Some g
  is_of_other t id g e = subst (λ (z : Seen Shape Op). IsOfOther z.config t id g) (sym same) e

  -- The last unpushed entry of the machine's local log is the last one in the configuration.
  pub is_last_at : (t : Name) (id i : ℕ) (l : Shape × List (LocalEntry Op)) → HasLog o shape v ids G F n h t l → IsLastUnpushed id l.1 i → IsLastAt w.config t i
  is_last_at t id i l r q = subst (λ (z : Seen Shape Op). IsLastAt z.config t i) same (record { holder = _; is_open = r.is; entry = q.entry; here = q.here; end = q.end; own = q.unpushed })

  -- A pushed entry that later ones swap with is found in both logs, at these positions.
  pub finds_pushed : (t : Name) (id i j : ℕ) (e : LocalEntry Op) (l : Shape × List (LocalEntry Op)) → HasLog o shape v ids G F n h t l → at_mark id Pushed l.1 ≡ Some e → slice_get l.1 i ≡ Some e →
      ((b : LocalEntry Op) → Before e b l.1 → b.mark ≡ Pushed → SwapsIn o shape b.op e.op) → position (λ g. g.id == id) G.1 ≡ Some j → FindsPushed o w t id i j
  finds_pushed t id i j e l r q at s p =
      subst (λ (z : Seen Shape Op). FindsPushed o z t id i j) same
      (record { entry = e; at = record { holder = _; is_open = r.is; found = q; here = at }; swap = s; posted = p })

  -- Each pushed entry of an open transaction is in the shared log.
  pub stands_posted : (t : Name) (id : ℕ) (e : LocalEntry Op) (l : Shape × List (LocalEntry Op)) → HasLog o shape v ids G F n h t l → at_mark id Pushed l.1 ≡ Some e → position (λ g. g.id == id) G.1 ≡ None → ⊥
  stands_posted t id e l r q none =
      let k = found_mark id Pushed l.1 e q in
      let i = h.sound.pushed_stand (record { name = t; thread = r.thread; body = r.body; local = l.1 }) (found_tx t (map tx_of v.opened) _ r.is).0 e k.0 k.2 in
      not_both (sym (eq-eqb e.id id k.1) ∙ find_nowhere (λ (g : SharedEntry Op). g.id == id) G.1 (place_none (λ (g : SharedEntry Op). g.id == id) G.1 none) (as_shared t false (item e)) i)

module _ {Shape State Op Undo : Type 0} (o : Object Shape State Op Undo) (shape : Shape) (v : Txs Shape Op) (ids : List ℕ) (G : Shape × List (SharedEntry Op)) (F : List (CommittedTx Op)) (n : ℕ) (h : Holds o shape v ids G F n) where
  -- the uncommitted entries of an open transaction are own in its log
  pub holds_ids : (t : Name) (l : Shape × List (LocalEntry Op)) → HasLog o shape v ids G F n h t l → HoldsIdsOf t (own_items l.1) G.1
  holds_ids t l r g i u owner =
      let x : Tx Op = record { name = t; thread = r.thread; body = r.body; local = l.1 } in
      let k = h.sound.uncommitted_from g i u in
      let same : k.0 ≡ x = by_key (λ (w : Tx Op). w.name) (map tx_of v.opened) h.sound.open_names k.0 x k.1 (found_tx t (map tx_of v.opened) x r.is).0 (ap (λ (w : SharedEntry Op). w.owner) (sym k.5) ∙ owner) in
      (item k.2, subst (λ (w : Tx Op). In (item k.2) (own_items w.local)) same (in_own (k.0).local k.2 k.3 (ap is_own k.4)), ap (λ (w : SharedEntry Op). w.id) (sym k.5))

-- A log whose last entry at i is unpushed, with this id, ends with it.
pub ends_with : {Op : Type 0} (id i : ℕ) (l : List (LocalEntry Op)) → IsLastUnpushed id l i → IsLast id (last l)
ends_with {Op} id i l q =
    let end = q.end in
    let e : length l - 1 ≡ i = omega (arith, end) in
    subst (λ (z : Option (LocalEntry Op)). IsLast id z) (sym (last_at l ∙ ap (slice_get l) e ∙ q.here)) (q.id_is, q.unpushed)

-- If the last entry of a log has another id, the log does not end with this id unpushed.
pub not_last : {Op : Type 0} (id : ℕ) (l : List (LocalEntry Op)) (e : LocalEntry Op) → last l ≡ Some e → (e.id ≡ id → ⊥) → IsLast id (last l) → ⊥
not_last {Op} id l e is n h = let k = subst (λ (z : Option (LocalEntry Op)). IsLast id z) is h in n k.0

-- If the last entry of a log is not unpushed, the log does not end with an unpushed entry.
pub not_unpushed : {Op : Type 0} (id : ℕ) (l : List (LocalEntry Op)) (e : LocalEntry Op) → last l ≡ Some e → false ≡ is_mark e.mark Unpushed → IsLast id (last l) → ⊥
not_unpushed {Op} id l e is n h =
    let k = subst (λ (z : Option (LocalEntry Op)). IsLast id z) is h in
    not_both (sym (ap (λ (m : Mark). is_mark m Unpushed) k.1) ∙ sym n)
