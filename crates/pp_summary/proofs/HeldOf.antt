-- Facts about the brief of a boosted configuration.
use Rattle.std.specs.Prelude.{◌≡◌, ◌≢◌, ℕ, Bool, true, false, not, List, [], map, Option, None, Some, IsTrue}
use Rattle.std.proofs.Common.{refl, sym, ap, subst, ◌∙◌}
use mathlib.Core.Logic.{inl, inr}
use Rattle.pp_core.specs.declared.call.Style.TheVariants as styles
use Rattle.pp_core.specs.declared.entry.Item.{Item}
use Rattle.pp_model.specs.Config.{Config, SharedEntry, Tx, after_from, as_shared, is_own, item, own_items, shared_item, shared_ops, tx}
use Rattle.pp_model.specs.Lists.{Before, In}
use Rattle.pp_model.specs.Names.{Name, ◌=ⁿ◌}
use Rattle.pp_model.specs.Serial.{has_id}
use Rattle.pp_model.specs.Sound.{serial_items}
use Rattle.pp_model.proofs.Lists.{before_from_map, before_in_first, before_in_second, before_map, by_key, from_map, in_map}
use Rattle.pp_model.proofs.Local.{shared_used}
use Rattle.pp_model.proofs.Logs.{found_tx, from_own, in_own}
use Rattle.pp_model.proofs.Names.{eq-names, names_tell}
use Rattle.pp_model.proofs.Serial.{from_serial}
use Rattle.pp_log_shared.specs.Committing.{HoldsIdsOf}
use Rattle.pp_log.specs.Leaving.{MayLeave, without_items}
use Rattle.pp_log.specs.Room.{ids_of}
use Rattle.pp_kind.specs.Object.{Object, IsLawful, IsPlaced, Swaps, SwapsIn, rules_of}
use Rattle.pp_records.specs.Expansions.{expand}
use Rattle.pp_records.specs.Fronts.{new_front}
use Rattle.pp_records.specs.Records.{RunRecord}
use Rattle.pp_kind.proofs.Fitting.{fits_in}
use Rattle.pp_summary.specs.Boosted.{Boosted, PlacesSwap}
use Rattle.pp_summary.specs.Brief.{Brief, BriefGood, BriefTx, brief_of, brief_then, brief_tx, without_owner}
use Rattle.pp_summary.specs.Held.{Held, IsHeldOf}
use Rattle.pp_summary.specs.Runs.{IsBoosted}
use Rattle.pp_summary.proofs.Briefs.{brief_of_is, briefed, differ, to_brief}
use Rattle.pp_summary.proofs.Fitting.{swaps_everywhere}
use Rattle.pp_summary.proofs.Leave.{moved, own_before}
use Rattle.pp_summary.proofs.Deciding.{quick}
use Rattle.pp_laws_summary.proofs.Entries.{has_in, in_has}
use Rattle.pp_laws_summary.proofs.Lookups.{done_by_other}
use Rattle.pp_laws_summary.proofs.Relog.{filter_same, same_bool}

-- Operations at different places swap, in each shape.
pub apart_of : {Shape State Op Undo : Type 0} (o : Object Shape State Op Undo) (place : Op → ℕ) (SameAt : ℕ → State → State → Type 0) → IsPlaced o place SameAt → (shape : Shape) → PlacesSwap (rules_of o shape) place
apart_of o place SameAt laws shape = record { apart = λ a b n. laws.apart a b n shape }

-- A transaction that is found in a brief is the brief of an open one.
found_of : {Op : Type 0} (place : Op → ℕ) (c : Config Op) (t : Name) (y : BriefTx Op) (o : Option (Tx Op)) → tx t c.opened ≡ o → to_brief place c.shared o ≡ Some y →
    (x : Tx Op) × (tx t c.opened ≡ Some x) × (brief_tx place c.shared x ≡ y)
found_of place c t y None e h = absurd (cc)
found_of place c t y (Some x) e h = (x, e, (let z : Some (brief_tx place c.shared x) ≡ Some y = h in cc))

module _ {Shape State Op Undo : Type 0} (o : Object Shape State Op Undo) (place : Op → ℕ) (apart : (shape : Shape) → PlacesSwap (rules_of o shape) place) (shape : Shape) where
  module _ (c : Config Op) (b : Boosted (rules_of o shape) place c) where
    c_new : (id : ℕ) → (In id c.ids → ⊥) → (g : SharedEntry Op) → In g c.shared → g.id ≡ id → ⊥
    c_new id n g i e = n (subst (λ (j : ℕ). In j c.ids) e (shared_used (rules_of o shape) c b.sound g i))

    c_done : (p : Item Op) → In p (serial_items c.done) → (n : Name) × In (as_shared n true p) c.shared
    c_done p i = let s = from_serial c.done p i in ((s.0).name, b.sound.done_stand s.0 s.1 p s.2)

    fit : IsLawful o → (g : SharedEntry Op) → In g c.shared → IsTrue (o.fits shape g.op)
    fit laws g i = fits_in o laws shape (shared_ops c.shared) b.sound.shared_allowed g.op (in_map (λ (w : SharedEntry Op). w.op) g c.shared i)

    module _ (t : Name) (x : Tx Op) (lookup : tx t c.opened ≡ Some x) where
      f : In x c.opened × (x.name ≡ t)
      f = found_tx t c.opened x lookup

      stands : (p : Item Op) → In p (own_items x.local) → In (as_shared t false p) c.shared
      stands p i =
          let e = from_own x.local p i in
          subst (λ (q : Item Op). In (as_shared t false q) c.shared) (sym e.3)
          (subst (λ (n : Name). In (as_shared n false (item e.0)) c.shared) f.1 (b.sound.pushed_stand x f.0 e.0 e.1 ((b.follows x f.0).own_pushed e.0 e.1 e.2)))

      owned : (g : SharedEntry Op) → In g c.shared → g.owner ≡ t → (p : Item Op) × In p (own_items x.local) × (g ≡ as_shared t false p)
      owned g i n = by g.committed refl
        where
          by : (z : Bool) → g.committed ≡ z → (p : Item Op) × In p (own_items x.local) × (g ≡ as_shared t false p)
          by true u = absurd (done_by_other (rules_of o shape) c b.sound x f.0 g i u (n ∙ sym f.1))
          by false u =
              let r = b.sound.uncommitted_from g i u in
              let y : r.0 ≡ x = by_key (λ (w : Tx Op). w.name) c.opened b.sound.open_names r.0 x r.1 f.0 (ap (λ (w : SharedEntry Op). w.owner) (sym r.5) ∙ n ∙ sym f.1) in (
                item r.2,
                in_own x.local r.2 (subst (λ (w : Tx Op). In r.2 w.local) y r.3) (ap is_own r.4),
                r.5 ∙ ap (λ (m : Name). as_shared m false (item r.2)) (ap (λ (w : Tx Op). w.name) y ∙ f.1),
              )

      stood : (p : Item Op) → In p (own_items x.local) → (g : SharedEntry Op) → In g c.shared → g.id ≡ p.id → g ≡ as_shared t false p
      stood p i g ig e = by_key (λ (w : SharedEntry Op). w.id) c.shared b.sound.shared_ids g (as_shared t false p) ig (stands p i) e

      in_order : (p q : Item Op) → Before p q (own_items x.local) → Before p q (map shared_item c.shared)
      in_order p q i =
          let r = own_before (rules_of o shape) place (apart shape) c b x f.0 [] (own_items x.local) refl p q i in
          let eg = stood p (before_in_first p q (own_items x.local) i) r.0 (before_in_first r.0 r.1 c.shared r.2) r.3 in
          let eh = stood q (before_in_second p q (own_items x.local) i) r.1 (before_in_second r.0 r.1 c.shared r.2) r.4 in
          subst (λ (z : Item Op). Before z q (map shared_item c.shared)) (ap (λ (w : SharedEntry Op). shared_item w) eg)
          (subst (λ (z : Item Op). Before (shared_item r.0) z (map shared_item c.shared)) (ap (λ (w : SharedEntry Op). shared_item w) eh)
          (before_map shared_item r.0 r.1 c.shared r.2))

      passes : IsLawful o → (p q : Item Op) → In p (own_items x.local) → Before p q (map shared_item c.shared) → has_id q.id (ids_of (own_items x.local)) ≡ false → Swaps o p.op q.op
      passes laws p q i before other =
          let r = before_from_map shared_item p q c.shared before in
          let own : has_id (r.0).id (ids_of (own_items x.local)) ≡ true = in_has (r.0).id (ids_of (own_items x.local)) (subst (λ (z : Item Op). In z.id (ids_of (own_items x.local))) r.3 (in_map (λ (w : Item Op). w.id) p (own_items x.local) i)) in
          let not_own : has_id (r.1).id (ids_of (own_items x.local)) ≡ false = subst (λ (z : Item Op). has_id z.id (ids_of (own_items x.local)) ≡ false) r.4 other in
          let here : SwapsIn o shape (r.0).op (r.1).op = moved (rules_of o shape) place (apart shape) c b x f.0 [] (own_items x.local) refl r.0 r.1 r.2 (ap not own) (ap not not_own) in
          subst (λ (z : Item Op). Swaps o z.op q.op) (sym r.3) (subst (λ (z : Item Op). Swaps o (r.0).op z.op) (sym r.4)
          (swaps_everywhere o laws shape (r.0).op (r.1).op (fit laws r.0 (before_in_first r.0 r.1 c.shared r.2)) (fit laws r.1 (before_in_second r.0 r.1 c.shared r.2)) here))

      leaves : IsLawful o → MayLeave o (own_items x.local) (map shared_item c.shared)
      leaves laws =
          record {
            stand = λ p i. in_map shared_item (as_shared t false p) c.shared (stands p i);
            order = in_order;
            pass = passes laws;
          }

      without : without_items shared_item (own_items x.local) c.shared ≡ without_owner t c.shared
      without = filter_same (λ (g : SharedEntry Op). not (has_id g.id (ids_of (own_items x.local)))) (λ (g : SharedEntry Op). not (g.owner =ⁿ t)) c.shared (λ g i. ap not
          (same_bool (has_id g.id (ids_of (own_items x.local))) (g.owner =ⁿ t)
          (λ h.
          let m = from_map (λ (p : Item Op). p.id) g.id (own_items x.local) (has_in g.id (ids_of (own_items x.local)) h) in
          let e = by_key (λ (w : SharedEntry Op). w.id) c.shared b.sound.shared_ids g (as_shared t false m.0) i (stands m.0 m.1) m.2 in
          eq-names g.owner t (ap (λ (w : SharedEntry Op). w.owner) e))
          (λ h. elim (names_tell g.owner t) [
            | inl r ↦
                let w = owned g i r.1 in
                in_has g.id (ids_of (own_items x.local)) (subst (λ (j : ℕ). In j (ids_of (own_items x.local))) (ap (λ (z : SharedEntry Op). z.id) (sym w.2)) (in_map (λ (p : Item Op). p.id) w.0 (own_items x.local) w.1))
            | inr r ↦ absurd (differ (g.owner =ⁿ t) h r.0)
          ])))

-- The same facts about a brief that a Quick holds.
module _ {Shape State Op Undo : Type 0} (o : Object Shape State Op Undo) (place : Op → ℕ) (apart : (shape : Shape) → PlacesSwap (rules_of o shape) place) (v : Held Shape Op) (k : (c : Config Op) × IsHeldOf o place v c) where
  -- A good record leads from the brief of a boosted configuration to the brief of another one.
  pub advance : (w : Held Shape Op) (r : RunRecord Op) → w.shape ≡ v.shape → w.brief ≡ brief_then place v.brief r → IsBoosted r → BriefGood (rules_of o v.shape) place v.brief r
      → (c : Config Op) × IsHeldOf o place w c
  advance w r shape next s h =
      let O = rules_of o v.shape in
      let b = briefed O place (apart v.shape) in
      let g = (b.good k.0 r s k.1.boosted).1 (subst (λ (B : Brief Op). BriefGood O place B r) (sym k.1.is) h) in
      let c = after_from k.0 (expand place styles.Boosted (new_front []) k.0 r) in (
        c,
        record {
          boosted = subst (λ (z : Shape). Boosted (rules_of o z) place c) (sym shape) ((quick O place (apart v.shape)).kept (new_front []) k.0 r s k.1.boosted g);
          is = b.step (new_front []) k.0 r s k.1.boosted g ∙ ap (λ (B : Brief Op). brief_then place B r) k.1.is ∙ sym next;
        },
      )

  -- An id that was not used is no id of the shared log.
  pub new_id : (id : ℕ) → (In id v.brief.ids → ⊥) → (g : SharedEntry Op) → In g v.brief.shared → g.id ≡ id → ⊥
  new_id = subst (λ (w : Brief Op). (id : ℕ) → (In id w.ids → ⊥) → (g : SharedEntry Op) → In g w.shared → g.id ≡ id → ⊥) k.1.is (c_new o place apart v.shape k.0 k.1.boosted)

  -- The ids of the shared log are distinct.
  pub distinct : (g h : SharedEntry Op) → Before g h v.brief.shared → g.id ≡ h.id → ⊥
  distinct = subst (λ (w : Brief Op). (g h : SharedEntry Op) → Before g h w.shared → g.id ≡ h.id → ⊥) k.1.is k.1.boosted.sound.shared_ids

  -- Each item of the serial run is committed in the shared log.
  pub done_stands : (p : Item Op) → In p (serial_items v.brief.done) → (n : Name) × In (as_shared n true p) v.brief.shared
  done_stands = subst (λ (w : Brief Op). (p : Item Op) → In p (serial_items w.done) → (n : Name) × In (as_shared n true p) w.shared) k.1.is (c_done o place apart v.shape k.0 k.1.boosted)

  -- Each entry of the shared log fits the shape.
  pub fits : IsLawful o → (g : SharedEntry Op) → In g v.brief.shared → IsTrue (o.fits v.shape g.op)
  fits laws = subst (λ (w : Brief Op). (g : SharedEntry Op) → In g w.shared → IsTrue (o.fits v.shape g.op)) k.1.is
      (fit o place apart v.shape k.0 k.1.boosted laws)

  -- The names of the open transactions are distinct.
  pub names_apart : (y z : BriefTx Op) → Before y z v.brief.opened → y.name ≢ z.name
  names_apart = subst (λ (w : Brief Op). (y z : BriefTx Op) → Before y z w.opened → y.name ≢ z.name) k.1.is (λ y z i.
      let m = before_from_map (brief_tx place k.0.shared) y z k.0.opened i in
      λ e. k.1.boosted.sound.open_names m.0 m.1 m.2 (ap (λ (w : BriefTx Op). w.name) (sym m.3) ∙ e ∙ ap (λ (w : BriefTx Op). w.name) m.4))

  module _ (t : Name) (y : BriefTx Op) (found : brief_of t v.brief.opened ≡ Some y) where
    -- An open transaction of the brief is the brief of one in the configuration.
    pub there : (x : Tx Op) × (tx t k.0.opened ≡ Some x) × (brief_tx place k.0.shared x ≡ y)
    there = found_of place k.0 t y (tx t k.0.opened) refl
        (sym (brief_of_is place k.0.shared t k.0.opened) ∙ ap (λ (w : Brief Op). brief_of t w.opened) k.1.is ∙ found)

    own_is : own_items (there.0).local ≡ y.own
    own_is = ap (λ (w : BriefTx Op). w.own) there.2

    log_is : k.0.shared ≡ v.brief.shared
    log_is = ap (λ (w : Brief Op). w.shared) k.1.is

    both : (P : List (Item Op) → List (SharedEntry Op) → Type 0) → P (own_items (there.0).local) k.0.shared → P y.own v.brief.shared
    both P h = subst (λ (w : List (Item Op)). P w v.brief.shared) own_is (subst (λ (w : List (SharedEntry Op)). P (own_items (there.0).local) w) log_is h)

    -- Each own item of an open transaction is uncommitted in the shared log.
    pub own_stands : (p : Item Op) → In p y.own → In (as_shared t false p) v.brief.shared
    own_stands = both (λ l G. (p : Item Op) → In p l → In (as_shared t false p) G) (stands o place apart v.shape k.0 k.1.boosted t there.0 there.1)

    -- Each entry of the shared log that an open transaction owns is one of its own items.
    pub is_owned : (g : SharedEntry Op) → In g v.brief.shared → g.owner ≡ t → (p : Item Op) × In p y.own × (g ≡ as_shared t false p)
    is_owned = both (λ l G. (g : SharedEntry Op) → In g G → g.owner ≡ t → (p : Item Op) × In p l × (g ≡ as_shared t false p)) (owned o place apart v.shape k.0 k.1.boosted t there.0 there.1)

    -- The own items of an open transaction have the ids of its entries in the shared log.
    pub holds_ids : HoldsIdsOf t y.own v.brief.shared
    holds_ids e i u n = let w = is_owned e i n in (w.0, w.1, ap (λ (z : SharedEntry Op). z.id) (sym w.2))

    -- The own items of an open transaction may leave the shared log.
    pub may_leave : IsLawful o → MayLeave o y.own (map shared_item v.brief.shared)
    may_leave laws = both (λ l G. MayLeave o l (map shared_item G)) (leaves o place apart v.shape k.0 k.1.boosted t there.0 there.1 laws)

    -- To leave the own items out of the shared log is to leave out the entries of their owner.
    pub without_is : without_items shared_item y.own v.brief.shared ≡ without_owner t v.brief.shared
    without_is = both (λ l G. without_items shared_item l G ≡ without_owner t G) (without o place apart v.shape k.0 k.1.boosted t there.0 there.1)
