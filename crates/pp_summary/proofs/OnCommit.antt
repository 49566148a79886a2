-- A commit record, and a begin record.
use Rattle.std.specs.Prelude.{◌≡◌, ℕ, Bool, true, false, not, cond, List, [], Option, Some}
use Rattle.std.proofs.Common.{refl, sym, ap, subst, ◌∙◌}
use mathlib.Core.Logic.{inl, inr}
use Rattle.pp_model.specs.Body.{Tree, IsWord}
use Rattle.pp_model.specs.Lists.{In}
use Rattle.pp_model.specs.Names.{Name, ◌=ⁿ◌}
use Rattle.pp_model.specs.Object.{Object, Swaps, Item}
use Rattle.pp_model.specs.Config.{LocalEntry, SharedEntry, Tx, Config, Begin, Cmt, item, own_items, as_shared, tx, then, commit_effect, without_tx, commit_all}
use Rattle.pp_model.specs.Rules.{Meets, calls}
use Rattle.pp_model.specs.Sound.{Sound, StandsBefore}
use Rattle.pp_model.proofs.Lists.{before_in_first, before_in_second, in_map, from_map, before_map, before_from_map, from_filter, by_key}
use Rattle.pp_model.proofs.Logs.{found_tx}
use Rattle.pp_model.proofs.Names.{names_tell}
use Rattle.pp_model.proofs.Begin.{each_added}
use Rattle.pp_model.proofs.Commit.{commit, as_committed}
use Rattle.pp_model.proofs.Alone.{there_is}
use Rattle.pp_model.proofs.Keeps.{step_keeps}
use Rattle.pp_summary.specs.Boosted.{PlacesSwap, Follows, Boosted, Anchored, ComesBefore}
use Rattle.pp_summary.proofs.Front.{turn, is_item}
use Rattle.pp_laws_summary.proofs.Lookups.{there_of}

-- A BEGIN that meets its criteria keeps a configuration boosted.
pub begin_boosted : {Op State : Type 0} (O : Object Op State) (place : Op → ℕ) (c : Config Op) → Boosted O place c → (t p : Name) (w : Option Tree) → Meets O c (Begin t p w) → Boosted O place (then c (Begin t p w))
begin_boosted {Op} O place c b t p w h =
    record {
      sound = step_keeps O c (Begin t p w) b.sound h;
      follows = each_added c.opened (record { name = t; thread = p; body = w; local = [] }) (λ (y : Tx Op). Follows O place c.shared y.local) b.follows
          (record {
            own_pushed = λ a i o. absurd i;
            own_order = λ a e i o r. absurd i;
            pulled_stand = λ a i m. absurd i;
            late = λ l r i d st un. absurd i;
          });
      anchored = each_added c.opened (record { name = t; thread = p; body = w; local = [] }) (λ (y : Tx Op). Anchored place y.local) b.anchored (λ a i m. absurd i);
    }

-- A commit leaves the id and the operation of an entry the same.
pub commit_rest : {Op : Type 0} (t : Name) (g : SharedEntry Op) → ((commit t g).id ≡ g.id) × ((commit t g).op ≡ g.op)
commit_rest {Op} t g = elim (names_tell g.owner t) [
  | inl r ↦ (ap (λ (b : Bool). (cond b (as_committed g) g).id) r.0, ap (λ (b : Bool). (cond b (as_committed g) g).op) r.0)
  | inr r ↦ (ap (λ (b : Bool). (cond b (as_committed g) g).id) r.0, ap (λ (b : Bool). (cond b (as_committed g) g).op) r.0)
]

was_before : {Op : Type 0} (t : Name) (i j : ℕ) (G : List (SharedEntry Op)) → StandsBefore i j (commit_all t G) → StandsBefore i j G
was_before {Op} t i j G h =
    let m = before_from_map (commit t) h.0 h.1 G h.2 in
    (m.0, m.1, m.2, sym (commit_rest t m.0).0 ∙ ap (λ (w : SharedEntry Op). w.id) (sym m.3) ∙ h.3, sym (commit_rest t m.1).0 ∙ ap (λ (w : SharedEntry Op). w.id) (sym m.4) ∙ h.4)

still_committed : {Op : Type 0} (t n : Name) (p : Item Op) (G : List (SharedEntry Op)) → In (as_shared n true p) G → In (as_shared n true p) (commit_all t G)
still_committed {Op} t n p G i = subst (λ (w : SharedEntry Op). In w (commit_all t G)) (one (n =ⁿ t)) (in_map (commit t) (as_shared n true p) G i)
  where
    one : (b : Bool) → cond b (as_shared n true p) (as_shared n true p) ≡ as_shared n true p
    one true = refl
    one false = refl

module _ {Op State : Type 0} (O : Object Op State) (place : Op → ℕ) (apart : PlacesSwap O place)
    (c : Config Op) (b : Boosted O place c) (t : Name) (x : Tx Op) (lookup : tx t c.opened ≡ Some x) where
  -- A CMT meets its criteria if the own calls are a word of the body.
  pub cmt_holds : IsWord x.body (calls O (own_items x.local)) → Meets O c (Cmt t)
  cmt_holds w =
      let ix = (found_tx t c.opened x lookup).0 in
      let f = b.follows x ix in
      there_is (tx t c.opened) _ x lookup (w, (f.own_pushed, ((λ e i m. (as_shared e.owner true (item e), f.pulled_stand e i m, refl, refl)), refl)))

  -- If a CMT meets its criteria, the own calls are a word of the body.
  pub cmt_word : Meets O c (Cmt t) → IsWord x.body (calls O (own_items x.local))
  cmt_word h = (there_of (tx t c.opened) _ x lookup h).0

  -- A CMT that meets its criteria keeps a configuration boosted.
  pub cmt_boosted : Meets O c (Cmt t) → Boosted O place (then c (Cmt t))
  cmt_boosted h = subst (λ (w : Option (Tx Op)). Boosted O place (commit_effect c t w)) (sym lookup)
      (record {
        sound = subst (λ (w : Option (Tx Op)). Sound O (commit_effect c t w)) lookup (step_keeps O c (Cmt t) b.sound h);
        follows = λ y i. still y (was y i);
        anchored = λ y i. b.anchored y (was y i);
      })
    where
      was : (y : Tx Op) → In y (without_tx t c.opened) → In y c.opened
      was y i = (from_filter (λ (w : Tx Op). not (w.name =ⁿ t)) y c.opened i).0

      still : (y : Tx Op) → In y c.opened → Follows O place (commit_all t c.shared) y.local
      still y i =
          let f = b.follows y i in
          record {
            own_pushed = f.own_pushed;
            own_order = λ a e j o r.
                let k = f.own_order a e j o r in
                (commit t k.0, commit t k.1, before_map (commit t) k.0 k.1 c.shared k.2, (commit_rest t k.0).0 ∙ k.3, (commit_rest t k.1).0 ∙ k.4);
            pulled_stand = λ p j m. still_committed t p.owner (item p) c.shared (f.pulled_stand p j m);
            late = λ l r j d st un. late y i l r j d.0 (was_before t r.id l.id c.shared st) un;
          }
        where
          late : (y : Tx Op) → In y c.opened → (l : LocalEntry Op) (r : SharedEntry Op) → In l y.local → In r (commit_all t c.shared) → StandsBefore r.id l.id c.shared →
              (ComesBefore r.id l.id y.local → ⊥) → Swaps O r.op l.op
          late y i l r j k st un =
              let m = from_map (commit t) r c.shared k in
              let e : st.0 ≡ m.0 = by_key (λ (w : SharedEntry Op). w.id) c.shared b.sound.shared_ids st.0 m.0 (before_in_first st.0 st.1 c.shared st.2) m.1
              (st.3 ∙ ap (λ (w : SharedEntry Op). w.id) m.2 ∙ (commit_rest t m.0).0) in
              let ro : (st.0).op ≡ r.op = ap (λ (w : SharedEntry Op). w.op) e ∙ sym (commit_rest t m.0).1 ∙ ap (λ (w : SharedEntry Op). w.op) (sym m.2) in
              let lo : (st.1).op ≡ l.op = ap (λ (w : Item Op). w.op) (is_item O place apart c b.sound y i (b.follows y i) l j st.1 (before_in_second st.0 st.1 c.shared st.2) st.4) in
              let s : Swaps O (st.0).op (st.1).op = turn O place apart c b.sound y i (b.follows y i) st.0 st.1 st.2 l j st.4
              (λ z. un (subst (λ (w : ℕ). ComesBefore w l.id y.local) st.3 z)) in
              subst (λ (w : Op). Swaps O w l.op) ro (subst (λ (w : Op). Swaps O (st.0).op w) lo s)
