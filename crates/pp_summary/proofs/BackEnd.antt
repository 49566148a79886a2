-- The configuration after a local log was taken back.
use Rattle.std.specs.Prelude.{◌≡◌, ◌≢◌, ℕ, ◌==◌, Bool, true, false, not, List, [], ◌∷◌, ◌++◌, Some}
use Rattle.std.proofs.Common.{refl, sym, ap, subst, ◌∙◌, append_assoc}
use Rattle.std.proofs.lemmas.List.{append-nil}
use Rattle.std.proofs.lemmas.Bool.Decides.{eqb_tells}
use mathlib.Core.Logic.{inl, inr}
use Rattle.pp_model.specs.Lists.{In, Before}
use Rattle.pp_model.specs.Names.{Name, ◌=ⁿ◌}
use Rattle.pp_model.specs.Object.{Object}
use Rattle.pp_model.specs.Config.{Mark, Unpushed, Pushed, Pulled, is_own, LocalEntry, SharedEntry, Tx, Config, Unapp, Unpush, Unpull, item, as_shared, tx, then, on_log, set_mark, without_local, without_shared, but_last, after_from}
use Rattle.pp_model.proofs.Lists.{in_right, before_across, by_key}
use Rattle.pp_model.proofs.Logs.{found_tx}
use Rattle.pp_model.proofs.Names.{not_names, names_not}
use Rattle.pp_model.proofs.Trace.{keep_all}
use Rattle.pp_model.proofs.Push.{remark}
use Rattle.pp_records.specs.Expansions.{taken_at, taken_out}
use Rattle.pp_summary.specs.Brief.{without_owner}
use Rattle.pp_summary.specs.Boosted.{PlacesSwap, BoostedBut}
use Rattle.pp_summary.proofs.Append.{marked_last}
use Rattle.pp_records.proofs.Ends.{after_append}
use Rattle.pp_summary.proofs.Back.{Left, all_back, without_last}
use Rattle.pp_laws_summary.proofs.Relog.{filter_within, on_log-fuse}
use Rattle.pp_laws_summary.proofs.BackAll.{but_last_snoc}

-- Since c0, the log of t has become P, entries of t have left the shared log, and nothing else has changed.
pub record Since {Op : Type 0} (c0 : Config Op) (t : Name) (P : List (LocalEntry Op)) (c : Config Op) : Type 0 where
  pub is : c ≡ record { names = c0.names; ids = c0.ids; opened = on_log t (λ l. P) c0.opened; shared = c.shared; done = c0.done }
  pub others : without_owner t c.shared ≡ without_owner t c0.shared

module _ {Op State : Type 0} (O : Object Op State) (place : Op → ℕ) (apart : PlacesSwap O place) (t : Name) (c0 : Config Op) where
  module _ (c : Config Op) (b : BoostedBut O place t c) (x : Tx Op) (lookup : tx t c.opened ≡ Some x)
      (P : List (LocalEntry Op)) (e : LocalEntry Op) (cut : x.local ≡ P ++ e ∷ []) (k : Since c0 t (P ++ e ∷ []) c) where
    ix : In x c.opened
    ix = (found_tx t c.opened x lookup).0

    nx : x.name ≡ t
    nx = (found_tx t c.opened x lookup).1

    other_ids : (a : LocalEntry Op) → In a P → a.id ≢ e.id
    other_ids a i = b.sound.local_ids x ix a e (subst (λ (w : List (LocalEntry Op)). Before a e w) (sym cut) (before_across a e P (e ∷ []) i (inl refl)))

    unpulled : Since c0 t P (then c (Unpull t e.id))
    unpulled =
        record {
          is = ap (λ (w : Config Op). record { names = w.names; ids = w.ids; opened = on_log t (without_local e.id) w.opened; shared = c.shared; done = w.done }) k.is
              ∙ ap (λ (w : List (Tx Op)). record { names = c0.names; ids = c0.ids; opened = w; shared = c.shared; done = c0.done })
              (on_log-fuse t (without_local e.id) (λ l. P ++ e ∷ []) c0.opened ∙ ap (λ (w : List (LocalEntry Op)). on_log t (λ l. w) c0.opened) (without_last P e other_ids));
          others = k.others;
        }

    unpushed : e.mark ≡ Pushed → Since c0 t P (then (then c (Unpush t e.id)) (Unapp t e.id))
    unpushed m =
        record {
          is = ap (λ (w : Config Op). record { names = w.names; ids = w.ids; opened = on_log t but_last (on_log t (set_mark e.id Unpushed) w.opened); shared = without_shared e.id c.shared; done = w.done }) k.is
              ∙ ap (λ (w : List (Tx Op)). record { names = c0.names; ids = c0.ids; opened = w; shared = without_shared e.id c.shared; done = c0.done })
              (ap (λ (w : List (Tx Op)). on_log t but_last w) (on_log-fuse t (set_mark e.id Unpushed) (λ l. P ++ e ∷ []) c0.opened)
              ∙ on_log-fuse t but_last (λ l. set_mark e.id Unpushed (P ++ e ∷ [])) c0.opened
              ∙ ap (λ (w : List (LocalEntry Op)). on_log t (λ l. w) c0.opened) (ap but_last (marked_last e.id Unpushed P e other_ids refl) ∙ but_last_snoc P (remark Unpushed e)));
          others = filter_within (λ (g : SharedEntry Op). not (g.owner =ⁿ t)) (λ (g : SharedEntry Op). not (g.id == e.id)) c.shared (λ g i n. elim (eqb_tells g.id e.id) [
            | inl r ↦ absurd (not_names g.owner t n (ap (λ (w : SharedEntry Op). w.owner) (mine g i r.1) ∙ nx))
            | inr r ↦ ap not r.0
          ]) ∙ k.others;
        }
      where
        mine : (g : SharedEntry Op) → In g c.shared → g.id ≡ e.id → g ≡ as_shared x.name false (item e)
        mine g i n = by_key (λ (w : SharedEntry Op). w.id) c.shared b.sound.shared_ids g (as_shared x.name false (item e)) i
            (b.sound.pushed_stand x ix e (subst (λ (w : List (LocalEntry Op)). In e w) (sym cut) (in_right e P (e ∷ []) (inl refl))) m) n

    by_mark : (m : Mark) → e.mark ≡ m → Since c0 t P (after_from c (taken_at t e.id m))
    by_mark Unpushed m = absurd (let z : Unpushed ≡ Pushed = sym m ∙ (b.follows x ix).own_pushed e (subst (λ (w : List (LocalEntry Op)). In e w) (sym cut) (in_right e P (e ∷ []) (inl refl))) (ap is_own m) in cc)
    by_mark Pushed m = unpushed m
    by_mark Pulled m = unpulled

  -- To take back entries from the end of a local log leaves the entries of all others.
  pub all_since : (S P : List (LocalEntry Op)) (c : Config Op) → Left O place apart t (P ++ S) c → Since c0 t (P ++ S) c → Since c0 t P (after_from c (taken_out t S))
  all_since [] P c h k = subst (λ (w : List (LocalEntry Op)). Since c0 t w c) (append-nil P) k
  all_since (e ∷ S) P c h k =
      let e1 = sym (append_assoc P (e ∷ []) S) in
      let r = (all_back O place apart t S (P ++ e ∷ []) c (h.0, (h.1.0, h.1.1, h.1.2 ∙ e1))).1 in
      let d = after_from c (taken_out t S) in
      let q = all_since S (P ++ e ∷ []) c (h.0, (h.1.0, h.1.1, h.1.2 ∙ e1)) (subst (λ (w : List (LocalEntry Op)). Since c0 t w c) e1 k) in
      subst (λ (w : Config Op). Since c0 t P w) (sym (after_append c (taken_out t S) (taken_at t e.id e.mark))) (by_mark d r.0 r.1.0 r.1.1 P e r.1.2 q e.mark refl)

  -- A transaction with an empty local log owns no entry of the shared log.
  pub none_owned : (c : Config Op) → Left O place apart t [] c → Since c0 t [] c → c.shared ≡ without_owner t c0.shared
  none_owned c h k = sym (keep_all (λ (g : SharedEntry Op). not (g.owner =ⁿ t)) c.shared (λ g i. names_not g.owner t (λ n. owned g i n g.committed refl))) ∙ k.others
    where
      owned : (g : SharedEntry Op) → In g c.shared → g.owner ≡ t → (z : Bool) → g.committed ≡ z → ⊥
      owned g i n true u = let d = h.0.sound.committed_from g i u in
          h.0.sound.apart h.1.0 d.0 (found_tx t c.opened h.1.0 h.1.1).0 d.1 ((found_tx t c.opened h.1.0 h.1.1).1 ∙ sym n ∙ ap (λ (w : SharedEntry Op). w.owner) d.4)
      owned g i n false u =
          let r = h.0.sound.uncommitted_from g i u in
          let f = found_tx t c.opened h.1.0 h.1.1 in
          let y : r.0 ≡ h.1.0 = by_key (λ (w : Tx Op). w.name) c.opened h.0.sound.open_names r.0 h.1.0 r.1 f.0 (ap (λ (w : SharedEntry Op). w.owner) (sym r.5) ∙ n ∙ sym f.1) in
          subst (λ (w : List (LocalEntry Op)). In r.2 w) h.1.2 (subst (λ (w : Tx Op). In r.2 w.local) y r.3)
