-- Names, threads and one open transaction in the summary that a Quick keeps.
use Rattle.std.specs.Prelude.{◌≡◌, ◌≢◌, ◌==◌, ℕ, Bool, true, false, cond, List, [], ◌∷◌, ◌++◌, map, take, None, Some}
use Rattle.std.specs.List.{list_any}
use Rattle.std.proofs.Common.{refl, sym, ap, ◌∙◌}
use Rattle.std.proofs.lemmas.List.{map-append}
use Rattle.pp_core.specs.declared.entry.Item.{Item}
use Rattle.pp_model.specs.Config.{LocalEntry, Pushed, SharedEntry, item, local_ops}
use Rattle.pp_model.specs.Lists.{In}
use Rattle.pp_model.specs.Names.{Name, ◌=ⁿ◌}
use Rattle.pp_model.specs.Object.{ops}
use Rattle.pp_model.proofs.Finding.{any_in, none_in}
use Rattle.pp_model.proofs.Lists.{from_map, in_map}
use Rattle.pp_model.proofs.Names.{eq-names, names-true}
use Rattle.pp_kind.specs.Object.{Object}
use Rattle.pp_laws_summary.specs.LocalLogs.{serial_at, unpushed}
use Rattle.pp_laws_summary.specs.Places.{ops_at}
use Rattle.pp_laws_summary.specs.Summary.{OpenSummary, summary_view}
use Rattle.pp_summary.specs.Shown.{KeepsQuick, Kept, filled, items_at, shown_tx, threads_of}
use Rattle.pp_summary.specs.declared.parts.OpenTx.{OpenTx}
use Rattle.pp_violations.specs.Searches.{view_items}
use Rattle.pp_violations.specs.Summarised.{kept_open, kept_summary, own_entry, seen_of}
use Rattle.pp_violations.proofs.Summarised.{Slots}

-- The threads of the open transactions in a summary are those in the brief.
threads_are : {Op : Type 0} (place : Op → ℕ) (G : List (SharedEntry Op)) (commits : List (List ℕ)) (es : Slots Op) → map (λ (x : OpenSummary Op). x.thread) (filled kept_open es) ≡ threads_of (filled (shown_tx place G commits) es)
threads_are place G commits [] = refl
threads_are place G commits ((n, None) ∷ es) = threads_are place G commits es
threads_are place G commits ((n, Some x) ∷ es) = ap (λ (w : List Name). x.thread ∷ w) (threads_are place G commits es)

module _ {Shape State Op Undo : Type 0} (o : Object Shape State Op Undo) (place : Op → ℕ) (v : Kept Shape Op) (h : KeepsQuick o place v) where
  abbrev opened : List (OpenSummary Op)
  opened = (kept_summary v).opened

  is_any : (p : Name) → list_any (λ q. p =ⁿ q) v.threads.keys ≡ list_any (λ q. q =ⁿ p) (map (λ (x : OpenSummary Op). x.thread) opened)
  is_any p = h.threads.are p ∙ ap (λ (w : List Name). list_any (λ q. q =ⁿ p) w) (sym (threads_are place v.shared.1 v.commits.items v.slots.entries))

  -- A thread that is among the busy ones is that of an open transaction of the summary.
  pub busy : (p : Name) → list_any (λ q. p =ⁿ q) v.threads.keys ≡ true → ((x : OpenSummary Op) → In x opened → x.thread ≢ p) → ⊥
  busy p e n =
      let r = any_in (λ (q : Name). q =ⁿ p) (map (λ (x : OpenSummary Op). x.thread) opened) (sym (is_any p) ∙ e) in
      let m = from_map (λ (x : OpenSummary Op). x.thread) r.0 opened r.1 in
      n m.0 m.1 (sym m.2 ∙ names-true r.0 p r.2)

  -- A thread that is not among the busy ones is that of no open transaction of the summary.
  pub idle : (p : Name) → list_any (λ q. p =ⁿ q) v.threads.keys ≡ false → (x : OpenSummary Op) → In x opened → x.thread ≢ p
  idle p e x i q =
      let k = none_in (λ (z : Name). z =ⁿ p) (map (λ (y : OpenSummary Op). y.thread) opened) (sym (is_any p) ∙ e) x.thread (in_map (λ (y : OpenSummary Op). y.thread) x opened i) in
      let z : true ≡ false = sym (eq-names x.thread p q) ∙ k in cc

module _ {Op : Type 0} (t : Name) where
  -- The items of the entries that `own_entry` makes are the old items.
  pub items_back : (own : List (Item Op)) → map item (map (own_entry t) own) ≡ own
  items_back [] = refl
  items_back (a ∷ own) = ap (λ (w : List (Item Op)). a ∷ w) (items_back own)

  -- No entry that `own_entry` makes is unpushed.
  pub none_unpushed : (own : List (Item Op)) → unpushed (map (own_entry t) own) ≡ []
  none_unpushed [] = refl
  none_unpushed (a ∷ own) = none_unpushed own

  -- Each entry that `own_entry` makes is pushed.
  pub all_pushed : (own : List (Item Op)) (e : LocalEntry Op) → In e (map (own_entry t) own) → e.mark ≡ Pushed
  all_pushed own e i = let m = from_map (own_entry t) e own i in ap (λ (w : LocalEntry Op). w.mark) m.2

  own_at : (place : Op → ℕ) (q : ℕ) (own : List (Item Op)) → ops (items_at place q own) ≡ ops_at place q (local_ops (map (own_entry t) own))
  own_at place q [] = refl
  own_at place q (a ∷ own) = by (place a.op == q) (own_at place q own)
    where
      by : (b : Bool) → ops (items_at place q own) ≡ ops_at place q (local_ops (map (own_entry t) own)) →
          ops (cond b (a ∷ items_at place q own) (items_at place q own)) ≡ cond b (a.op ∷ ops_at place q (local_ops (map (own_entry t) own))) (ops_at place q (local_ops (map (own_entry t) own)))
      by true k = ap (λ (w : List Op). a.op ∷ w) k
      by false k = k

  -- The operations of a transaction at a place are those that the summary has for it.
  pub view_is : {Shape : Type 0} (place : Op → ℕ) (q : ℕ) (v : Kept Shape Op) (x : OpenTx (List (Item Op))) → ops (view_items place q v x) ≡ summary_view place q v.committed (kept_open t x)
  view_is place q v x =
      map-append (λ (p : Item Op). p.op) (take (seen_of x.seen.entries q) (serial_at place q v.committed)) (items_at place q x.own)
      ∙ ap (λ (w : List Op). ops (take (seen_of x.seen.entries q) (serial_at place q v.committed)) ++ w) (own_at place q x.own)
