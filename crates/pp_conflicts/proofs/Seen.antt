-- What an open transaction has of a place, by the summary.
use Rattle.std.proofs.Common.{◌≡◌, ◌⊎◌, ◌≤◌, ◌==◌, ◌||◌, ◌+◌, ℕ, zero, Bool, true, false, not, cond, IsTrue, List, [], ◌∷◌, ◌++◌, drop, length, map, take, Option, None, Some}
use Rattle.std.proofs.Common.{refl, sym, ap, subst, ◌∙◌, inl, inr, arith, append-nil, length-append}
use Rattle.std.specs.List.{list_any}
use Rattle.std.proofs.lemmas.Bool.{eqb-true}
use Rattle.std.proofs.lemmas.List.{drop-map, length-map, map-append, take-append-drop}
use Rattle.std.proofs.lemmas.Option.{same_Some}
use Rattle.pp_core.specs.declared.call.Kind.{Kind}
use Rattle.pp_core.specs.declared.entry.CommittedTx.{CommittedTx}
use Rattle.pp_core.specs.declared.entry.Item.{Item}
use Rattle.pp_model.specs.Config.{SharedEntry, Tx, local_ops, shared_item, tx}
use Rattle.pp_model.specs.Lists.{In}
use Rattle.pp_model.specs.Names.{Name}
use Rattle.pp_model.specs.Object as model
use Rattle.pp_model.specs.Object.{ops}
use Rattle.pp_model.proofs.Lists.{from_filter, from_map, in_cases, in_map}
use Rattle.pp_model.proofs.Logs.{found_tx}
use Rattle.pp_kind.specs.Object.{AllRanged, IsAllowed, IsLawful, IsPlaced, Object, rules_of}
use Rattle.pp_kind.proofs.Fitting.{in_ranged}
use Rattle.pp_kind.proofs.Places.{tells_states}
use Rattle.pp_laws_summary.specs.LocalLogs.{serial_at}
use Rattle.pp_laws_summary.specs.Places.{PlacesPart, ops_at}
use Rattle.pp_laws_summary.specs.Summary.{OpenSummary, Summary, open_named, open_summary, summary_missing, summary_pulled, summary_view}
use Rattle.pp_laws_summary.proofs.Counts.{in_taken}
use Rattle.pp_laws_summary.proofs.Placed.{parts_of}
use Rattle.pp_laws_summary.proofs.SummaryRecords.{open_named_is, to_open}
use Rattle.pp_laws_summary.proofs.SummaryViews.{log_to}
use Rattle.pp_records.specs.Fronts.{Front}
use Rattle.pp_records.specs.Runs.{Standing}
use Rattle.pp_summary.specs.Shown.{items_at, open_in}
use Rattle.pp_summary.specs.declared.parts.OpenTx.{OpenTx}
use Rattle.pp_snapshots.specs.Shown.{IsShownOf, Keeps, Kept, as_local, done_ops, seen_in, shared_done, shown, shown_tx}
use Rattle.pp_snapshots.proofs.Asking.{filter_short}
use Rattle.pp_snapshots.proofs.Manies.{asked_there, in_dropped}
use Rattle.pp_snapshots.proofs.Moving.{fine_of, open_there, own_within}
use Rattle.pp_snapshots.proofs.OnRefresh.{distinct}
use Rattle.pp_snapshots.proofs.Views.{ops_items, ops_local}
use Rattle.pp_violations.specs.Searches.{AreEntriesAsked, AreItemsAsked}
use Rattle.pp_conflicts.specs.Searches.{at_commit, has_of, shared_at, view_items}
use Rattle.pp_conflicts.proofs.Entries.{items_shared, missing_entries, shared_at_is}

module _ {Op : Type 0} (place : Op → ℕ) (q : ℕ) (n : Name) where
  any_own : (l : List (Item Op)) → list_any (λ e. place e.op == q) (map (as_local n) l) ≡ list_any (λ p. place p.op == q) l
  any_own [] = refl
  any_own (p ∷ l) = ap (λ (b : Bool). (place p.op == q) || b) (any_own l)

  -- What an operation pulls first: nothing, if the transaction has something of the place.
  pub pulled_is : (B : Summary Op) (x : OpenTx (List (Item Op))) (b : Bool) → has_of place q x ≡ b → summary_pulled place at_commit q B (shown_tx n x) ≡ cond b [] (summary_missing place q B (shown_tx n x))
  pulled_is B x b e =
      ap (λ (c : Bool). cond c [] (summary_missing place q B (shown_tx n x)))
      (ap (λ (c : Bool). not (seen_in x.seen.entries q == zero) || c) (any_own x.own) ∙ e)

  -- The operations of the view are those of the view of the summary.
  pub view_ops : {Shape State Undo : Type 0} (v : Kept Shape State Op Undo) (x : OpenTx (List (Item Op))) → ops (view_items place q v x) ≡ summary_view place q v.committed (shown_tx n x)
  view_ops v x =
      map-append (λ (p : Item Op). p.op) (take (seen_in x.seen.entries q) (serial_at place q v.committed)) (items_at place q x.own)
      ∙ ap (λ (w : List Op). ops (take (seen_in x.seen.entries q) (serial_at place q v.committed)) ++ w)
      (sym (ops_items place q x.own) ∙ ap (λ (w : List Op). ops_at place q w) (sym (ops_local n x.own)))

-- A transaction that is open in the summary of a configuration is open in the configuration.
from_open : {Op : Type 0} (place : Op → ℕ) (f : Front) (w : Option (Tx Op)) (z : OpenSummary Op) → to_open place f w ≡ Some z → (y : Tx Op) × (w ≡ Some y) × (open_summary place f y ≡ z)
from_open place f None z e = absurd (cc)
from_open place f (Some y) z e = (y, refl, same_Some (open_summary place f y) z e)

module _ {Shape State Op Undo : Type 0} (o : Object Shape State Op Undo) (place : Op → ℕ) (SameAt : ℕ → State → State → Type 0) (laws : IsLawful o) (places : IsPlaced o place SameAt) (v : Kept Shape State Op Undo) (h : Keeps o place v) where
  part : PlacesPart (rules_of o v.shape) place
  part = parts_of o place SameAt laws places v.shape

  -- What a transaction misses of a place is what is committed there after what it has seen.
  pub missing_drop : (ks : List Kind) (t : Name) (x : OpenTx (List (Item Op))) (q : ℕ) → summary_missing place q (shown ks v) (shown_tx t x) ≡ drop (seen_in x.seen.entries q) (shared_at place q v.committed)
  missing_drop ks t x q = missing_entries place q v.committed (distinct o place SameAt laws places v h) (shown ks v) (shown_tx t x) refl refl

  -- The committed operations are of the objects, with numbers in range.
  done_asked : (q : ℕ) (p : Item Op) → In p (serial_at place q v.committed) → IsTrue (o.fits v.shape p.op) × IsTrue (o.ranged p.op)
  done_asked q p i = asked_there o place SameAt laws places v.shape v.past (done_ops o place v.committed) h.past q p.op (in_map (λ (z : Item Op). z.op) p (serial_at place q v.committed) i)

  -- So are the entries of the shared log at a place.
  pub shared_asked : (q n : ℕ) → AreEntriesAsked o v.shape (drop n (shared_at place q v.committed))
  shared_asked q n g i =
      done_asked q (shared_item g) (subst (λ (w : List (Item Op)). In (shared_item g) w) (items_shared place q v.committed) (in_map shared_item g (shared_at place q v.committed) (in_dropped (shared_at place q v.committed) n g i)))

  module _ (t : Name) (x : OpenTx (List (Item Op))) (found : open_in t v.slots.entries ≡ Some x) where
    -- So are the own operations of an open transaction.
    pub own_items : AreItemsAsked o v.shape x.own
    own_items p i = (fine_of o place SameAt laws places v h t x found).asked p i

    module _ (q : ℕ) where
      -- The numbers of what it has of a place are in range.
      pub view_ranged : AllRanged o (ops (view_items place q v x))
      view_ranged = in_ranged o (ops (view_items place q v x)) (λ a i.
          let m = from_map (λ (p : Item Op). p.op) a (view_items place q v x) i in
          subst (λ (z : Op). IsTrue (o.ranged z)) (sym m.2) (by m.0 m.1))
        where
          by : (p : Item Op) → In p (view_items place q v x) → IsTrue (o.ranged p.op)
          by p i = elim (in_cases p (take (seen_in x.seen.entries q) (serial_at place q v.committed)) (items_at place q x.own) i) [
            | inl j ↦ (done_asked q p (in_taken (seen_in x.seen.entries q) (serial_at place q v.committed) p j)).1
            | inr j ↦ (own_items p (from_filter _ p x.own j).0).1
          ]

      -- It is allowed.
      pub view_allowed : IsAllowed o v.shape (ops (view_items place q v x))
      view_allowed = subst (λ (w : List Op). IsAllowed o v.shape w) (sym (view_ops place q t v x)) allowed
        where
          O : model.Object Op State
          O = rules_of o v.shape

          tx_there : (p : Standing Front Op) → IsShownOf o place v p → (y : Tx Op) × (tx t p.config.opened ≡ Some y) × (open_summary place p.front y ≡ shown_tx t x)
          tx_there p s = from_open place p.front (tx t p.config.opened) (shown_tx t x)
              (sym (open_named_is place p.front t p.config.opened) ∙ ap (λ (B : Summary Op). open_named t B.opened) s.is ∙ open_there o place SameAt laws places v h t x found)

          allowed : IsAllowed o v.shape (summary_view place q v.committed (shown_tx t x))
          allowed =
              let p = h.is_held.0 in
              let s = h.is_held.1 in
              let y = tx_there p s in
              let iy = (found_tx t p.config.opened y.0 y.1).0 in
              let all = log_to (rules_of o v.shape) place part (tells_states o laws v.shape) p.front p.config s.summable t y.0 y.1 q []
              (subst (λ (w : List Op). IsAllowed o v.shape w) (sym (append-nil _)) ((part.parts (local_ops (y.0).local)).0 (s.summable.sound.local_allowed y.0 iy) q)) in
              subst (λ (w : OpenSummary Op). IsAllowed o v.shape (summary_view place q v.committed w)) y.2
              (subst (λ (D : List (CommittedTx Op)). IsAllowed o v.shape (summary_view place q D (open_summary place p.front y.0))) (ap (λ (B : Summary Op). B.done) s.is)
              (subst (λ (w : List Op). IsAllowed o v.shape w) (append-nil _) all))

      -- What it has of the place and what it misses there are at most 256 more than records were taken.
      pub few : length (view_items place q v x) + length (drop (seen_in x.seen.entries q) (shared_at place q v.committed)) ≤ v.count + 256
      few =
          let n = seen_in x.seen.entries q in
          let l = serial_at place q v.committed in
          let joined : length (view_items place q v x) ≡ length (take n l) + length (items_at place q x.own) = length-append (take n l) (items_at place q x.own) in
          let whole : length (take n l) + length (drop n l) ≡ length l = sym (length-append (take n l) (drop n l)) ∙ ap (λ (w : List (Item Op)). length w) (take-append-drop n l) in
          let missed : length (drop n (shared_at place q v.committed)) ≡ length (drop n l) =
          sym (length-map (drop n (shared_at place q v.committed)) shared_item) ∙ ap (λ (w : List (Item Op)). length w) (sym (drop-map shared_item n (shared_at place q v.committed)) ∙ ap (λ (w : List (Item Op)). drop n w) (items_shared place q v.committed)) in
          let done : length (ops_at place q h.past.log) ≡ length l = ap (λ (w : List Op). length w) (h.past.at_places q) ∙ length-map l (λ (p : Item Op). p.op) in
          let short : length (ops_at place q h.past.log) ≤ length h.past.log = filter_short (λ (a : Op). place a == q) h.past.log in
          let own_short : length (items_at place q x.own) ≤ length x.own = filter_short (λ (p : Item Op). place p.op == q) x.own in
          let within = own_within o place SameAt laws places v h t x found in
          let size = h.past.size in
          let all = h.few in
          omega (arith, joined, whole, missed, done, short, own_short, within, size, all)

      -- What it misses is at the place.
      pub missing_there : (n : ℕ) (g : SharedEntry Op) → In g (drop n (shared_at place q v.committed)) → place g.op ≡ q
      missing_there n g i =
          let k = in_dropped (shared_at place q v.committed) n g i in
          eqb-true (place g.op) q (from_filter (λ (z : SharedEntry Op). place z.op == q) g (shared_done v.committed) (subst (λ (w : List (SharedEntry Op)). In g w) (sym (shared_at_is place q v.committed)) k)).1

      -- What an operation pulls first are all but the first entries at the place, of which it has seen at most so many.
      pub pulled_drop : (pulled : List (SharedEntry Op)) → ((ks : List Kind) (s : Name) → pulled ≡ summary_pulled place at_commit q (shown ks v) (shown_tx s x)) →
          (pulled ≡ []) ⊎ (pulled ≡ drop (seen_in x.seen.entries q) (shared_at place q v.committed))
      pulled_drop pulled is = by (has_of place q x) refl
        where
          by : (b : Bool) → has_of place q x ≡ b → (pulled ≡ []) ⊎ (pulled ≡ drop (seen_in x.seen.entries q) (shared_at place q v.committed))
          by true e = inl (is [] t ∙ pulled_is place q t (shown [] v) x true e)
          by false e = inr (is [] t ∙ pulled_is place q t (shown [] v) x false e ∙ missing_drop [] t x q)

      -- So they are asked, at the place, and few.
      pub pulled_fine : (pulled : List (SharedEntry Op)) → ((ks : List Kind) (s : Name) → pulled ≡ summary_pulled place at_commit q (shown ks v) (shown_tx s x)) →
          AreEntriesAsked o v.shape pulled × ((g : SharedEntry Op) → In g pulled → place g.op ≡ q) × (length (view_items place q v x) + length pulled ≤ v.count + 256)
      pulled_fine pulled is = elim (pulled_drop pulled is) [
        | inl e ↦ subst (λ (w : List (SharedEntry Op)). AreEntriesAsked o v.shape w × ((g : SharedEntry Op) → In g w → place g.op ≡ q) × (length (view_items place q v x) + length w ≤ v.count + 256)) (sym e)
            ((λ g i. absurd i), (λ g i. absurd i), (let a = few in omega (arith, a)))
        | inr e ↦ subst (λ (w : List (SharedEntry Op)). AreEntriesAsked o v.shape w × ((g : SharedEntry Op) → In g w → place g.op ≡ q) × (length (view_items place q v x) + length w ≤ v.count + 256)) (sym e)
            (shared_asked q (seen_in x.seen.entries q), missing_there (seen_in x.seen.entries q), few)
      ]

      -- The same of what a refresh pulls.
      pub missing_fine : (missing : List (SharedEntry Op)) → ((ks : List Kind) (s : Name) → missing ≡ summary_missing place q (shown ks v) (shown_tx s x)) →
          AreEntriesAsked o v.shape missing × ((g : SharedEntry Op) → In g missing → place g.op ≡ q) × (length (view_items place q v x) + length missing ≤ v.count + 256)
      missing_fine missing is = subst (λ (w : List (SharedEntry Op)). AreEntriesAsked o v.shape w × ((g : SharedEntry Op) → In g w → place g.op ≡ q) × (length (view_items place q v x) + length w ≤ v.count + 256)) (sym (is [] t ∙ missing_drop [] t x q))
          (shared_asked q (seen_in x.seen.entries q), missing_there (seen_in x.seen.entries q), few)
