-- Facts about the operations of an open transaction: they are operations of the objects, in range, and allowed at each place.
use Rattle.std.specs.Prelude.{◌≡◌, ◌==◌, ◌&&◌, ℕ, true, false, List, [], ◌++◌, option_map, take, Some, IsTrue}
use Rattle.std.proofs.Common.{sym, ap, subst, ◌∙◌}
use Rattle.std.proofs.lemmas.Bool.{and_parts, eqb-true}
use Rattle.std.proofs.lemmas.List.{append-nil}
use Rattle.std.proofs.lemmas.Option.{same_Some}
use mathlib.Core.Logic.{inl, inr}
use Rattle.pp_core.specs.declared.entry.Item.{Item}
use Rattle.pp_model.specs.Config.{CommittedTx, Config, SharedEntry, Tx, as_shared, local_ops}
use Rattle.pp_model.specs.Lists.{In}
use Rattle.pp_model.specs.Names.{Name}
use Rattle.pp_model.specs.Object as model
use Rattle.pp_model.specs.Object.{Allowed, ops}
use Rattle.pp_model.specs.Sound.{serial_items}
use Rattle.pp_model.proofs.Lists.{from_filter, from_map, in_cases}
use Rattle.pp_model.proofs.Logs.{found_tx}
use Rattle.pp_machine.proofs.Cuts.{in_taken}
use Rattle.pp_kind.specs.Object.{AllRanged, IsAllowed, IsLawful, IsPlaced, Object, rules_of}
use Rattle.pp_kind.proofs.Fitting.{in_ranged}
use Rattle.pp_kind.proofs.Places.{tells_states}
use Rattle.pp_laws_summary.specs.LocalLogs.{Summable, serial_at}
use Rattle.pp_laws_summary.specs.Places.{PlacesPart}
use Rattle.pp_laws_summary.specs.Summary.{OpenSummary, Summary, open_named, open_summary, summary_missing, summary_of, summary_view}
use Rattle.pp_laws_summary.proofs.Placed.{parts_of}
use Rattle.pp_laws_summary.proofs.SummaryRecords.{open_named_is, to_open}
use Rattle.pp_laws_summary.proofs.SummaryViews.{log_to}
use Rattle.pp_summary.specs.Boosted.{PlacesSwap}
use Rattle.pp_summary.specs.Held.{IsHeldOf}
use Rattle.pp_summary.specs.Shown.{KeepsQuick, Kept, as_held, items_at, open_in, shown_tx}
use Rattle.pp_summary.specs.declared.parts.OpenTx.{OpenTx}
use Rattle.pp_summary.proofs.HeldOf.{apart_of, done_stands, fits, own_stands}
use Rattle.pp_summary.proofs.Moving.{open_there}
use Rattle.pp_summary.proofs.StepCounts.{opened}
use Rattle.pp_violations.specs.Searches.{AreEntriesAsked, AreItemsAsked, view_items}
use Rattle.pp_violations.specs.Summarised.{kept_open, kept_summary, no_section, seen_of}
use Rattle.pp_violations.proofs.Kept.{view_is}
use Rattle.pp_violations.proofs.Summarised.{kept_named, summary_is}
use Rattle.pp_violations.proofs.SummarisedSnapshots.{boosted_summable}

module _ {Shape State Op Undo : Type 0} (o : Object Shape State Op Undo) (place : Op → ℕ) (SameAt : ℕ → State → State → Type 0) (laws : IsLawful o) (places : IsPlaced o place SameAt) (v : Kept Shape Op) (h : KeepsQuick o place v) where
  apart : (shape : Shape) → PlacesSwap (rules_of o shape) place
  apart = apart_of o place SameAt places

  part : (shape : Shape) → PlacesPart (rules_of o shape) place
  part shape = parts_of o place SameAt laws places shape

  -- Each configuration of which a Quick keeps the brief has a summary.
  pub summable : (c : Config Op) → IsHeldOf o place (as_held place v) c → Summable (rules_of o v.shape) place no_section c
  summable c is = boosted_summable o place part v h (tells_states o laws v.shape) c is

  -- The summary of each configuration with this brief is the one that the Quick keeps.
  pub summarised : (c : Config Op) → IsHeldOf o place (as_held place v) c → summary_of place (record { front = no_section; config = c }) ≡ kept_summary v
  summarised c is = summary_is o place apart v h c is

  asked : (g : SharedEntry Op) → In g v.shared.1 → IsTrue (o.fits v.shape g.op) × IsTrue (o.ranged g.op)
  asked g i = (fits o place apart (as_held place v) h.is_held laws g i, h.ranged g i)

  -- The commits that are missing are operations of the objects.
  pub missing_asked : (q : ℕ) (x : OpenSummary Op) → AreEntriesAsked o v.shape (summary_missing place q (kept_summary v) x)
  missing_asked q x g i = asked g (from_filter _ g v.shared.1 i).0

  -- The commits that are missing at a place are operations at that place.
  pub missing_at : (q : ℕ) (x : OpenSummary Op) (g : SharedEntry Op) → In g (summary_missing place q (kept_summary v) x) → place g.op ≡ q
  missing_at q x g i =
      let a = and_parts (g.committed && (place g.op == q)) _ (from_filter _ g v.shared.1 i).1 in
      eqb-true (place g.op) q (and_parts g.committed (place g.op == q) a.0).1

  module _ (t : Name) (it : OpenTx (List (Item Op))) (found : open_in t v.slots.entries ≡ Some it) where
    stands : (p : Item Op) → In p it.own → In (as_shared t false p) v.shared.1
    stands = own_stands o place apart (as_held place v) h.is_held t (shown_tx place v.shared.1 v.commits.items t it) (open_there o place apart v h t it found)

    -- The own operations of an open transaction are operations of the objects.
    pub own_asked : AreItemsAsked o v.shape it.own
    own_asked p i = asked (as_shared t false p) (stands p i)

    module _ (q : ℕ) where
      -- The operations that a transaction has at a place are in range.
      pub view_ranged : AllRanged o (ops (view_items place q v it))
      view_ranged = in_ranged o (ops (view_items place q v it)) (λ a i.
          let m = from_map (λ (p : Item Op). p.op) a (view_items place q v it) i in
          subst (λ (z : Op). IsTrue (o.ranged z)) (sym m.2) (by m.0 m.1))
        where
          by : (p : Item Op) → In p (view_items place q v it) → IsTrue (o.ranged p.op)
          by p i = elim (in_cases p (take (seen_of it.seen.entries q) (serial_at place q v.committed)) (items_at place q it.own) i) [
            | inl j ↦
                let d = from_filter _ p (serial_items v.committed) (in_taken (seen_of it.seen.entries q) p (serial_at place q v.committed) j) in
                let s = done_stands o place apart (as_held place v) h.is_held p d.0 in
                h.ranged (as_shared s.0 true p) s.1
            | inr j ↦ h.ranged (as_shared t false p) (stands p (from_filter _ p it.own j).0)
          ]

      -- The operations that a transaction has at a place are allowed.
      pub view_allowed : IsAllowed o v.shape (ops (view_items place q v it))
      view_allowed = subst (λ (w : List Op). IsAllowed o v.shape w) (sym (view_is t place q v it)) (by h.is_held)
        where
          by : (c : Config Op) × IsHeldOf o place (as_held place v) c → IsAllowed o v.shape (summary_view place q v.committed (kept_open t it))
          by (c, is) =
              let O : model.Object Op State = rules_of o v.shape in
              let b = summable c is in
              let z = opened o place apart v h c is t it found in
              let y : Tx Op = z.0 in
              let iy = (found_tx t c.opened y z.1).0 in
              let same : open_summary place no_section y ≡ kept_open t it =
              same_Some (open_summary place no_section y) (kept_open t it)
              (sym (open_named_is place no_section t c.opened ∙ ap (to_open place no_section) z.1) ∙ ap (λ (B : Summary Op). open_named t B.opened) (summarised c is) ∙ kept_named o place apart v h t ∙ ap (option_map (kept_open t)) found) in
              let all : Allowed O (summary_view place q c.done (open_summary place no_section y) ++ []) =
              log_to O place (part v.shape) (tells_states o laws v.shape) no_section c b t y z.1 q []
              (subst (λ (w : List Op). Allowed O w) (sym (append-nil _)) (((part v.shape).parts (local_ops y.local)).0 (b.sound.local_allowed y iy) q)) in
              subst (λ (w : OpenSummary Op). IsAllowed o v.shape (summary_view place q v.committed w)) same
              (subst (λ (D : List (CommittedTx Op)). IsAllowed o v.shape (summary_view place q D (open_summary place no_section y))) (ap (λ w. w.done) is.is)
              (subst (λ (w : List Op). IsAllowed o v.shape w) (append-nil (summary_view place q c.done (open_summary place no_section y))) all))
