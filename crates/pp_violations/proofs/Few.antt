-- The operations that an open transaction has at a place, and the commits that it misses there, are at most as many as the entries of the
-- shared log.
use Rattle.std.specs.Prelude.{◌≡◌, ◌==◌, ◌&&◌, ◌≤◌, ◌+◌, ℕ, true, false, not, List, ◌++◌, length, map, take, Some}
use Rattle.std.proofs.Common.{refl, sym, ap, subst, ◌∙◌, arith, length-append}
use Rattle.std.proofs.lemmas.Bool.{and_parts}
use Rattle.std.proofs.lemmas.List.{length-map}
use mathlib.Core.Logic.{inl, inr}
use Rattle.pp_core.specs.declared.entry.Item.{Item}
use Rattle.pp_model.specs.Config.{CommittedTx, Config, SharedEntry, Tx, as_shared, shared_item}
use Rattle.pp_model.specs.Lists.{Before, In}
use Rattle.pp_model.specs.Names.{Name}
use Rattle.pp_model.specs.Object.{HasDistinctIds}
use Rattle.pp_model.specs.Serial.{has_id}
use Rattle.pp_model.specs.Sound.{serial_items}
use Rattle.pp_model.proofs.Lengths.{no_longer}
use Rattle.pp_model.proofs.Lists.{before_cases, before_from_filter, before_from_map, by_key, from_filter, from_map, in_cases, in_map}
use Rattle.pp_model.proofs.Logs.{before_from_own, found_tx}
use Rattle.pp_kind.specs.Object.{Object, rules_of}
use Rattle.pp_machine.proofs.Cuts.{before_taken, in_taken}
use Rattle.pp_laws_summary.specs.LocalLogs.{serial_at}
use Rattle.pp_laws_summary.specs.Summary.{seen_ids, summary_missing}
use Rattle.pp_laws_summary.proofs.Snapshots.{done_serial}
use Rattle.pp_summary.specs.Boosted.{PlacesSwap}
use Rattle.pp_summary.specs.Held.{IsHeldOf}
use Rattle.pp_summary.specs.Shown.{KeepsQuick, Kept, as_held, items_at, open_in, shown_tx}
use Rattle.pp_summary.specs.declared.parts.OpenTx.{OpenTx}
use Rattle.pp_summary.proofs.HeldOf.{done_stands, own_stands}
use Rattle.pp_summary.proofs.Judging.{own_ids}
use Rattle.pp_summary.proofs.Moving.{open_there}
use Rattle.pp_summary.proofs.StepCounts.{opened, same_own}
use Rattle.pp_violations.specs.Searches.{view_items}
use Rattle.pp_violations.specs.Summarised.{kept_open, kept_summary, seen_of}
use Rattle.pp_laws_summary.proofs.Entries.{in_has}

module _ {Shape State Op Undo : Type 0} (o : Object Shape State Op Undo) (place : Op → ℕ) (apart : (shape : Shape) → PlacesSwap (rules_of o shape) place) (v : Kept Shape Op) (h : KeepsQuick o place v) (t : Name) (it : OpenTx (List (Item Op)))
    (found : open_in t v.slots.entries ≡ Some it) (q : ℕ) where
  abbrev G : List (SharedEntry Op)
  G = v.shared.1

  abbrev Seen : List (Item Op)
  Seen = take (seen_of it.seen.entries q) (serial_at place q v.committed)

  abbrev Own : List (Item Op)
  Own = items_at place q it.own

  abbrev Missing : List (SharedEntry Op)
  Missing = summary_missing place q (kept_summary v) (kept_open t it)

  -- Each operation that was seen is a committed entry of the shared log.
  seen_stands : (p : Item Op) → In p Seen → (n : Name) × In (as_shared n true p) G
  seen_stands p i = done_stands o place apart (as_held place v) h.is_held p (from_filter _ p (serial_items v.committed) (in_taken (seen_of it.seen.entries q) p (serial_at place q v.committed) i)).0

  own_there : (p : Item Op) → In p Own → In (as_shared t false p) G
  own_there p i = own_stands o place apart (as_held place v) h.is_held t (shown_tx place v.shared.1 v.commits.items t it) (open_there o place apart v h t it found) p (from_filter _ p it.own i).0

  missing_there : (p : Item Op) → In p (map shared_item Missing) → (g : SharedEntry Op) × In g G × (g.committed ≡ true) × (not (has_id g.id (seen_ids place q v.committed (kept_open t it))) ≡ true) × (p ≡ shared_item g)
  missing_there p i =
      let m = from_map shared_item p Missing i in
      let f = from_filter _ m.0 G m.1 in
      let a = and_parts ((m.0).committed && (place (m.0).op == q)) (not (has_id (m.0).id (seen_ids place q v.committed (kept_open t it)))) f.1 in
      (m.0, f.0, (and_parts (m.0).committed (place (m.0).op == q) a.0).0, a.1, m.2)

  -- A committed entry does not have the id of an uncommitted entry.
  apart_from_own : (g : SharedEntry Op) → In g G → g.committed ≡ true → (b : Item Op) → In (as_shared t false b) G → g.id ≡ b.id → ⊥
  apart_from_own g i u b j e =
      let same : g ≡ as_shared t false b = by_key (λ (w : SharedEntry Op). w.id) G (own_ids o place apart v h) g (as_shared t false b) i j e in
      let z : true ≡ false = sym u ∙ ap (λ (w : SharedEntry Op). w.committed) same in cc

  seen_distinct : HasDistinctIds Seen
  seen_distinct p r b = by h.is_held
    where
      by : (c : Config Op) × IsHeldOf o place (as_held place v) c → p.id ≡ r.id → ⊥
      by (c, is) = (subst (λ (D : List (CommittedTx Op)). HasDistinctIds (serial_at place q D)) (ap (λ w. w.done) is.is) (done_serial (rules_of o v.shape) place c is.boosted.sound q).distinct_y) p r
          (before_taken (seen_of it.seen.entries q) p r (serial_at place q v.committed) b)

  own_distinct : HasDistinctIds Own
  own_distinct p r b = by h.is_held
    where
      by : (c : Config Op) × IsHeldOf o place (as_held place v) c → p.id ≡ r.id → ⊥
      by (c, is) =
          let z = opened o place apart v h c is t it found in
          let y : Tx Op = z.0 in
          let iy = (found_tx t c.opened y z.1).0 in
          let m = before_from_own y.local p r (subst (λ (w : List (Item Op)). Before p r w) (sym (same_own o place apart v h c is t it found)) (before_from_filter _ p r it.own b)) in
          λ s. is.boosted.sound.local_ids y iy m.0 m.1 m.2 (ap (λ (w : Item Op). w.id) (sym m.5) ∙ s ∙ ap (λ (w : Item Op). w.id) m.6)

  missing_distinct : HasDistinctIds (map shared_item Missing)
  missing_distinct p r b s =
      let m = before_from_map shared_item p r Missing b in
      own_ids o place apart v h m.0 m.1 (before_from_filter _ m.0 m.1 G m.2) (ap (λ (w : Item Op). w.id) (sym m.3) ∙ s ∙ ap (λ (w : Item Op). w.id) m.4)

  view_distinct : HasDistinctIds (Seen ++ Own)
  view_distinct p r b s = elim (before_cases p r Seen Own b) [
    | inl j ↦ seen_distinct p r j s
    | inr (inl j) ↦ own_distinct p r j s
    | inr (inr j) ↦ let e = seen_stands p j.0 in apart_from_own (as_shared e.0 true p) e.1 refl r (own_there r j.1) s
  ]

  all_distinct : HasDistinctIds ((Seen ++ Own) ++ map shared_item Missing)
  all_distinct p r b s = elim (before_cases p r (Seen ++ Own) (map shared_item Missing) b) [
    | inl j ↦ view_distinct p r j s
    | inr (inl j) ↦ missing_distinct p r j s
    | inr (inr j) ↦ let m = missing_there r j.1 in elim (in_cases p Seen Own j.0) [
      | inl i ↦
          let e : p.id ≡ (m.0).id = s ∙ ap (λ (w : Item Op). w.id) m.4 in
          let has : has_id (m.0).id (seen_ids place q v.committed (kept_open t it)) ≡ true =
          in_has (m.0).id (seen_ids place q v.committed (kept_open t it)) (subst (λ (n : ℕ). In n (map (λ (w : Item Op). w.id) Seen)) e (in_map (λ (w : Item Op). w.id) p Seen i)) in
          let z : false ≡ true = sym (ap not has) ∙ m.3 in cc
      | inr i ↦ apart_from_own m.0 m.1 m.2 p (own_there p i) (sym (ap (λ (w : Item Op). w.id) m.4) ∙ sym s)
    ]
  ]

  all_within : (p : Item Op) → In p ((Seen ++ Own) ++ map shared_item Missing) → In p (map shared_item G)
  all_within p i = elim (in_cases p (Seen ++ Own) (map shared_item Missing) i) [
    | inl j ↦ elim (in_cases p Seen Own j) [
      | inl k ↦ let e = seen_stands p k in in_map shared_item (as_shared e.0 true p) G e.1
      | inr k ↦ in_map shared_item (as_shared t false p) G (own_there p k)
    ]
    | inr j ↦ let m = missing_there p j in subst (λ (w : Item Op). In w (map shared_item G)) (sym m.4) (in_map shared_item m.0 G m.1)
  ]

  -- The operations that a transaction has at a place, and the commits that it misses there, are at most as many as the entries of the
  -- shared log.
  pub entries_few : length (view_items place q v it) + length (summary_missing place q (kept_summary v) (kept_open t it)) ≤ v.count + 256
  entries_few =
      let a = no_longer ((Seen ++ Own) ++ map shared_item Missing) (map shared_item G) all_distinct all_within in
      let b : length ((Seen ++ Own) ++ map shared_item Missing) ≡ length (Seen ++ Own) + length (map shared_item Missing) = length-append (Seen ++ Own) (map shared_item Missing) in
      let c : length (map shared_item Missing) ≡ length Missing = length-map Missing (shared_item {Op = Op}) in
      let d : length (map shared_item G) ≡ length G = length-map G (shared_item {Op = Op}) in
      let few = h.few in
      omega arith
