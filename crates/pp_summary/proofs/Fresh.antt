-- A new Quick, and the committed transactions of any.
use Rattle.std.specs.Prelude.{◌≡◌, ◌≢◌, ◌≤◌, ◌+◌, ℕ, true, List, [], ◌++◌, length, reverse, Option, None, Some, IsTrue}
use Rattle.std.specs.Map.{keys_of}
use Rattle.std.proofs.Common.{refl, sym, ap, subst, ◌∙◌, arith}
use Rattle.std.proofs.lemmas.List.{append-nil}
use Rattle.pp_core.specs.declared.entry.CommittedTx.{CommittedTx}
use Rattle.pp_core.specs.declared.entry.Item.{Item}
use Rattle.pp_model.specs.Config.{Config, SharedEntry, as_shared, first, shared_ops, uncommitted}
use Rattle.pp_model.specs.Lists.{Before, In}
use Rattle.pp_model.specs.Names.{Name}
use Rattle.pp_model.specs.Sound.{Sound, serial_items, serial_ops}
use Rattle.pp_model.proofs.Lists.{from_map}
use Rattle.pp_model.proofs.Serial.{allowed_front, ordered, serial_law}
use Rattle.pp_model.proofs.Lengths.{serial_fits}
use Rattle.pp_kind.specs.Object.{Object, AllRanged, IsAllowed, rules_of}
use Rattle.pp_kind.proofs.Fitting.{in_ranged}
use Rattle.pp_summary.specs.Boosted.{PlacesSwap}
use Rattle.pp_summary.specs.Brief.{Brief, BriefTx, brief}
use Rattle.pp_summary.specs.Shown.{AreThreads, KeepsQuick, IsFine, Kept, at, filled, as_held, ids_at, shown, shown_tx, threads_of}
use Rattle.pp_summary.specs.declared.parts.OpenTx.{OpenTx}
use Rattle.pp_summary.proofs.Moving.{same_brief}
use Rattle.pp_summary.proofs.Deciding.{quick}
use Rattle.pp_summary.proofs.HeldOf.{done_stands}

module _ {Shape State Op Undo : Type 0} (o : Object Shape State Op Undo) (place : Op → ℕ) (apart : (shape : Shape) → PlacesSwap (rules_of o shape) place) where
  -- A Quick that keeps nothing.
  module _ (v : Kept Shape Op) (slots : v.slots.entries ≡ []) (threads : v.threads.keys ≡ []) (ids : v.ids ≡ []) (shared : v.shared ≡ (v.shape, [])) (committed : v.committed ≡ []) (commits : v.commits.items ≡ []) where
    opened_none : filled (shown_tx place v.shared.1 v.commits.items) v.slots.entries ≡ []
    opened_none = ap (λ (z : List (Name × Option (OpenTx (List (Item Op))))). filled (shown_tx place v.shared.1 v.commits.items) z) slots

    -- A new summary shows the brief of the configuration before the first record.
    pub fresh_shown : shown place v ≡ brief place (first None)
    fresh_shown = same_brief _ _ _ _ _ _ _ _ _ _
        (ap (λ (z : List (Name × Option (OpenTx (List (Item Op))))). reverse (keys_of z)) slots)
        (ap (λ (z : List ℕ). reverse z) ids)
        opened_none
        (ap (λ (z : Shape × List (SharedEntry Op)). z.1) shared)
        committed

    -- A new summary has the facts that each summary keeps.
    pub fresh_keeps : KeepsQuick o place v
    fresh_keeps =
        record {
          is_held = (first None, record { boosted = (quick (rules_of o v.shape) place (apart v.shape)).start None refl; is = sym fresh_shown });
          names = subst (λ (z : List (Name × Option (OpenTx (List (Item Op))))). (s t : Name) → Before s t (keys_of z) → s ≢ t) (sym slots) (λ s t b. absurd b);
          threads =
              subst (λ (z : List (BriefTx Op)). AreThreads v.threads.keys (threads_of z)) (sym opened_none)
              (subst (λ (z : List Name). AreThreads z []) (sym threads) (record { apart = λ p q b. absurd b; are = λ p. refl }));
          fine = subst (λ (z : List (Name × Option (OpenTx (List (Item Op))))). (n : Name) (x : OpenTx (List (Item Op))) → In (n, Some x) z → IsFine o place v.commits.items x) (sym slots) (λ n x i. absurd i);
          commits = λ q. ap (λ (z : List (List ℕ)). at q z) commits ∙ ap (λ (z : List (CommittedTx Op)). ids_at place q (serial_items z)) (sym committed);
          same_shape = ap (λ (z : Shape × List (SharedEntry Op)). z.0) shared;
          ranged = λ g i. absurd (subst (λ (z : Shape × List (SharedEntry Op)). In g z.1) shared i);
          few = let e : length v.shared.1 ≡ 0 = ap (λ (z : Shape × List (SharedEntry Op)). length z.1) shared in omega arith;
        }

  serial_allowed : (shape : Shape) (c : Config Op) → Sound (rules_of o shape) c → IsAllowed o shape (serial_ops c.done)
  serial_allowed shape c s =
      allowed_front (rules_of o shape) (o.start shape) (serial_ops c.done) (shared_ops (uncommitted c.shared) ++ [])
      (serial_law (rules_of o shape) c.shared c.done [] (ordered (rules_of o shape) c s) (subst (λ (z : List Op). IsAllowed o shape z) (sym (append-nil (shared_ops c.shared))) s.shared_allowed))

  -- The serial run of a summary is allowed.
  pub done_allowed : (v : Kept Shape Op) → KeepsQuick o place v → IsAllowed o v.shape (serial_ops v.committed)
  done_allowed v h =
      let k = h.is_held in
      subst (λ (b : Brief Op). IsAllowed o v.shape (serial_ops b.done)) k.1.is (serial_allowed v.shape k.0 k.1.boosted.sound)

  -- The serial run of a summary has at most one operation for each record, and 256 of the start.
  pub done_few : (v : Kept Shape Op) → KeepsQuick o place v → length (serial_ops v.committed) ≤ v.count + 256
  done_few v h =
      let k = h.is_held in
      let all : length (serial_ops k.0.done) ≤ length k.0.shared = serial_fits (rules_of o v.shape) k.0 k.1.boosted.sound in
      let done : length (serial_ops k.0.done) ≡ length (serial_ops v.committed) = ap (λ (b : Brief Op). length (serial_ops b.done)) k.1.is in
      let shared : length k.0.shared ≡ length v.shared.1 = ap (λ (b : Brief Op). length b.shared) k.1.is in
      omega (arith, all, done, shared, h.few)

  -- The serial run of a summary is ranged.
  pub done_ranged : (v : Kept Shape Op) → KeepsQuick o place v → AllRanged o (serial_ops v.committed)
  done_ranged v h = in_ranged o (serial_ops v.committed) (λ a i.
      let m = from_map (λ (p : Item Op). p.op) a (serial_items v.committed) i in
      let s = done_stands o place apart (as_held place v) h.is_held m.0 m.1 in
      subst (λ (z : Op). IsTrue (o.ranged z)) (sym m.2) (h.ranged (as_shared s.0 true m.0) s.1))
