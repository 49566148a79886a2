-- Proof machinery: a run before its first record.
use Rattle.std.proofs.Common.{◌≡◌, ◌≢◌, ℕ, List, [], reverse, None, Some, refl, sym, ap, subst, ◌∙◌, arith}
use Rattle.std.specs.Map.{keys_of}
use Rattle.pp_core.specs.declared.call.Kind.{Kind}
use Rattle.pp_core.specs.declared.call.Style.TheVariants.{Optimistic}
use Rattle.pp_core.specs.declared.entry.CommittedTx.{CommittedTx}
use Rattle.pp_core.specs.declared.entry.Item.{Item}
use Rattle.pp_model.specs.Config.{first}
use Rattle.pp_model.specs.Lists.{Before, In}
use Rattle.pp_model.specs.Names.{Name}
use Rattle.pp_kind.specs.Object.{IsLawful, IsPlaced, Object, rules_of}
use Rattle.pp_records.specs.Fronts.{new_front}
use Rattle.pp_laws_summary.specs.Summary.{summary_of}
use Rattle.pp_laws_summary.proofs.LocalRecords.{keeps}
use Rattle.pp_laws_summary.proofs.Placed.{parts_of}
use Rattle.pp_summary.specs.Shown.{AreThreads, filled}
use Rattle.pp_summary.specs.declared.parts.OpenTx.{OpenTx}
use Rattle.pp_snapshots.specs.Held.{Taken, first_taken}
use Rattle.pp_snapshots.specs.Moving.{IsNew, as_taken, tx_taken}
use Rattle.pp_snapshots.specs.Past.{IsPast}
use Rattle.pp_snapshots.specs.Shown.{IsFine, Keeps, Kept, SlotList, done_ops, own_total, shared_done, shown, shown_tx, threads_of}
use Rattle.pp_snapshots.proofs.Moving.{same_summary}

module _ {Shape State Op Undo : Type 0} (o : Object Shape State Op Undo) (place : Op → ℕ) (SameAt : ℕ → State → State → Type 0) (laws : IsLawful o) (places : IsPlaced o place SameAt) (v : Kept Shape State Op Undo)
    (slots : v.slots.entries ≡ []) (threads : v.threads.keys ≡ []) (ids : v.ids ≡ []) (committed : v.committed ≡ []) (past : IsPast o place v.shape v.past (λ q. [])) (size : v.past.size ≡ 0) (count : v.count ≡ 0) where
  is_shown : (ks : List Kind) → shown ks v ≡ summary_of place (record { front = new_front ks; config = first None })
  is_shown ks = same_summary ks _ _ _ _ _ _ _ _ _ _
      (ap (λ (z : SlotList Op). reverse (keys_of z)) slots)
      (ap (λ (l : List ℕ). reverse l) ids)
      (ap (λ (z : SlotList Op). filled shown_tx z) slots)
      (ap shared_done committed)
      committed

  -- With nothing kept, what is shown is the summary before the first record.
  pub new_is : IsNew place v
  new_is = record { shown = is_shown; count = count }

  -- With nothing kept, what is kept of a run is as it should be.
  pub new_keeps : Keeps o place v
  new_keeps =
      record {
        names = subst (λ (z : SlotList Op). (s t : Name) → Before s t (keys_of z) → s ≢ t) (sym slots) (λ s t b. absurd b);
        threads =
            subst (λ (z : SlotList Op). AreThreads v.threads.keys (threads_of (filled shown_tx z))) (sym slots)
            (subst (λ (z : List Name). AreThreads z []) (sym threads) (record { apart = λ p q b. absurd b; are = λ p. refl }));
        fine = subst (λ (z : SlotList Op). (n : Name) (x : OpenTx (List (Item Op))) → In (n, Some x) z → IsFine o place v.shape x) (sym slots) (λ n x i. absurd i);
        past = subst (λ (D : List (CommittedTx Op)). IsPast o place v.shape v.past (done_ops o place D)) (sym committed) past;
        is_held = (
          record { front = new_front []; config = first None },
          record {
            summable = (keeps Optimistic tt (rules_of o v.shape) place (parts_of o place SameAt laws places v.shape)).start [] None refl;
            is = sym (is_shown []);
          },
        );
        few = (let none : own_total v.slots.entries ≡ 0 = ap (λ (z : SlotList Op). own_total z) slots in omega (arith, none, size));
      }

  -- With nothing kept, contracts see a run before its first record.
  pub taken_none : as_taken v ≡ first_taken v.shape None
  taken_none =
      ap {B = Taken Shape Op} (λ (z : SlotList Op). record (as_taken v) { names = reverse (keys_of z); opened = filled tx_taken z }) slots
      ∙ ap {B = Taken Shape Op} (λ (l : List ℕ). record { shape = v.shape; names = []; ids = reverse l; opened = []; done = v.committed; count = v.count }) ids
      ∙ ap {B = Taken Shape Op} (λ (D : List (CommittedTx Op)). record { shape = v.shape; names = []; ids = []; opened = []; done = D; count = v.count }) committed
      ∙ ap {B = Taken Shape Op} (λ (n : ℕ). record { shape = v.shape; names = []; ids = []; opened = []; done = []; count = n }) count
