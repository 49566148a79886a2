-- What a start answers, and what it makes of what is kept.
use Rattle.std.proofs.Common.{◌≡◌, ◌≢◌, ◌↔◌, ◌≤◌, ℕ, IsTrue, Bool, true, false, List, [], ◌∷◌, ◌++◌, length, map, reverse, Option, None, Some, refl, sym, ap, subst, ◌∙◌, append-nil, arith, inl, inr}
use Rattle.std.specs.List.{All}
use Rattle.std.specs.Map.{keys_of, lookup}
use Rattle.std.proofs.lemmas.List.{reverse-reverse}
use Rattle.pp_core.specs.declared.call.Kind.{Kind}
use Rattle.pp_core.specs.declared.call.Style.TheVariants.{Optimistic}
use Rattle.pp_core.specs.declared.entry.CommittedTx.{CommittedTx}
use Rattle.pp_core.specs.declared.entry.Item.{Item}
use Rattle.pp_model.specs.Config.{Start, as_shared, first, start_with}
use Rattle.pp_model.specs.Lists.{Before, In}
use Rattle.pp_model.specs.Names.{Name, ◌=ⁿ◌}
use Rattle.pp_model.specs.Object.{ops}
use Rattle.pp_model.specs.Rules.{StartMeets}
use Rattle.pp_model.specs.Sound.{serial_ops}
use Rattle.pp_model.proofs.Lists.{from_map}
use Rattle.pp_kind.specs.Object.{IsAllowed, IsLawful, IsPlaced, Object, rules_of}
use Rattle.pp_kind.proofs.Standing.{of_each}
use Rattle.pp_records.specs.Fronts.{new_front}
use Rattle.pp_laws_summary.specs.Places.{ops_at}
use Rattle.pp_laws_summary.specs.Summary.{summary_of}
use Rattle.pp_laws_summary.proofs.LocalRecords.{keeps}
use Rattle.pp_laws_summary.proofs.Placed.{parts_of}
use Rattle.pp_summary.specs.Held.{IsItemAsked}
use Rattle.pp_summary.specs.Shown.{AreThreads, filled}
use Rattle.pp_summary.specs.declared.parts.OpenTx.{OpenTx}
use Rattle.pp_snapshots.specs.Held.{OpenTaken, Starts, Taken, first_taken}
use Rattle.pp_snapshots.specs.Many.{AreAsked, MayFollow}
use Rattle.pp_snapshots.specs.Moving.{as_taken, tx_taken}
use Rattle.pp_snapshots.specs.declared.past.Past.{Past}
use Rattle.pp_snapshots.specs.Past.{IsPast, with_ops}
use Rattle.pp_snapshots.specs.Shown.{IsFine, Keeps, Kept, SlotList, done_ops, own_total, shared_done, shown, shown_tx, threads_of}
use Rattle.pp_snapshots.specs.Starting.{PutsIn, PutsStart, StartAnswers}
use Rattle.pp_snapshots.proofs.Manies.{same_past}
use Rattle.pp_snapshots.proofs.Moving.{asked_here, same_summary}
use Rattle.pp_snapshots.proofs.StepCounts.{serial_size}
use Rattle.pp_snapshots.proofs.Views.{done_more}

-- what the seen value is made of
same_taken : {Shape Op : Type 0} (a b : Shape) (c d : List Name) (e f : List ℕ) (g h : List (OpenTaken Op)) (i j : List (CommittedTx Op)) (k l : ℕ) → a ≡ b → c ≡ d → e ≡ f → g ≡ h → i ≡ j → k ≡ l
    → ◌≡◌ {A = Taken Shape Op} (record { shape = a; names = c; ids = e; opened = g; done = i; count = k }) (record { shape = b; names = d; ids = f; opened = h; done = j; count = l })
same_taken {Shape} {Op} a b c d e f g h i j k l p q r s t u =
    ap (λ (z : Shape). record { shape = z; names = c; ids = e; opened = g; done = i; count = k }) p
    ∙ ap (λ (z : List Name). record { shape = b; names = z; ids = e; opened = g; done = i; count = k }) q
    ∙ ap (λ (z : List ℕ). record { shape = b; names = d; ids = z; opened = g; done = i; count = k }) r
    ∙ ap (λ (z : List (OpenTaken Op)). record { shape = b; names = d; ids = f; opened = z; done = i; count = k }) s
    ∙ ap (λ (z : List (CommittedTx Op)). record { shape = b; names = d; ids = f; opened = h; done = z; count = k }) t
    ∙ ap (λ (z : ℕ). record { shape = b; names = d; ids = f; opened = h; done = j; count = z }) u

module _ {Shape State Op Undo : Type 0} (o : Object Shape State Op Undo) (place : Op → ℕ) (SameAt : ℕ → State → State → Type 0) (laws : IsLawful o) (places : IsPlaced o place SameAt) (v : Kept Shape State Op Undo) (h : Keeps o place v) (new : as_taken v ≡ first_taken v.shape None) where
  -- New Snapshots have begun no transaction.
  no_slots : v.slots.entries ≡ []
  no_slots = by v.slots.entries (sym (reverse-reverse (keys_of v.slots.entries)) ∙ ap (λ (s : Taken Shape Op). reverse s.names) new)
    where
      by : (es : SlotList Op) → keys_of es ≡ [] → es ≡ []
      by [] e = refl
      by (x ∷ es) e = absurd (subst (λ (w : List Name). In x.0 w) e (inl refl))

  none_done : v.committed ≡ []
  none_done = ap (λ (s : Taken Shape Op). s.done) new

  -- No operation was applied in new Snapshots.
  pub no_past : v.past.size ≡ 0
  no_past = sym (serial_size o place SameAt laws places v h) ∙ ap (λ (D : List (CommittedTx Op)). length (serial_ops D)) none_done

  no_count : v.count ≡ 0
  no_count = ap (λ (s : Taken Shape Op). s.count) new

  -- No name has a slot in new Snapshots.
  pub not_begun : (t : Name) → lookup (λ m. t =ⁿ m) v.slots.entries ≡ None
  not_begun t = ap (λ (z : SlotList Op). lookup (λ m. t =ⁿ m) z) no_slots

  module _ (t : Name) (items : List (Item Op)) where
    abbrev z : Start Op
    z = start_with t items

    there : (q : ℕ) → with_ops place (done_ops o place v.committed) (ops items) q ≡ ops_at place q (ops items)
    there q = ap (λ (D : List (CommittedTx Op)). with_ops place (done_ops o place D) (ops items) q) none_done

    -- Operations may follow nothing exactly if they are allowed.
    pub start_may : MayFollow o place v.shape (done_ops o place v.committed) (ops items) ↔ IsAllowed o v.shape (ops items)
    start_may = (
      (λ may. ((parts_of o place SameAt laws places v.shape).parts (ops items)).1 (λ q. subst (IsAllowed o v.shape) (there q) (may q))),
      (λ allowed q. subst (IsAllowed o v.shape) (sym (there q)) (((parts_of o place SameAt laws places v.shape).parts (ops items)).0 allowed q)),
    )

    -- The operations of a start fit and are in range.
    pub start_asked : All (IsItemAsked o v.shape) items → AreAsked o v.past (ops items)
    start_asked asked a i =
        let m = from_map (λ (p : Item Op). p.op) a items i in
        subst (λ (b : Op). IsTrue (o.fits (o.shape v.past.state) b) × IsTrue (o.ranged b)) (sym m.2)
        (asked_here o place SameAt laws places v h (m.0).op (of_each (IsItemAsked o v.shape) items m.0 asked m.1))

    module _ (past : Past State Op Undo) (w : Kept Shape State Op Undo) (put : PutsIn (record v { past = past }) z w) where
      slots_are : w.slots.entries ≡ (t, None) ∷ []
      slots_are = put.slots ∙ ap (λ (l : SlotList Op). l ++ (t, None) ∷ []) no_slots

      done_are : w.committed ≡ record { name = t; entries = items } ∷ []
      done_are = put.committed ∙ ap (λ (D : List (CommittedTx Op)). D ++ record { name = t; entries = items } ∷ []) none_done

      -- what is seen after a start
      taken_is : as_taken w ≡ first_taken v.shape (Some z)
      taken_is =
          same_taken _ _ _ _ _ _ _ _ _ _ _ _ put.shape
          (ap (λ (l : SlotList Op). reverse (keys_of l)) slots_are) put.ids (ap (λ (l : SlotList Op). filled tx_taken l) slots_are) done_are (put.count ∙ no_count)

      shown_is : (ks : List Kind) → shown ks w ≡ summary_of place (record { front = new_front ks; config = first (Some z) })
      shown_is ks =
          same_summary ks _ _ _ _ _ _ _ _ _ _ (ap (λ (l : SlotList Op). reverse (keys_of l)) slots_are) put.ids (ap (λ (l : SlotList Op). filled shown_tx l) slots_are)
          (ap shared_done done_are ∙ append-nil (map (as_shared t true) items)) done_are

      -- The start of new Snapshots, put in after its operations were applied.
      pub started : StartMeets (rules_of o v.shape) (Some z) → IsPast o place v.shape past (with_ops place (done_ops o place v.committed) (ops items)) → past.size ≤ 256 → PutsStart o place v z w
      started meets applied few = record { taken = taken_is; keeps = by }
        where
          only_one : (s r : Name) → Before s r (t ∷ []) → s ≢ r
          only_one s r (inl i) = absurd i.1
          only_one s r (inr i) = absurd i

          none_fine : (n : Name) (x : OpenTx (List (Item Op))) → In {A = Name × Option (OpenTx (List (Item Op)))} (n, Some x) ((t, None) ∷ []) → IsFine o place w.shape x
          none_fine n x (inl e) = absurd (let k : Some x ≡ None = ap (λ (s : Name × Option (OpenTx (List (Item Op)))). s.1) e in cc)
          none_fine n x (inr i) = absurd i

          by : Keeps o place w
          by =
              record {
                names = subst (λ (l : SlotList Op). (s r : Name) → Before s r (keys_of l) → s ≢ r) (sym slots_are) only_one;
                threads =
                    subst (λ (l : SlotList Op). AreThreads w.threads.keys (threads_of (filled shown_tx l))) (sym slots_are)
                    (subst (λ (l : List Name). AreThreads l []) (sym put.threads) (subst (λ (l : SlotList Op). AreThreads v.threads.keys (threads_of (filled shown_tx l))) no_slots h.threads));
                fine = subst (λ (l : SlotList Op). (n : Name) (x : OpenTx (List (Item Op))) → In (n, Some x) l → IsFine o place w.shape x) (sym slots_are) none_fine;
                past =
                    subst (λ (s : Shape). IsPast o place s w.past (done_ops o place w.committed)) (sym put.shape)
                    (subst (λ u. IsPast o place v.shape u (done_ops o place w.committed)) (sym put.past)
                    (same_past o place v.shape past (with_ops place (done_ops o place v.committed) (ops items)) (done_ops o place w.committed)
                    (λ q. sym (done_more place v.committed (record { name = t; entries = items }) q) ∙ ap (λ (D : List (CommittedTx Op)). done_ops o place D q) (sym put.committed)) applied));
                is_held = (
                  record { front = new_front []; config = first (Some z) },
                  record {
                    summable = (keeps Optimistic tt (rules_of o w.shape) place (parts_of o place SameAt laws places w.shape)).start [] (Some z) (subst (λ (s : Shape). StartMeets (rules_of o s) (Some z)) (sym put.shape) meets);
                    is = sym (shown_is []);
                  },
                );
                few = (
                    let none : own_total w.slots.entries ≡ 0 = ap (λ (l : SlotList Op). own_total l) slots_are in
                    let size : w.past.size ≡ past.size = ap (λ u. u.size) put.past in
                    omega (arith, none, size, few)
                    );
              }

-- what is answered, in the words of contracts
pub starts_is : {Shape State Op Undo : Type 0} (o : Object Shape State Op Undo) (place : Op → ℕ) (v w : Kept Shape State Op Undo) (z : Start Op) (good : Bool) → StartAnswers o place v z good w → Starts o place (as_taken v) z good (as_taken w)
starts_is o place v w z true a = (a.0, a.1.taken)
starts_is o place v w z false a = (a.0, a.1.taken)

-- Snapshots keep what they did after a start is answered.
pub start_keeps : {Shape State Op Undo : Type 0} (o : Object Shape State Op Undo) (place : Op → ℕ) (v w : Kept Shape State Op Undo) (z : Start Op) (good : Bool) → StartAnswers o place v z good w → Keeps o place w
start_keeps o place v w z true a = a.1.keeps
start_keeps o place v w z false a = a.1.keeps
