-- Proof machinery: commit, abort and retry records, and the summaries that they lead to.
use Rattle.std.proofs.Common.{◌≡◌, ◌+◌, ◌↔◌, ℕ, Bool, true, false, cond, IsTrue, List, [], ◌∷◌, ◌++◌, length, map, reverse, Option, None, Some}
use Rattle.std.proofs.Common.{refl, sym, ap, subst, ◌∙◌, arith}
use Rattle.std.specs.List.{list_any}
use Rattle.std.specs.Map.{set_value}
use Rattle.std.proofs.lemmas.List.{length-map}
use Rattle.std.proofs.lemmas.Option.{same_Some}
use Rattle.pp_body.specs.Walks.{HasTaken, TellsWord}
use Rattle.pp_core.specs.declared.call.Kind.{Kind}
use Rattle.pp_core.specs.declared.call.Style.TheVariants.{Optimistic}
use Rattle.pp_core.specs.declared.entry.CommittedTx.{CommittedTx}
use Rattle.pp_core.specs.declared.entry.Item.{Item}
use Rattle.pp_model.specs.Body.{IsWord}
use Rattle.pp_model.specs.Config.{LocalEntry, SharedEntry, commit_all, item, local_ops, shared_ops}
use Rattle.pp_model.specs.Lists.{In}
use Rattle.pp_model.specs.Names.{Name, ◌=ⁿ◌}
use Rattle.pp_model.specs.Object.{ops}
use Rattle.pp_model.specs.Rules.{calls}
use Rattle.pp_model.specs.Sound.{serial_items, serial_ops}
use Rattle.pp_kind.specs.Object.{IsAllowed, IsLawful, IsPlaced, Object, rules_of}
use Rattle.pp_records.specs.Records as records
use Rattle.pp_laws_summary.specs.LocalLogs.{posted, pushed_ids, unpushed, without_ids}
use Rattle.pp_laws_summary.specs.Places.{ops_at}
use Rattle.pp_laws_summary.specs.Summary.{OpenSummary, SummaryCommit, own_of, taken_back, without_open}
use Rattle.pp_laws_summary.proofs.Parts.{at-append}
use Rattle.pp_laws_summary.proofs.Placed.{parts_of}
use Rattle.pp_summary.specs.Shown.{AreThreads, calls_of, filled, open_in}
use Rattle.pp_summary.specs.declared.parts.OpenTx.{OpenTx}
use Rattle.pp_snapshots.specs.Many.{MayFollow}
use Rattle.pp_snapshots.specs.Moving.{IsGood, Moves}
use Rattle.pp_snapshots.specs.Past.{IsPast, with_ops}
use Rattle.pp_snapshots.specs.Shown.{IsFine, Keeps, Kept, SlotList, as_local, done_ops, own_total, seen_in, shared_done, shown, shown_tx, threads_of}
use Rattle.pp_snapshots.proofs.Manies.{same_past}
use Rattle.pp_snapshots.proofs.Moving.{fine_of, fine_set, keys_set, moves, names_set, opened_out, opened_set, same_open, same_summary, slot_there, threads_gone, threads_on, total_set}
use Rattle.pp_snapshots.proofs.OnBegin.{fresh_fine}
use Rattle.pp_snapshots.proofs.OnOp.{here, it_is, of_it}
use Rattle.pp_snapshots.proofs.Views.{commit_adds, committed_all, done_more, items_local, ops_items, ops_local, posted_local, pushed_none, shared_serial, unpushed_local, without_none}

module _ {Shape State Op Undo : Type 0} (o : Object Shape State Op Undo) (place : Op → ℕ) (SameAt : ℕ → State → State → Type 0) (laws : IsLawful o) (places : IsPlaced o place SameAt) (v : Kept Shape State Op Undo) (h : Keeps o place v) where
  module _ (t : Name) (x : OpenTx (List (Item Op))) (found : open_in t v.slots.entries ≡ Some x) where
    -- a commit
    abbrev Commits : List Kind → OpenSummary Op → Type 0
    Commits ks = SummaryCommit Optimistic (rules_of o v.shape) place (shown ks v)

    -- What the walk says of its end is whether the own calls are a word of the body.
    pub word_is : (answer : Bool) → TellsWord x.walk answer → IsTrue answer ↔ IsWord x.walk.body (calls (rules_of o v.shape) x.own)
    word_is answer w = w (calls_of o x.own) (fine_of o place SameAt laws places v h t x found).taken

    -- If a commit is good, the own calls are a word of the body.
    pub word_of : (ks : List Kind) → IsGood o place ks v (records.Commit t) → IsWord x.walk.body (calls (rules_of o v.shape) x.own)
    word_of ks g =
        subst (λ (l : List (Item Op)). IsWord x.walk.body (calls (rules_of o v.shape) l)) (items_local t x.own)
        (of_it o place SameAt laws places v h t x found (Commits ks) g).word

    pushed_is : shared_ops (shared_done v.committed) ++ local_ops (unpushed (map (as_local t) x.own)) ≡ serial_ops v.committed ++ ops x.own
    pushed_is =
        ap (λ (l : List Op). l ++ local_ops (unpushed (map (as_local t) x.own))) (shared_serial v.committed)
        ∙ ap (λ (l : List (LocalEntry Op)). serial_ops v.committed ++ local_ops l) (unpushed_local t x.own)
        ∙ ap (λ (l : List Op). serial_ops v.committed ++ l) (ops_local t x.own)

    there_is : (q : ℕ) → ops_at place q (serial_ops v.committed ++ ops x.own) ≡ with_ops place (done_ops o place v.committed) (ops x.own) q
    there_is q =
        at-append place q (serial_ops v.committed) (ops x.own)
        ∙ ap (λ (l : List Op). l ++ ops_at place q (ops x.own)) (ops_items place q (serial_items v.committed))

    -- If a commit is good, the own operations may follow the committed ones.
    pub may_of : (ks : List Kind) → IsGood o place ks v (records.Commit t) → MayFollow o place v.shape (done_ops o place v.committed) (ops x.own)
    may_of ks g q =
        let allowed = (of_it o place SameAt laws places v h t x found (Commits ks) g).pushed.allowed in
        subst (IsAllowed o v.shape) (there_is q) (((parts_of o place SameAt laws places v.shape).parts (serial_ops v.committed ++ ops x.own)).0 (subst (IsAllowed o v.shape) pushed_is allowed) q)

    -- A commit is good if the own calls are a word of the body and the own operations may follow the committed ones.
    pub commit_good : IsWord x.walk.body (calls (rules_of o v.shape) x.own) → MayFollow o place v.shape (done_ops o place v.committed) (ops x.own) → (ks : List Kind) → IsGood o place ks v (records.Commit t)
    commit_good word may ks = it_is o place SameAt laws places v h t x found (Commits ks) (record {
      word = subst (λ (l : List (Item Op)). IsWord x.walk.body (calls (rules_of o v.shape) l)) (sym (items_local t x.own)) word;
      pushed = record {
        passes = λ e u i j n other there. absurd (let z : true ≡ false = sym (committed_all v.committed u j) ∙ n in cc);
        allowed = subst (IsAllowed o v.shape) (sym pushed_is)
            (((parts_of o place SameAt laws places v.shape).parts (serial_ops v.committed ++ ops x.own)).1 (λ q. subst (IsAllowed o v.shape) (sym (there_is q)) (may q)));
      };
    })

    -- an abort
    pub abort_good : (ks : List Kind) → IsGood o place ks v (records.Abort t)
    abort_good ks = it_is o place SameAt laws places v h t x found (λ y. Unit {0}) tt

    module _ (w : Kept Shape State Op Undo) (slots : w.slots.entries ≡ set_value (λ m. t =ⁿ m) v.slots.entries None)
        (busy : (q : Name) → list_any (λ z. q =ⁿ z) w.threads.keys ≡ cond (x.thread =ⁿ q) false (list_any (λ z. q =ⁿ z) v.threads.keys))
        (shape : w.shape ≡ v.shape) (ids : w.ids ≡ v.ids) (count : w.count ≡ v.count + 1) where
      opened : filled shown_tx w.slots.entries ≡ without_open t (filled shown_tx v.slots.entries)
      opened = opened_out o place SameAt laws places v h t w.slots.entries slots

      threads : AreThreads w.threads.keys (threads_of (filled shown_tx w.slots.entries))
      threads = subst (λ (l : List (OpenSummary Op)). AreThreads w.threads.keys (threads_of l)) (sym opened) (threads_gone o place SameAt laws places v h t x w.threads.keys found busy)

      fine : (n : Name) (y : OpenTx (List (Item Op))) → In (n, Some y) w.slots.entries → IsFine o place v.shape y
      fine = fine_set o place SameAt laws places v h t None w.slots.entries slots (λ y e. absurd (cc))

      total : own_total w.slots.entries + length x.own ≡ own_total v.slots.entries
      total =
          let k = total_set t v.slots.entries x None (slot_there o place SameAt laws places v h t x found) in
          let same : own_total w.slots.entries ≡ own_total (set_value (λ m. t =ⁿ m) v.slots.entries None) = ap (λ (z : SlotList Op). own_total z) slots in
          omega (arith, k, same)

      -- A good commit leads to the next summary.
      pub committed_moves : ((ks : List Kind) → IsGood o place ks v (records.Commit t)) → IsPast o place v.shape w.past (with_ops place (done_ops o place v.committed) (ops x.own)) → w.past.size ≡ v.past.size + length (ops x.own)
          → w.committed ≡ v.committed ++ record { name = t; entries = x.own } ∷ [] → Moves o place v (records.Commit t) w
      committed_moves good past size committed =
          moves o place SameAt laws places v h (records.Commit t) w tt good shape count
          (λ ks. same_summary ks _ _ _ _ _ _ _ _ _ _
          (keys_set o place SameAt laws places v h t None w.slots.entries slots)
          (ap (λ (l : List ℕ). reverse l) ids)
          opened
          (ap shared_done committed ∙ sym (commit_adds v.committed t x.own)
          ∙ ap (λ (l : List (SharedEntry Op)). commit_all t (shared_done v.committed ++ l)) (sym (posted_local t t x.own) ∙ ap (posted t) (sym (unpushed_local t x.own)))
          ∙ ap (λ (m : Option (OpenSummary Op)). commit_all t (shared_done v.committed ++ posted t (unpushed (own_of m)))) (sym (here o place SameAt laws places v h t x found)))
          (committed ∙ ap (λ (l : List (Item Op)). v.committed ++ record { name = t; entries = l } ∷ []) (sym (items_local t x.own))
          ∙ ap (λ (m : Option (OpenSummary Op)). v.committed ++ record { name = t; entries = map item (own_of m) } ∷ []) (sym (here o place SameAt laws places v h t x found))))
          (names_set o place SameAt laws places v h t None w.slots.entries slots)
          threads fine
          (same_past o place v.shape w.past _ (done_ops o place w.committed)
          (λ q. sym (done_more place v.committed (record { name = t; entries = x.own }) q) ∙ ap (λ (D : List (CommittedTx Op)). done_ops o place D q) (sym committed)) past)
          (let len = length-map x.own (λ (p : Item Op). p.op) in let few = h.few in let sum = total in omega (arith, sum, size, len, few))

      -- An abort leads to the next summary.
      pub aborted_moves : w.past ≡ v.past → w.committed ≡ v.committed → Moves o place v (records.Abort t) w
      aborted_moves past committed =
          moves o place SameAt laws places v h (records.Abort t) w tt abort_good shape count
          (λ ks. same_summary ks _ _ _ _ _ _ _ _ _ _
          (keys_set o place SameAt laws places v h t None w.slots.entries slots)
          (ap (λ (l : List ℕ). reverse l) ids)
          opened
          (ap shared_done committed ∙ sym (without_none (shared_done v.committed))
          ∙ ap (λ (js : List ℕ). without_ids js (shared_done v.committed)) (sym (pushed_none t x.own))
          ∙ ap (λ (m : Option (OpenSummary Op)). without_ids (pushed_ids (own_of m)) (shared_done v.committed)) (sym (here o place SameAt laws places v h t x found)))
          committed)
          (names_set o place SameAt laws places v h t None w.slots.entries slots)
          threads fine
          (subst (λ (D : List (CommittedTx Op)). IsPast o place v.shape w.past (done_ops o place D)) (sym committed) (subst (λ z. IsPast o place v.shape z (done_ops o place v.committed)) (sym past) h.past))
          (let size : w.past.size ≡ v.past.size = ap (λ z. z.size) past in let few = h.few in let sum = total in omega (arith, sum, size, few))

    -- a retry
    pub retry_good : (ks : List Kind) → IsGood o place ks v (records.Retry t)
    retry_good ks = it_is o place SameAt laws places v h t x found (λ y. Unit {0}) tt

    -- A retry leads to the next summary.
    pub retried_moves : (y : OpenTx (List (Item Op))) (w : Kept Shape State Op Undo) → w.slots.entries ≡ set_value (λ m. t =ⁿ m) v.slots.entries (Some y)
        → y.thread ≡ x.thread → y.walk.body ≡ x.walk.body → HasTaken y.walk [] → y.own ≡ [] → y.seen.entries ≡ [] → w.threads.keys ≡ v.threads.keys
        → w.shape ≡ v.shape → w.ids ≡ v.ids → w.past ≡ v.past → w.committed ≡ v.committed → w.count ≡ v.count + 1 → Moves o place v (records.Retry t) w
    retried_moves y w slots thread body taken own seen keys shape ids past committed count =
        let shown_is : shown_tx t y ≡ taken_back None (shown_tx t x) =
        same_open t y.thread x.thread y.walk.body x.walk.body _ _ _ _ thread body (ap (λ (l : List (Item Op)). map (as_local t) l) own) (ap seen_in seen) in
        let opened = opened_set o place SameAt laws places v h t x y (taken_back None) w.slots.entries found slots shown_is in
        moves o place SameAt laws places v h (records.Retry t) w tt retry_good shape count
        (λ ks. same_summary ks _ _ _ _ _ _ _ _ _ _
        (keys_set o place SameAt laws places v h t (Some y) w.slots.entries slots)
        (ap (λ (l : List ℕ). reverse l) ids)
        opened
        (ap shared_done committed ∙ sym (without_none (shared_done v.committed))
        ∙ ap (λ (js : List ℕ). without_ids js (shared_done v.committed)) (sym (pushed_none t x.own))
        ∙ ap (λ (m : Option (OpenSummary Op)). without_ids (pushed_ids (own_of m)) (shared_done v.committed)) (sym (here o place SameAt laws places v h t x found)))
        committed)
        (names_set o place SameAt laws places v h t (Some y) w.slots.entries slots)
        (subst (λ (l : List Name). AreThreads l (threads_of (filled shown_tx w.slots.entries))) (sym keys)
        (subst (λ (l : List Name). AreThreads v.threads.keys l)
        (sym (ap (λ (l : List (OpenSummary Op)). threads_of l) opened ∙ threads_on o place SameAt laws places v h t (taken_back None) (filled shown_tx v.slots.entries) (λ z. refl))) h.threads))
        (fine_set o place SameAt laws places v h t (Some y) w.slots.entries slots (λ z e. subst (λ (u : OpenTx (List (Item Op))). IsFine o place v.shape u) (same_Some y z e) (fresh_fine o place v.shape y taken own)))
        (subst (λ (D : List (CommittedTx Op)). IsPast o place v.shape w.past (done_ops o place D)) (sym committed) (subst (λ z. IsPast o place v.shape z (done_ops o place v.committed)) (sym past) h.past))
        (let k = total_set t v.slots.entries x (Some y) (slot_there o place SameAt laws places v h t x found) in
        let same : own_total w.slots.entries ≡ own_total (set_value (λ m. t =ⁿ m) v.slots.entries (Some y)) = ap (λ (z : SlotList Op). own_total z) slots in
        let none : length y.own ≡ 0 = ap (λ (l : List (Item Op)). length l) own in
        let size : w.past.size ≡ v.past.size = ap (λ z. z.size) past in
        let few = h.few in
        omega (arith, k, same, none, size, few))
