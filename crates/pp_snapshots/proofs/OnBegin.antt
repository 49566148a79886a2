-- Proof machinery: a begin record, and the summary that it leads to.
use Rattle.std.proofs.Common.{◌≡◌, ◌≢◌, ◌+◌, ℕ, true, false, cond, List, [], ◌∷◌, ◌++◌, length, map, reverse, Option, Some}
use Rattle.std.proofs.Common.{refl, sym, ap, subst, ◌∙◌, inl, inr, arith}
use Rattle.std.specs.Prelude.{is_some}
use Rattle.std.specs.List.{list_any}
use Rattle.std.specs.Map.{keys_of, lookup}
use Rattle.std.proofs.lemmas.List.{map-append}
use Rattle.std.proofs.lemmas.Option.{same_Some}
use Rattle.pp_body.specs.Walks.{HasTaken}
use Rattle.pp_core.specs.declared.call.Kind.{Kind}
use Rattle.pp_core.specs.declared.entry.CommittedTx.{CommittedTx}
use Rattle.pp_core.specs.declared.entry.Item.{Item}
use Rattle.pp_model.specs.Body.{Tree}
use Rattle.pp_model.specs.Config.{Begin}
use Rattle.pp_model.specs.Lists.{Before, In}
use Rattle.pp_model.specs.Names.{Name, ◌=ⁿ◌}
use Rattle.pp_model.proofs.Finding.{any_in, from_reverse, in_reverse, none_in, reverse_more}
use Rattle.pp_model.proofs.Lists.{from_map, in_cases, in_map}
use Rattle.pp_model.proofs.NameLists.{apart_more}
use Rattle.pp_model.proofs.Names.{eq-names, names-true}
use Rattle.pp_kind.specs.Object.{IsLawful, IsPlaced, Object}
use Rattle.pp_records.specs.Records as records
use Rattle.pp_laws_summary.specs.Summary.{OpenSummary, new_open}
use Rattle.pp_summary.specs.Shown.{AreThreads, calls_of, filled}
use Rattle.pp_summary.specs.declared.parts.OpenTx.{OpenTx}
use Rattle.pp_summary.proofs.Filled.{begun_is}
use Rattle.pp_summary.proofs.Threads.{threads_more}
use Rattle.pp_snapshots.specs.Moving.{IsGood, Moves}
use Rattle.pp_snapshots.specs.Past.{IsPast}
use Rattle.pp_snapshots.specs.Shown.{IsFine, Keeps, Kept, SlotList, as_local, done_ops, own_total, seen_in, shared_done, shown_tx, threads_of}
use Rattle.pp_snapshots.proofs.Filled.{filled_more}
use Rattle.pp_snapshots.proofs.Moving.{moves, same_open, same_summary, total_more}

-- a transaction without own operations
pub fresh_fine : {Shape State Op Undo : Type 0} (o : Object Shape State Op Undo) (place : Op → ℕ) (shape : Shape) (x : OpenTx (List (Item Op))) → HasTaken x.walk [] → x.own ≡ [] → IsFine o place shape x
fresh_fine {Op = Op} o place shape x taken own =
    record {
      taken = subst (λ (l : List (Item Op)). HasTaken x.walk (calls_of o l)) (sym own) taken;
      asked = λ p i. absurd (subst (λ (l : List (Item Op)). In p l) own i);
    }

-- it is shown as one that has just begun
pub fresh_shown : {Op : Type 0} (t p : Name) (b : Option Tree) (x : OpenTx (List (Item Op))) → x.thread ≡ p → x.walk.body ≡ b → x.own ≡ [] → x.seen.entries ≡ [] → shown_tx t x ≡ new_open t p b
fresh_shown {Op} t p b x thread body own seen =
    same_open t x.thread p x.walk.body b _ [] _ _ thread body (ap (λ (l : List (Item Op)). map (as_local t) l) own) (ap seen_in seen)

module _ {Shape State Op Undo : Type 0} (o : Object Shape State Op Undo) (place : Op → ℕ) (SameAt : ℕ → State → State → Type 0) (laws : IsLawful o) (places : IsPlaced o place SameAt) (v : Kept Shape State Op Undo) (h : Keeps o place v) where
  -- names and threads
  pub begun_name : (t : Name) → is_some (lookup (λ n. t =ⁿ n) v.slots.entries) ≡ true → In t (reverse (keys_of v.slots.entries))
  begun_name t e =
      let r = any_in (λ (n : Name). n =ⁿ t) (keys_of v.slots.entries) (sym (begun_is v.slots.entries t) ∙ e) in
      in_reverse t (keys_of v.slots.entries) (subst (λ (n : Name). In n (keys_of v.slots.entries)) (names-true r.0 t r.2) r.1)

  -- A name that has no slot is not among the names.
  pub fresh_name : (t : Name) → is_some (lookup (λ n. t =ⁿ n) v.slots.entries) ≡ false → In t (reverse (keys_of v.slots.entries)) → ⊥
  fresh_name t e i =
      let k = none_in (λ (n : Name). n =ⁿ t) (keys_of v.slots.entries) (sym (begun_is v.slots.entries t) ∙ e) t (from_reverse t (keys_of v.slots.entries) i) in
      let z : true ≡ false = sym (eq-names t t refl) ∙ k in cc

  -- If a thread is in the list, not every open transaction has another one.
  pub busy_thread : (p : Name) → list_any (λ q. p =ⁿ q) v.threads.keys ≡ true → ((x : OpenSummary Op) → In x (filled shown_tx v.slots.entries) → x.thread ≢ p) → ⊥
  busy_thread p e n =
      let r = any_in (λ (q : Name). q =ⁿ p) (threads_of (filled shown_tx v.slots.entries)) (sym (h.threads.are p) ∙ e) in
      let m = from_map (λ (x : OpenSummary Op). x.thread) r.0 (filled shown_tx v.slots.entries) r.1 in
      n m.0 m.1 (sym m.2 ∙ names-true r.0 p r.2)

  -- If a thread is not in the list, no open transaction has it.
  pub idle_thread : (p : Name) → list_any (λ q. p =ⁿ q) v.threads.keys ≡ false → (x : OpenSummary Op) → In x (filled shown_tx v.slots.entries) → x.thread ≢ p
  idle_thread p e x i q =
      let k = none_in (λ (z : Name). z =ⁿ p) (threads_of (filled shown_tx v.slots.entries)) (sym (h.threads.are p) ∙ e) x.thread (in_map (λ (y : OpenSummary Op). y.thread) x (filled shown_tx v.slots.entries) i) in
      let z : true ≡ false = sym (eq-names x.thread p q) ∙ k in cc

  -- A begin with a new name and an idle thread is good.
  pub begun_good : (t p : Name) (b : Option Tree) → is_some (lookup (λ n. t =ⁿ n) v.slots.entries) ≡ false → list_any (λ q. p =ⁿ q) v.threads.keys ≡ false
      → (ks : List Kind) → IsGood o place ks v (records.Plain (Begin t p b))
  begun_good t p b new free ks = (fresh_name t new, idle_thread p free)

  module _ (t p : Name) (b : Option Tree) (x : OpenTx (List (Item Op))) (w : Kept Shape State Op Undo) (new : is_some (lookup (λ n. t =ⁿ n) v.slots.entries) ≡ false) (free : list_any (λ q. p =ⁿ q) v.threads.keys ≡ false)
      (thread : x.thread ≡ p) (body : x.walk.body ≡ b) (taken : HasTaken x.walk []) (own : x.own ≡ []) (seen : x.seen.entries ≡ [])
      (slots : w.slots.entries ≡ v.slots.entries ++ (t, Some x) ∷ []) (busy : (q : Name) → list_any (λ z. q =ⁿ z) w.threads.keys ≡ cond (p =ⁿ q) true (list_any (λ z. q =ⁿ z) v.threads.keys))
      (shape : w.shape ≡ v.shape) (past : w.past ≡ v.past) (ids : w.ids ≡ v.ids) (committed : w.committed ≡ v.committed) (count : w.count ≡ v.count + 1) where
    keys_are : keys_of w.slots.entries ≡ keys_of v.slots.entries ++ t ∷ []
    keys_are = ap (λ (z : SlotList Op). keys_of z) slots ∙ map-append (λ (e : Name × Option (OpenTx (List (Item Op)))). e.0) v.slots.entries ((t, Some x) ∷ [])

    opened_is : filled shown_tx w.slots.entries ≡ filled shown_tx v.slots.entries ++ new_open t p b ∷ []
    opened_is =
        ap (λ (z : SlotList Op). filled shown_tx z) slots
        ∙ filled_more t shown_tx shown_tx (λ n z. refl) v.slots.entries t x
        ∙ ap (λ (z : OpenSummary Op). filled shown_tx v.slots.entries ++ z ∷ []) (fresh_shown t p b x thread body own seen)

    idle : list_any (λ q. q =ⁿ p) (threads_of (filled shown_tx v.slots.entries)) ≡ false
    idle = sym (h.threads.are p) ∙ free

    not_in : In t (keys_of v.slots.entries) → ⊥
    not_in i = fresh_name t new (in_reverse t (keys_of v.slots.entries) i)

    -- A begin leads to the next summary.
    pub begun_moves : Moves o place v (records.Plain (Begin t p b)) w
    begun_moves = moves o place SameAt laws places v h (records.Plain (Begin t p b)) w tt (begun_good t p b new free) shape count
        (λ ks. same_summary ks _ _ _ _ _ _ _ _ _ _
        (ap (λ (z : List Name). reverse z) keys_are ∙ reverse_more (keys_of v.slots.entries) t)
        (ap (λ (z : List ℕ). reverse z) ids)
        opened_is
        (ap shared_done committed)
        committed)
        (subst (λ (l : List Name). (a c : Name) → Before a c l → a ≢ c) (sym keys_are) (apart_more (keys_of v.slots.entries) t h.names not_in))
        (subst (λ (l : List Name). AreThreads w.threads.keys l) (sym (ap (λ (l : List (OpenSummary Op)). threads_of l) opened_is ∙ map-append (λ (y : OpenSummary Op). y.thread) (filled shown_tx v.slots.entries) (new_open t p b ∷ [])))
        (threads_more v.threads.keys (threads_of (filled shown_tx v.slots.entries)) w.threads.keys p h.threads idle busy))
        (λ n y i. elim (in_cases (n, Some y) v.slots.entries ((t, Some x) ∷ []) (subst (λ (z : SlotList Op). In (n, Some y) z) slots i)) [
          | inl j ↦ h.fine n y j
          | inr (inl j) ↦
              let e : x ≡ y = same_Some x y (ap (λ (z : Name × Option (OpenTx (List (Item Op)))). z.1) (sym j)) in
              subst (λ (z : OpenTx (List (Item Op))). IsFine o place v.shape z) e (fresh_fine o place v.shape x taken own)
          | inr (inr j) ↦ absurd j
        ])
        (subst (λ (D : List (CommittedTx Op)). IsPast o place v.shape w.past (done_ops o place D)) (sym committed) (subst (λ z. IsPast o place v.shape z (done_ops o place v.committed)) (sym past) h.past))
        (let total : own_total w.slots.entries ≡ own_total v.slots.entries + length x.own = ap (λ (z : SlotList Op). own_total z) slots ∙ total_more v.slots.entries t x in
        let none : length x.own ≡ 0 = ap (λ (l : List (Item Op)). length l) own in
        let size : w.past.size ≡ v.past.size = ap (λ z. z.size) past in
        let few = h.few in
        omega (arith, total, none, size, few))
