-- What the parts of a start return, and how a start changes what a Quick keeps.
use Rattle.std.specs.Prelude.{◌≡◌, ◌≢◌, ◌==◌, ◌<◌, ◌≤◌, ◌+◌, ℕ, Bool, true, false, cond, List, [], ◌∷◌, ◌++◌, drop, length, map, position, reverse, take, Option, None, Some, IsTrue}
use Rattle.std.specs.List.{All, list_any}
use Rattle.std.specs.Map.{keys_of, lookup}
use Rattle.std.proofs.Common.{refl, sym, ap, subst, ◌∙◌, append_assoc, arith, get_or}
use Rattle.std.proofs.lemmas.Bool.{eqb-true, false_from_ne_true}
use Rattle.std.proofs.lemmas.List.{append-nil, drop_more, length-map, map-append, take_more}
use Rattle.std.proofs.lemmas.List.Elements.{All-get_or}
use mathlib.Core.Logic.{inl, inr}
use Rattle.pp_core.specs.declared.entry.CommittedTx.{CommittedTx}
use Rattle.pp_core.specs.declared.entry.Item.{Item}
use Rattle.pp_core.specs.declared.entry.SharedEntry.{SharedEntry}
use Rattle.pp_log.specs.Logs.{GoesBehind}
use Rattle.pp_log.proofs.Lists.{cut_there}
use Rattle.pp_model.specs.Config.{Start, as_shared, commit_all, first, shared_ops, start_with}
use Rattle.pp_model.specs.Lists.{Before, In}
use Rattle.pp_model.specs.Names.{Name, ◌=ⁿ◌}
use Rattle.pp_model.specs.Object.{HasDistinctIds, ops}
use Rattle.pp_model.specs.Rules.{StartMeets}
use Rattle.pp_model.specs.Sound.{serial_items}
use Rattle.pp_model.proofs.Lists.{before_across, before_right, from_map, in_map}
use Rattle.pp_model.proofs.Names.{eq-names}
use Rattle.pp_model.proofs.Serial.{allowed_front}
use Rattle.pp_model.proofs.Finding.{from_reverse, in_reverse, nowhere, reverse_more}
use Rattle.pp_log_shared.specs.Committing.{HoldsIdsOf}
use Rattle.pp_kind.specs.Object.{Object, IsAllowed, rules_of}
use Rattle.pp_summary.specs.Boosted.{PlacesSwap}
use Rattle.pp_summary.specs.Brief.{Brief, BriefTx, brief}
use Rattle.pp_summary.specs.Held.{IsItemAsked}
use Rattle.pp_summary.specs.Shown.{AreThreads, KeepsQuick, IsFine, Kept, at, filled, ids_at, shown, shown_tx, threads_of}
use Rattle.pp_summary.specs.Starting.{PutsStart, IsNew, start_entries}
use Rattle.pp_summary.specs.declared.parts.OpenTx.{OpenTx}
use Rattle.pp_summary.proofs.Deciding.{quick}
use Rattle.pp_summary.proofs.Judging.{not_used, used_in}
use Rattle.pp_summary.proofs.Moving.{same_brief}
use Rattle.pp_kind.proofs.Standing.{of_each}

-- The item p at position k.
module _ {Op : Type 0} (items : List (Item Op)) (k : ℕ) (p : Item Op) (lt : k < length items) (is : p ≡ get_or items k p) where
  taken : take (k + 1) items ≡ take k items ++ p ∷ []
  taken = take_more items k p lt ∙ ap (λ (z : Item Op). take k items ++ z ∷ []) (sym is)

  left : drop k items ≡ p ∷ drop (k + 1) items
  left = drop_more items k p lt ∙ ap (λ (z : Item Op). z ∷ drop (k + 1) items) (sym is)

  earlier : (q : Item Op) → In q (take k items) → Before q p items
  earlier q i = subst (λ (w : List (Item Op)). Before q p w) (sym (cut_there items k p lt is)) (before_across q p (take k items) (p ∷ drop (k + 1) items) i (inl refl))

  later : (q : Item Op) → In q (drop (k + 1) items) → Before p q items
  later q i = subst (λ (w : List (Item Op)). Before p q w) (sym (cut_there items k p lt is)) (before_right p q (take k items) (p ∷ drop (k + 1) items) (inl (refl, i)))

  -- The ids ks of the items after position k, from the last to the first.
  module _ (ks : List ℕ) (are : reverse ks ≡ map (λ q. q.id) (drop (k + 1) items)) where
    -- If the id of p is among the ids of the items after it, the items do not have distinct ids.
    pub repeated : list_any (λ j. p.id == j) ks ≡ true → HasDistinctIds items → ⊥
    repeated t d =
        let m = from_map (λ (q : Item Op). q.id) p.id (drop (k + 1) items) (subst (λ (w : List ℕ). In p.id w) are (in_reverse p.id ks (used_in ks p.id t))) in
        d p m.0 (later m.0 m.1) m.2

    -- The ids of the items from k on are those after k, with the id of p at the end.
    pub ids_back : (js : List ℕ) → js ≡ ks ++ p.id ∷ [] → reverse js ≡ map (λ q. q.id) (drop k items)
    ids_back js i =
        ap reverse i
        ∙ reverse_more ks p.id
        ∙ ap (λ (w : List ℕ). p.id ∷ w) are
        ∙ sym (ap (λ (w : List (Item Op)). map (λ q. q.id) w) left)

    -- The id of p is not among the ids of the items after it.
    module _ (new : list_any (λ j. p.id == j) ks ≡ false) where
      behind_differs : (q : Item Op) → In q (drop (k + 1) items) → p.id ≡ q.id → ⊥
      behind_differs q i e =
          not_used ks p.id new (from_reverse p.id ks (subst (λ (w : List ℕ). In p.id w) (sym are)
          (subst (λ (j : ℕ). In j (map (λ (r : Item Op). r.id) (drop (k + 1) items))) (sym e) (in_map (λ (r : Item Op). r.id) q (drop (k + 1) items) i))))

      with_it : HasDistinctIds (drop (k + 1) items) → HasDistinctIds (p ∷ drop (k + 1) items)
      with_it d a b (inl h) e = behind_differs b h.1 (sym (ap (λ (z : Item Op). z.id) h.0) ∙ e)
      with_it d a b (inr h) e = d a b h e

      -- If an item has a new id, and those after it are distinct, all from it on are.
      pub distinct_back : HasDistinctIds (drop (k + 1) items) → HasDistinctIds (drop k items)
      distinct_back d = subst (λ (w : List (Item Op)). HasDistinctIds w) (sym left) (with_it d)

start_entries_ops : {Op : Type 0} (tx : Name) (l : List (Item Op)) → shared_ops (start_entries tx l) ≡ ops l
start_entries_ops tx [] = refl
start_entries_ops {Op} tx (p ∷ l) = ap (λ (w : List Op). p.op ∷ w) (start_entries_ops tx l)

-- The log of the first k items. The next item is added, or it differs from what the objects return.
module _ {Shape State Op Undo : Type 0} (o : Object Shape State Op Undo) (shape : Shape) (tx : Name) (items : List (Item Op)) where
  module _ (k : ℕ) (p : Item Op) (lt : k < length items) (is : p ≡ get_or items k p) (log : Shape × List (SharedEntry Op)) (so_far : log ≡ (shape, start_entries tx (take k items))) where
    shape_is : log.0 ≡ shape
    shape_is = ap (λ (z : Shape × List (SharedEntry Op)). z.0) so_far

    ops_are : shared_ops log.1 ≡ ops (take k items)
    ops_are = ap (λ (z : Shape × List (SharedEntry Op)). shared_ops z.1) so_far ∙ start_entries_ops tx (take k items)

    asked_at : All (IsItemAsked o shape) items → IsItemAsked o shape p
    asked_at asked = subst (IsItemAsked o shape) (sym is) (All-get_or (IsItemAsked o shape) items k p lt asked)

    -- The item at a position of a start that is asked is ranged.
    pub ranged_at : All (IsItemAsked o shape) items → IsTrue (o.ranged p.op)
    ranged_at asked = (asked_at asked).1

    -- If ids are distinct, the id of the next item is not in the log of those before it.
    pub new_at : HasDistinctIds items → position (λ e. e.id == p.id) log.1 ≡ None
    new_at d = nowhere (λ (e : SharedEntry Op). e.id == p.id) log.1 (λ e i.
        let m = from_map (as_shared tx false) e (take k items) (subst (λ (w : List (SharedEntry Op)). In e w) (ap (λ (z : Shape × List (SharedEntry Op)). z.1) so_far) i) in
        ap (λ (z : SharedEntry Op). z.id == p.id) m.2
        ∙ false_from_ne_true ((m.0).id == p.id) (λ t. d m.0 p (earlier items k p lt is m.0 m.1) (eqb-true (m.0).id p.id t)))

    -- If the log of the first k items gets the entry of the next one, it is the log of the first k + 1 items.
    pub log_more : (new : Shape × List (SharedEntry Op)) → new ≡ (log.0, log.1 ++ as_shared tx false p ∷ []) → new ≡ (shape, start_entries tx (take (k + 1) items))
    log_more new e =
        e
        ∙ ap (λ (z : Shape × List (SharedEntry Op)). (z.0, z.1 ++ as_shared tx false p ∷ [])) so_far
        ∙ ap (λ (z : List (SharedEntry Op)). (shape, z)) (sym (ap (λ (z : List (Item Op)). start_entries tx z) (taken items k p lt is) ∙ map-append (as_shared tx false) (take k items) (p ∷ [])))

    goes_there : GoesBehind o log.0 (shared_ops log.1) p.op → IsAllowed o shape (ops (take k items) ++ p.op ∷ [])
    goes_there h = subst (λ (z : List Op). IsAllowed o shape (z ++ p.op ∷ [])) ops_are (subst (λ (z : Shape). IsAllowed o z (shared_ops log.1 ++ p.op ∷ [])) shape_is h)

    goes_here : IsAllowed o shape (ops (take k items) ++ p.op ∷ []) → GoesBehind o log.0 (shared_ops log.1) p.op
    goes_here h = subst (λ (z : Shape). IsAllowed o z (shared_ops log.1 ++ p.op ∷ [])) (sym shape_is) (subst (λ (z : List Op). IsAllowed o shape (z ++ p.op ∷ [])) (sym ops_are) h)

    ops_more : ops (take (k + 1) items) ≡ ops (take k items) ++ p.op ∷ []
    ops_more = ap (λ (z : List (Item Op)). ops z) (taken items k p lt is) ∙ map-append (λ (q : Item Op). q.op) (take k items) (p ∷ [])

    -- If the next item is allowed after the log, the first items with it are allowed.
    pub allowed_more : GoesBehind o log.0 (shared_ops log.1) p.op → IsAllowed o shape (ops (take (k + 1) items))
    allowed_more h = subst (λ (z : List Op). IsAllowed o shape z) (sym ops_more) (goes_there h)

    ops_cut : ops items ≡ (ops (take k items) ++ p.op ∷ []) ++ ops (drop (k + 1) items)
    ops_cut =
        ap (λ (z : List (Item Op)). ops z) (cut_there items k p lt is)
        ∙ map-append (λ (q : Item Op). q.op) (take k items) (p ∷ drop (k + 1) items)
        ∙ sym (append_assoc (ops (take k items)) (p.op ∷ []) (ops (drop (k + 1) items)))

    -- If the next item is not allowed after the log, the start is not allowed.
    pub differs_at : (GoesBehind o log.0 (shared_ops log.1) p.op → ⊥) → IsAllowed o shape (ops items) → ⊥
    differs_at n a = n (goes_here (allowed_front (rules_of o shape) (o.start shape) (ops (take k items) ++ p.op ∷ []) (ops (drop (k + 1) items)) (subst (λ (z : List Op). IsAllowed o shape z) ops_cut a)))

-- The entries of a start have the ids of its items.
pub start_entries_ids : {Op : Type 0} (t : Name) (items : List (Item Op)) → HoldsIdsOf t items (start_entries t items)
start_entries_ids {Op} t items e i n owner = let m = from_map (as_shared t false) e items i in (m.0, m.1, ap (λ (w : SharedEntry Op). w.id) (sym m.2))

committed_all : {Op : Type 0} (t : Name) (l : List (Item Op)) → commit_all t (start_entries t l) ≡ map (as_shared t true) l
committed_all t [] = refl
committed_all {Op} t (p ∷ l) =
    ap (λ (b : Bool). cond b (as_shared t true p) (as_shared t false p) ∷ commit_all t (start_entries t l)) (eq-names t t refl)
    ∙ ap (λ (w : List (SharedEntry Op)). as_shared t true p ∷ w) (committed_all t l)

-- A list without elements is empty.
nothing : {X : Type 0} (l : List X) → ((x : X) → In x l → ⊥) → l ≡ []
nothing [] n = refl
nothing (x ∷ l) n = absurd (n x (inl refl))

none_turned : {X : Type 0} (l : List X) → reverse l ≡ [] → l ≡ []
none_turned {X} l e = nothing l (λ x i. subst (λ (w : List X). In x w) e (in_reverse x l i))

no_keys : {X : Type 0} (es : List (Name × X)) → keys_of es ≡ [] → es ≡ []
no_keys [] e = refl
no_keys (x ∷ es) e = absurd (subst (λ (w : List Name). In x.0 w) e (inl refl))

module _ {Shape State Op Undo : Type 0} (o : Object Shape State Op Undo) (place : Op → ℕ) (apart : (shape : Shape) → PlacesSwap (rules_of o shape) place) (v : Kept Shape Op) (h : KeepsQuick o place v) (n : IsNew o place v) where
  -- A new Quick has no slot.
  pub no_slots : v.slots.entries ≡ []
  no_slots = no_keys v.slots.entries (none_turned (keys_of v.slots.entries) (ap (λ (b : Brief Op). b.names) n.shown))

  none_open : (shown place v).opened ≡ []
  none_open = ap (λ (b : Brief Op). b.opened) n.shown

  none_done : v.committed ≡ []
  none_done = ap (λ (b : Brief Op). b.done) n.shown

  no_commits : (q : ℕ) → at q v.commits.items ≡ []
  no_commits q = h.commits q ∙ ap (λ (d : List (CommittedTx Op)). ids_at place q (serial_items d)) none_done

  -- A new summary has begun no transaction.
  pub not_begun : (t : Name) → lookup (λ m. t =ⁿ m) v.slots.entries ≡ None
  not_begun t = ap (λ z. lookup (λ m. t =ⁿ m) z) no_slots

  -- The Quick w after a start.
  module _ (t : Name) (items : List (Item Op)) (w : Kept Shape Op) (shape : w.shape ≡ v.shape) (count : w.count ≡ v.count)
      (slots : w.slots.entries ≡ v.slots.entries ++ (t, None) ∷ []) (threads : w.threads.keys ≡ v.threads.keys) (ids : reverse w.ids ≡ map (λ p. p.id) items)
      (shared : w.shared ≡ (v.shape, commit_all t (start_entries t items))) (committed : w.committed ≡ v.committed ++ record { name = t; entries = items } ∷ []) (commits : (q : ℕ) → at q w.commits.items ≡ at q v.commits.items ++ ids_at place q items) where
    abbrev z : Start Op
    z = start_with t items

    slots_are : w.slots.entries ≡ (t, None) ∷ []
    slots_are = slots ∙ ap (λ (l : List (Name × Option (OpenTx (List (Item Op))))). l ++ (t, None) ∷ []) no_slots

    done_are : w.committed ≡ record { name = t; entries = items } ∷ []
    done_are = committed ∙ ap (λ (l : List (CommittedTx Op)). l ++ record { name = t; entries = items } ∷ []) none_done

    shared_are : w.shared.1 ≡ map (as_shared t true) items
    shared_are = ap (λ (l : Shape × List (SharedEntry Op)). l.1) shared ∙ committed_all t items

    opened_are : (shown place w).opened ≡ []
    opened_are = ap (λ (l : List (Name × Option (OpenTx (List (Item Op))))). filled (shown_tx place w.shared.1 w.commits.items) l) slots_are

    started_shown : shown place w ≡ brief place (first (Some z))
    started_shown = same_brief _ _ _ _ _ _ _ _ _ _ (ap (λ (l : List (Name × Option (OpenTx (List (Item Op))))). reverse (keys_of l)) slots_are) ids opened_are shared_are done_are

    commits_are : (q : ℕ) → at q w.commits.items ≡ ids_at place q (serial_items w.committed)
    commits_are q =
        commits q ∙ ap (λ (l : List ℕ). l ++ ids_at place q items) (no_commits q)
        ∙ ap (λ (l : List (Item Op)). ids_at place q l) (sym (append-nil items))
        ∙ ap (λ (d : List (CommittedTx Op)). ids_at place q (serial_items d)) (sym done_are)

    -- A start that meets its criteria is put into a new summary.
    pub started : length items ≤ 256 → All (IsItemAsked o v.shape) items → StartMeets (rules_of o v.shape) (Some z) → PutsStart o place v z w
    started few asked meets =
        record {
          shape = shape;
          count = count;
          shown = started_shown;
          keeps =
              record {
                is_held = (
                  first (Some z),
                  record {
                    boosted = (quick (rules_of o w.shape) place (apart w.shape)).start (Some z) (subst (λ (s : Shape). StartMeets (rules_of o s) (Some z)) (sym shape) meets);
                    is = sym started_shown;
                  },
                );
                names = subst (λ (l : List (Name × Option (OpenTx (List (Item Op))))). (s r : Name) → Before s r (keys_of l) → s ≢ r) (sym slots_are) only_one;
                threads =
                    subst (λ (l : List (BriefTx Op)). AreThreads w.threads.keys (threads_of l)) (sym opened_are)
                    (subst (λ (l : List Name). AreThreads l []) (sym threads) (subst (λ (l : List (BriefTx Op)). AreThreads v.threads.keys (threads_of l)) none_open h.threads));
                fine = subst (λ (l : List (Name × Option (OpenTx (List (Item Op))))). (m : Name) (x : OpenTx (List (Item Op))) → In (m, Some x) l → IsFine o place w.commits.items x) (sym slots_are) none_fine;
                commits = commits_are;
                same_shape = ap (λ (l : Shape × List (SharedEntry Op)). l.0) shared ∙ sym shape;
                ranged = λ a i.
                    let m = from_map (as_shared t true) a items (subst (λ (l : List (SharedEntry Op)). In a l) shared_are i) in
                    subst (λ (e : SharedEntry Op). IsTrue (o.ranged e.op)) (sym m.2) (of_each (IsItemAsked o v.shape) items m.0 asked m.1).1;
                few =
                    let e : length w.shared.1 ≡ length items = ap (λ (l : List (SharedEntry Op)). length l) shared_are ∙ length-map items (as_shared t true) in
                    omega (arith, e, few);
              };
        }
      where
        only_one : (s r : Name) → Before s r (t ∷ []) → s ≢ r
        only_one s r (inl i) = absurd i.1
        only_one s r (inr i) = absurd i

        none_fine : (m : Name) (x : OpenTx (List (Item Op))) → In {A = Name × Option (OpenTx (List (Item Op)))} (m, Some x) ((t, None) ∷ []) → IsFine o place w.commits.items x
        none_fine m x (inl e) = absurd (let k : Some x ≡ None = ap (λ (s : Name × Option (OpenTx (List (Item Op)))). s.1) e in cc)
        none_fine m x (inr i) = absurd i
