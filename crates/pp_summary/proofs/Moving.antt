-- How each record changes what a Quick keeps.
use Rattle.std.specs.Prelude.{◌≡◌, ◌≢◌, ◌==◌, ◌+◌, ◌≤◌, ℕ, suc, nat_eq, Bool, true, false, cond, not, ◌||◌, List, [], ◌∷◌, ◌++◌, filter, length, reverse, is_some, option_map, Option, None, Some, IsTrue}
use Rattle.std.specs.List.{list_any}
use Rattle.std.specs.Map.{keys_of, lookup, set_value}
use Rattle.std.proofs.Common.{refl, sym, ap, subst, ◌∙◌, arith, length-append}
use Rattle.std.proofs.lemmas.List.{length-map, map-append}
use Rattle.std.proofs.lemmas.Option.{same_Some}
use Rattle.std.proofs.lemmas.Bool.{eqb-true}
use mathlib.Core.Logic.{inl, inr}
use Rattle.pp_body.specs.Walks.{HasTaken}
use Rattle.pp_core.specs.declared.entry.CommittedTx.{CommittedTx}
use Rattle.pp_core.specs.declared.entry.Item.{Item}
use Rattle.pp_model.specs.Body.{Tree}
use Rattle.pp_model.specs.Config.{Begin, SharedEntry, as_shared, commit_all, shared_item}
use Rattle.pp_model.specs.Lists.{Before, In}
use Rattle.pp_model.specs.Names.{Name, ◌=ⁿ◌}
use Rattle.pp_model.specs.Sound.{serial_items}
use Rattle.pp_model.proofs.Lists.{from_filter, from_map, in_cases}
use Rattle.pp_model.proofs.Names.{names-true, names_tell}
use Rattle.pp_model.proofs.Commit.{commit}
use Rattle.pp_model.proofs.Trace.{map_same}
use Rattle.pp_model.proofs.Finding.{any_in, in_reverse, reverse_more}
use Rattle.pp_model.proofs.NameLists.{apart_more}
use Rattle.pp_log.specs.Leaving.{without_items}
use Rattle.pp_kind.specs.Object.{Object, rules_of}
use Rattle.pp_records.specs.Records.{RunRecord}
use Rattle.pp_records.specs.Records as records
use Rattle.pp_summary.specs.Boosted.{PlacesSwap}
use Rattle.pp_summary.specs.Brief.{Brief, BriefTx, at_brief, brief_of, brief_then, emptied, grown, missing_more, own_list, any_at, without_brief, without_owner}
use Rattle.pp_summary.specs.Moving.{IsGood, Moves}
use Rattle.pp_summary.specs.Passing.{IsGrown}
use Rattle.pp_summary.specs.Runs.{IsBoosted}
use Rattle.pp_summary.specs.Shown.{AreThreads, KeepsQuick, IsFine, Kept, at, calls_of, filled, as_held, ids_at, in_slot, open_in, shown, shown_tx, threads_of, unseen}
use Rattle.pp_summary.specs.declared.parts.OpenTx.{OpenTx}
use Rattle.pp_summary.proofs.Committed.{ids_append, item_of_id, serial_more}
use Rattle.pp_summary.proofs.Filled.{Apart, among, filled_more, filled_out, filled_set, found_is, in_set, keys_stay}
use Rattle.pp_summary.proofs.OnCommit.{commit_rest}
use Rattle.pp_summary.proofs.HeldOf.{advance, distinct, done_stands, is_owned, names_apart, own_stands, without_is}
use Rattle.pp_summary.proofs.Threads.{threads_less, threads_more}
use Rattle.pp_summary.proofs.Unseen.{unseen_committed, unseen_fewer, unseen_grown, unseen_none, unseen_wider}
use Rattle.pp_laws_summary.proofs.Relog.{map_id, map_map}

-- Briefs with equal parts are equal.
pub same_brief : {Op : Type 0} (a b : List Name) (c d : List ℕ) (e f : List (BriefTx Op)) (g h : List (SharedEntry Op)) (i j : List (CommittedTx Op)) → a ≡ b → c ≡ d → e ≡ f → g ≡ h → i ≡ j
    → ◌≡◌ {A = Brief Op} (record { names = a; ids = c; opened = e; shared = g; done = i }) (record { names = b; ids = d; opened = f; shared = h; done = j })
same_brief {Op} a b c d e f g h i j p q r s t =
    ap (λ (z : List Name). record { names = z; ids = c; opened = e; shared = g; done = i }) p
    ∙ ap (λ (z : List ℕ). record { names = b; ids = z; opened = e; shared = g; done = i }) q
    ∙ ap (λ (z : List (BriefTx Op)). record { names = b; ids = d; opened = z; shared = g; done = i }) r
    ∙ ap (λ (z : List (SharedEntry Op)). record { names = b; ids = d; opened = f; shared = z; done = i }) s
    ∙ ap (λ (z : List (CommittedTx Op)). record { names = b; ids = d; opened = f; shared = h; done = z }) t

-- Transactions of a brief with equal parts are equal.
pub same_tx : {Op : Type 0} (n : Name) (a b : Name) (c d : Option Tree) (e f : List (Item Op)) (g h : List ℕ) → a ≡ b → c ≡ d → e ≡ f → g ≡ h
    → ◌≡◌ {A = BriefTx Op} (record { name = n; thread = a; body = c; own = e; missed = g }) (record { name = n; thread = b; body = d; own = f; missed = h })
same_tx {Op} n a b c d e f g h p q r s =
    ap (λ (z : Name). record { name = n; thread = z; body = c; own = e; missed = g }) p
    ∙ ap (λ (z : Option Tree). record { name = n; thread = b; body = z; own = e; missed = g }) q
    ∙ ap (λ (z : List (Item Op)). record { name = n; thread = b; body = d; own = z; missed = g }) r
    ∙ ap (λ (z : List ℕ). record { name = n; thread = b; body = d; own = f; missed = z }) s

-- If a slot is set twice, the second content counts.
set_twice : {X : Type 0} (t : Name) (es : List (Name × X)) (a b : X) → set_value (λ n. t =ⁿ n) (set_value (λ n. t =ⁿ n) es a) b ≡ set_value (λ n. t =ⁿ n) es b
set_twice t [] a b = refl
set_twice {X} t (e ∷ es) a b = by (t =ⁿ e.0) refl (set_twice t es a b)
  where
    by : (z : Bool) → (t =ⁿ e.0) ≡ z → set_value (λ n. t =ⁿ n) (set_value (λ n. t =ⁿ n) es a) b ≡ set_value (λ n. t =ⁿ n) es b →
        set_value (λ n. t =ⁿ n) (cond z ((e.0, a) ∷ es) (e ∷ set_value (λ n. t =ⁿ n) es a)) b ≡ cond z ((e.0, b) ∷ es) (e ∷ set_value (λ n. t =ⁿ n) es b)
    by true q k = ap (λ (z : Bool). cond z ((e.0, b) ∷ es) ((e.0, a) ∷ set_value (λ n. t =ⁿ n) es b)) q
    by false q k = ap (λ (z : Bool). cond z ((e.0, b) ∷ set_value (λ n. t =ⁿ n) es a) (e ∷ set_value (λ n. t =ⁿ n) (set_value (λ n. t =ⁿ n) es a) b)) q ∙ ap (λ (z : List (Name × X)). e ∷ z) k

filter_short : {X : Type 0} (test : X → Bool) (l : List X) → length (filter test l) ≤ length l
filter_short test [] = omega arith
filter_short {X} test (x ∷ l) = by (test x) (filter_short test l)
  where
    by : (b : Bool) → length (filter test l) ≤ length l → length (cond b (x ∷ filter test l) (filter test l)) ≤ suc (length l)
    by true k = omega arith
    by false k = omega arith

-- A slot with an open transaction is a slot that is not empty.
slot_is : {A : Type 0} (o : Option (Option A)) (x : A) → in_slot o ≡ Some x → o ≡ Some (Some x)
slot_is None x e = absurd (cc)
slot_is (Some s) x e = ap (λ z. Some z) e

module _ {Shape State Op Undo : Type 0} (o : Object Shape State Op Undo) (place : Op → ℕ) (apart : (shape : Shape) → PlacesSwap (rules_of o shape) place) (v : Kept Shape Op) (h : KeepsQuick o place v) where
  abbrev B : Brief Op
  B = shown place v

  abbrev G : List (SharedEntry Op)
  G = v.shared.1

  abbrev commits : List (List ℕ)
  commits = v.commits.items

  abbrev es : List (Name × Option (OpenTx (List (Item Op))))
  es = v.slots.entries

  abbrev show : Name → OpenTx (List (Item Op)) → BriefTx Op
  show = shown_tx place G commits

  named : (G : List (SharedEntry Op)) (cs : List (List ℕ)) (n : Name) (x : OpenTx (List (Item Op))) → (shown_tx place G cs n x).name ≡ n
  named G cs n x = refl

  -- The brief of the open transaction of t is that of the one in the slot of t.
  pub open_is : (t : Name) → brief_of t B.opened ≡ option_map (show t) (open_in t es)
  open_is t = found_is t show show (named G commits) es h.names

  -- An open transaction in a slot is shown under its name in the brief.
  pub open_there : (t : Name) (x : OpenTx (List (Item Op))) → open_in t es ≡ Some x → brief_of t B.opened ≡ Some (show t x)
  open_there t x e = open_is t ∙ ap (option_map (show t)) e

  slot_there : (t : Name) (x : OpenTx (List (Item Op))) → open_in t es ≡ Some x → lookup (λ n. t =ⁿ n) es ≡ Some (Some x)
  slot_there t x e = slot_is (lookup (λ n. t =ⁿ n) es) x e

  -- An open transaction that is found by its name is in its slot.
  in_slot_of : (t : Name) (fs : List (Name × Option (OpenTx (List (Item Op))))) (x : OpenTx (List (Item Op))) → lookup (λ n. t =ⁿ n) fs ≡ Some (Some x) → In (t, Some x) fs
  in_slot_of t [] x e = absurd (cc)
  in_slot_of t ((n, s) ∷ fs) x e = elim (names_tell t n) [
    | inl r ↦
        let k = same_Some s (Some x) (sym (ap (λ (b : Bool). cond b (Some s) (lookup (λ n. t =ⁿ n) fs)) r.0) ∙ e) in
        inl (ap (λ (m : Name). (m, Some x)) r.1 ∙ ap (λ z. (n, z)) (sym k))
    | inr r ↦ inr (in_slot_of t fs x (sym (ap (λ (b : Bool). cond b (Some s) (lookup (λ n. t =ⁿ n) fs)) r.0) ∙ e))
  ]

  -- An open transaction in a slot has the facts that each one keeps.
  pub fine_of : (t : Name) (x : OpenTx (List (Item Op))) → open_in t es ≡ Some x → IsFine o place commits x
  fine_of t x e = h.fine t x (in_slot_of t es x (slot_there t x e))

  moves : (r : RunRecord Op) (w : Kept Shape Op) → IsBoosted r → IsGood o place v r → w.shape ≡ v.shape → w.count ≡ v.count + 1 → shown place w ≡ brief_then place B r → Apart w.slots.entries →
      AreThreads w.threads.keys (threads_of (brief_then place B r).opened) → ((n : Name) (x : OpenTx (List (Item Op))) → In (n, Some x) w.slots.entries → IsFine o place w.commits.items x) →
      ((q : ℕ) → at q w.commits.items ≡ ids_at place q (serial_items w.committed)) → w.shared.0 ≡ v.shape → ((a : SharedEntry Op) → In a w.shared.1 → IsTrue (o.ranged a.op)) →
      length w.shared.1 ≤ v.count + 1 + 256 → Moves o place v r w
  moves r w s g shape count is names threads fine done same ranged few =
      record {
        shape = shape;
        count = count;
        shown = is;
        keeps =
            record {
              is_held = advance o place apart (as_held place v) h.is_held (as_held place w) r shape is s g;
              names = names;
              threads = subst (λ (z : Brief Op). AreThreads w.threads.keys (threads_of z.opened)) (sym is) threads;
              fine = fine;
              commits = done;
              same_shape = same ∙ sym shape;
              ranged = ranged;
              few = omega (arith, few, count);
            };
      }

  -- If the commits and the committed transactions stay the same, the ids at each place are still those of the serial run.
  commits_stay : (w : Kept Shape Op) → w.commits.items ≡ commits → w.committed ≡ v.committed → (q : ℕ) → at q w.commits.items ≡ ids_at place q (serial_items w.committed)
  commits_stay w same done q =
      ap (λ (z : List (List ℕ)). at q z) same ∙ h.commits q ∙ ap (λ (z : List (CommittedTx Op)). ids_at place q (serial_items z)) (sym done)

  -- An id of a commit at a place is that of an item of the serial run there.
  pub committed_there : (q id : ℕ) → In id (at q commits) → (p : Item Op) × In p (serial_items v.committed) × (p.id ≡ id) × (place p.op ≡ q)
  committed_there q id i = item_of_id place (serial_items v.committed) q id (subst (λ (l : List ℕ). In id l) (h.commits q) i)

  -- A change of briefs that keeps their threads keeps the list of threads.
  threads_on : (t : Name) (g : BriefTx Op → BriefTx Op) (l : List (BriefTx Op)) → ((y : BriefTx Op) → (g y).thread ≡ y.thread) → threads_of (at_brief t g l) ≡ threads_of l
  threads_on t g l e = map_map (λ (y : BriefTx Op). y.thread) (λ (y : BriefTx Op). cond (y.name =ⁿ t) (g y) y) l
      ∙ map_same (λ (y : BriefTx Op). (cond (y.name =ⁿ t) (g y) y).thread) (λ (y : BriefTx Op). y.thread) l (λ y i. by y (y.name =ⁿ t))
    where
      by : (y : BriefTx Op) (b : Bool) → (cond b (g y) y).thread ≡ y.thread
      by y true = e y
      by y false = refl

  threads_gone : (t : Name) (x : OpenTx (List (Item Op))) (us : List Name) → open_in t es ≡ Some x → ((q : Name) → list_any (λ z. q =ⁿ z) us ≡ cond (x.thread =ⁿ q) false (list_any (λ z. q =ⁿ z) v.threads.keys)) →
      AreThreads us (threads_of (without_brief t B.opened))
  threads_gone t x us e u =
      let a = among t B.opened (show t x) (names_apart o place apart (as_held place v) h.is_held) (open_there t x e) in
      let cut : threads_of B.opened ≡ threads_of a.before ++ x.thread ∷ threads_of a.after = ap (λ (l : List (BriefTx Op)). threads_of l) a.is ∙ map-append (λ (y : BriefTx Op). y.thread) a.before (show t x ∷ a.after) in
      subst (λ (l : List Name). AreThreads us l) (sym (ap (λ (l : List (BriefTx Op)). threads_of l) a.without ∙ map-append (λ (y : BriefTx Op). y.thread) a.before a.after))
      (threads_less v.threads.keys us (threads_of a.before) (threads_of a.after) x.thread (subst (λ (l : List Name). AreThreads v.threads.keys l) cut h.threads) u)

  names_set : (t : Name) (s : Option (OpenTx (List (Item Op)))) (fs : List (Name × Option (OpenTx (List (Item Op))))) → fs ≡ set_value (λ n. t =ⁿ n) es s → Apart fs
  names_set t s fs e = subst (λ (l : List Name). (a b : Name) → Before a b l → a ≢ b) (sym (ap (λ (z : List (Name × Option (OpenTx (List (Item Op))))). keys_of z) e ∙ keys_stay t es s)) h.names

  keys_set : (t : Name) (s : Option (OpenTx (List (Item Op)))) (fs : List (Name × Option (OpenTx (List (Item Op))))) → fs ≡ set_value (λ n. t =ⁿ n) es s → reverse (keys_of fs) ≡ B.names
  keys_set t s fs e = ap (λ (z : List (Name × Option (OpenTx (List (Item Op))))). reverse (keys_of z)) e ∙ ap (λ (z : List Name). reverse z) (keys_stay t es s)

  -- The facts about each slot after a change of one.
  fine_set : (t : Name) (s : Option (OpenTx (List (Item Op)))) (fs : List (Name × Option (OpenTx (List (Item Op))))) (cs : List (List ℕ)) → fs ≡ set_value (λ n. t =ⁿ n) es s →
      ((x : OpenTx (List (Item Op))) → IsFine o place commits x → IsFine o place cs x) → ((x : OpenTx (List (Item Op))) → s ≡ Some x → IsFine o place cs x) → (n : Name) (x : OpenTx (List (Item Op))) → In (n, Some x) fs → IsFine o place cs x
  fine_set t s fs cs e old new n x i = elim (in_set t es s (n, Some x) (subst (λ (z : List (Name × Option (OpenTx (List (Item Op))))). In (n, Some x) z) e i)) [
    | inl j ↦ old x (h.fine n x j)
    | inr j ↦ new x (sym j)
  ]

  -- A transaction without own operations has the facts that each open one keeps.
  fresh_fine : (cs : List (List ℕ)) (x : OpenTx (List (Item Op))) → HasTaken x.walk [] → x.own ≡ [] → x.seen.entries ≡ [] → IsFine o place cs x
  fresh_fine cs x taken own seen =
      record {
        taken = subst (λ (l : List (Item Op)). HasTaken x.walk (calls_of o l)) (sym own) taken;
        sees = λ q. ap (λ (l : List (ℕ × ℕ)). is_some (lookup (nat_eq q) l)) seen ∙ sym (ap (λ (l : List (Item Op)). any_at place q l) own);
        within = λ q k e. absurd (let z : None ≡ Some k = sym (ap (λ (l : List (ℕ × ℕ)). lookup (nat_eq q) l) seen) ∙ e in cc);
      }

  -- A begin record: the transaction x is put in a new slot.
  module _ (t p : Name) (b : Option Tree) (x : OpenTx (List (Item Op))) (w : Kept Shape Op) (g : IsGood o place v (records.Plain (Begin t p b)))
      (thread : x.thread ≡ p) (body : x.walk.body ≡ b) (taken : HasTaken x.walk []) (own : x.own ≡ []) (seen : x.seen.entries ≡ [])
      (slots : w.slots.entries ≡ es ++ (t, Some x) ∷ []) (busy : (q : Name) → list_any (λ z. q =ⁿ z) w.threads.keys ≡ cond (p =ⁿ q) true (list_any (λ z. q =ⁿ z) v.threads.keys))
      (shape : w.shape ≡ v.shape) (shared : w.shared ≡ v.shared) (ids : w.ids ≡ v.ids) (committed : w.committed ≡ v.committed) (commits_are : w.commits.items ≡ commits) (count : w.count ≡ v.count + 1) where
    keys_are : keys_of w.slots.entries ≡ keys_of es ++ t ∷ []
    keys_are = ap (λ (z : List (Name × Option (OpenTx (List (Item Op))))). keys_of z) slots ∙ map-append (λ (e : Name × Option (OpenTx (List (Item Op)))). e.0) es ((t, Some x) ∷ [])

    begun_shown : shown place w ≡ brief_then place B (records.Plain (Begin t p b))
    begun_shown = same_brief _ _ _ _ _ _ _ _ _ _
        (ap (λ (z : List Name). reverse z) keys_are ∙ reverse_more (keys_of es) t)
        (ap (λ (z : List ℕ). reverse z) ids)
        (ap (λ (z : Shape × List (SharedEntry Op)). filled (shown_tx place z.1 w.commits.items) w.slots.entries) shared
        ∙ ap (λ (z : List (List ℕ)). filled (shown_tx place G z) w.slots.entries) commits_are
        ∙ ap (λ (z : List (Name × Option (OpenTx (List (Item Op))))). filled show z) slots
        ∙ filled_more t show show (named G commits) es t x
        ∙ ap (λ (z : BriefTx Op). filled show es ++ z ∷ []) (same_tx t x.thread p x.walk.body b x.own [] (unseen place G commits x.seen.entries) [] thread body own
        (ap (λ (z : List (ℕ × ℕ)). unseen place G commits z) seen ∙ unseen_none place G commits)))
        (ap (λ (z : Shape × List (SharedEntry Op)). z.1) shared)
        committed

    not_in : In t (keys_of es) → ⊥
    not_in i = g.0 (in_reverse t (keys_of es) i)

    idle : list_any (λ q. q =ⁿ p) (threads_of B.opened) ≡ false
    idle = by (list_any (λ q. q =ⁿ p) (threads_of B.opened)) refl
      where
        by : (z : Bool) → list_any (λ q. q =ⁿ p) (threads_of B.opened) ≡ z → z ≡ false
        by false e = refl
        by true e =
            let r = any_in (λ (q : Name). q =ⁿ p) (threads_of B.opened) e in
            let m = from_map (λ (y : BriefTx Op). y.thread) r.0 B.opened r.1 in
            absurd (g.1 m.0 m.1 (sym m.2 ∙ names-true r.0 p r.2))

    -- A good begin record leads a summary to the brief after it, and keeps the summary's facts.
    pub begun_moves : Moves o place v (records.Plain (Begin t p b)) w
    begun_moves = moves (records.Plain (Begin t p b)) w tt g shape count begun_shown
        (subst (λ (l : List Name). (a c : Name) → Before a c l → a ≢ c) (sym keys_are) (apart_more (keys_of es) t h.names not_in))
        (subst (λ (l : List Name). AreThreads w.threads.keys l) (sym (map-append (λ (y : BriefTx Op). y.thread) B.opened (record { name = t; thread = p; body = b; own = []; missed = [] } ∷ [])))
        (threads_more v.threads.keys (threads_of B.opened) w.threads.keys p h.threads idle busy))
        (λ n y i. elim (in_cases (n, Some y) es ((t, Some x) ∷ []) (subst (λ (z : List (Name × Option (OpenTx (List (Item Op))))). In (n, Some y) z) slots i)) [
          | inl j ↦ subst (λ (z : List (List ℕ)). IsFine o place z y) (sym commits_are) (h.fine n y j)
          | inr (inl j) ↦
              let e : x ≡ y = same_Some x y (ap (λ (z : Name × Option (OpenTx (List (Item Op)))). z.1) (sym j)) in
              subst (λ (z : OpenTx (List (Item Op))). IsFine o place w.commits.items z) e (fresh_fine w.commits.items x taken own seen)
          | inr (inr j) ↦ absurd j
        ])
        (commits_stay w commits_are committed)
        (ap (λ (z : Shape × List (SharedEntry Op)). z.0) shared ∙ h.same_shape)
        (λ a i. h.ranged a (subst (λ (z : Shape × List (SharedEntry Op)). In a z.1) shared i))
        (let e : length w.shared.1 ≡ length G = ap (λ (z : Shape × List (SharedEntry Op)). length z.1) shared in omega (arith, e, h.few))

  -- An op record: the open transaction x becomes y.
  module _ (t : Name) (id : ℕ) (op : Op) (x y : OpenTx (List (Item Op))) (w : Kept Shape Op) (g : IsGood o place v (records.Op t id op)) (asked : IsTrue (o.ranged op)) (found : open_in t es ≡ Some x)
      (grows : IsGrown o place commits x (record { id = id; op = op }) y)
      (slots : w.slots.entries ≡ set_value (λ n. t =ⁿ n) es (Some y)) (shape : w.shape ≡ v.shape)
      (shared : w.shared ≡ (v.shared.0, G ++ as_shared t false (record { id = id; op = op }) ∷ [])) (ids : w.ids ≡ v.ids ++ id ∷ []) (threads : w.threads.keys ≡ v.threads.keys)
      (committed : w.committed ≡ v.committed) (commits_are : w.commits.items ≡ commits) (count : w.count ≡ v.count + 1) where
    abbrev p : Item Op
    p = record { id = id; op = op }

    abbrev more : List (SharedEntry Op)
    more = G ++ as_shared t false (record { id = id; op = op }) ∷ []

    log_is : w.shared.1 ≡ more
    log_is = ap (λ (z : Shape × List (SharedEntry Op)). z.1) shared

    grown_shown : shown place w ≡ brief_then place B (records.Op t id op)
    grown_shown = same_brief _ _ _ _ _ _ _ _ _ _
        (keys_set t (Some y) w.slots.entries slots)
        (ap (λ (z : List ℕ). reverse z) ids ∙ reverse_more v.ids id)
        (ap (λ (z : List (SharedEntry Op)). filled (shown_tx place z w.commits.items) w.slots.entries) log_is
        ∙ ap (λ (z : List (List ℕ)). filled (shown_tx place more z) w.slots.entries) commits_are
        ∙ ap (λ (z : List (Name × Option (OpenTx (List (Item Op))))). filled (shown_tx place more commits) z) slots
        ∙ filled_set t show (shown_tx place more commits) (named G commits) (grown place G id op) x y es h.names (slot_there t x found)
        (same_tx t y.thread x.thread y.walk.body x.walk.body y.own (x.own ++ p ∷ []) (unseen place more commits y.seen.entries) _ grows.thread grows.body grows.own
        (unseen_wider place G commits y.seen.entries t p ∙ unseen_grown place G commits x.seen.entries y.seen.entries op (distinct o place apart (as_held place v) h.is_held) grows.seen))
        (λ n z i q. same_tx n z.thread z.thread z.walk.body z.walk.body z.own z.own (unseen place more commits z.seen.entries) (unseen place G commits z.seen.entries) refl refl refl (unseen_wider place G commits z.seen.entries t p)))
        log_is
        committed

    grown_fine : IsFine o place commits y
    grown_fine =
        let f = fine_of t x found in
        record {
          taken = subst (λ (l : List (Item Op)). HasTaken y.walk (calls_of o l)) (sym grows.own)
              (subst (λ l. HasTaken y.walk l) (sym (map-append (λ (q : Item Op). o.call q.op) x.own (p ∷ []))) (grows.taken (calls_of o x.own) f.taken));
          sees = λ q. ap (λ m. is_some m) (grows.seen q) ∙ by q (place op == q) refl ∙ sym (ap (λ (l : List (Item Op)). any_at place q l) grows.own ∙ any_at_more q x.own);
          within = λ q k e. at_most q k (place op == q) refl (sym (grows.seen q) ∙ e);
        }
      where
        any_at_more : (q : ℕ) (l : List (Item Op)) → any_at place q (l ++ p ∷ []) ≡ ((place op == q) || any_at place q l)
        any_at_more q [] = refl
        any_at_more q (a ∷ l) = ap (λ (b : Bool). (place a.op == q) || b) (any_at_more q l) ∙ swap (place a.op == q) (place op == q) (any_at place q l)
          where
            swap : (a b c : Bool) → (a || (b || c)) ≡ (b || (a || c))
            swap true true c = refl
            swap true false c = refl
            swap false b c = refl

        by : (q : ℕ) (b : Bool) → (place op == q) ≡ b → is_some (cond (nat_eq (place op) q) (Some (length (at (place op) commits))) (lookup (nat_eq q) x.seen.entries)) ≡ ((place op == q) || any_at place q x.own)
        by q true e = ap (λ (b : Bool). is_some (cond b (Some (length (at (place op) commits))) (lookup (nat_eq q) x.seen.entries))) e ∙ sym (ap (λ (b : Bool). b || any_at place q x.own) e)
        by q false e = ap (λ (b : Bool). is_some (cond b (Some (length (at (place op) commits))) (lookup (nat_eq q) x.seen.entries))) e ∙ (fine_of t x found).sees q ∙ sym (ap (λ (b : Bool). b || any_at place q x.own) e)

        at_most : (q k : ℕ) (b : Bool) → (place op == q) ≡ b → cond (nat_eq (place op) q) (Some (length (at (place op) commits))) (lookup (nat_eq q) x.seen.entries) ≡ Some k → k ≤ length (at q commits)
        at_most q k true e m =
            let same : place op ≡ q = eqb-true (place op) q e in
            let n : length (at (place op) commits) ≡ k = same_Some (length (at (place op) commits)) k (sym (ap (λ (b : Bool). cond b (Some (length (at (place op) commits))) (lookup (nat_eq q) x.seen.entries)) e) ∙ m) in
            let l : length (at (place op) commits) ≡ length (at q commits) = ap (λ (z : ℕ). length (at z commits)) same in
            omega arith
        at_most q k false e m = (fine_of t x found).within q k (sym (ap (λ (b : Bool). cond b (Some (length (at (place op) commits))) (lookup (nat_eq q) x.seen.entries)) e) ∙ m)

    -- A good op record leads a summary to the brief after it, and keeps the summary's facts.
    pub grown_moves : Moves o place v (records.Op t id op) w
    grown_moves = moves (records.Op t id op) w tt g shape count grown_shown (names_set t (Some y) w.slots.entries slots)
        (subst (λ (l : List Name). AreThreads l (threads_of (at_brief t (grown place G id op) B.opened))) (sym threads)
        (subst (λ (l : List Name). AreThreads v.threads.keys l) (sym (threads_on t (grown place G id op) B.opened (λ z. refl))) h.threads))
        (fine_set t (Some y) w.slots.entries w.commits.items slots (λ z k. subst (λ (c : List (List ℕ)). IsFine o place c z) (sym commits_are) k)
        (λ z e. subst (λ (c : List (List ℕ)). IsFine o place c z) (sym commits_are) (subst (λ (u : OpenTx (List (Item Op))). IsFine o place commits u) (same_Some y z e) grown_fine)))
        (commits_stay w commits_are committed)
        (ap (λ (z : Shape × List (SharedEntry Op)). z.0) shared ∙ h.same_shape)
        (λ a i. elim (in_cases a G (as_shared t false p ∷ []) (subst (λ (z : List (SharedEntry Op)). In a z) log_is i)) [
          | inl j ↦ h.ranged a j
          | inr (inl j) ↦ subst (λ (z : SharedEntry Op). IsTrue (o.ranged z.op)) (sym j) asked
          | inr (inr j) ↦ absurd j
        ])
        (let e : length w.shared.1 ≡ length more = ap (λ (z : List (SharedEntry Op)). length z) log_is in
        let l : length more ≡ length G + 1 = length-append G (as_shared t false p ∷ []) in omega (arith, e, l, h.few))

  -- A commit record: the slot of the open transaction x is emptied.
  module _ (t : Name) (x : OpenTx (List (Item Op))) (w : Kept Shape Op) (g : IsGood o place v (records.Commit t)) (found : open_in t es ≡ Some x)
      (slots : w.slots.entries ≡ set_value (λ n. t =ⁿ n) es None) (busy : (q : Name) → list_any (λ z. q =ⁿ z) w.threads.keys ≡ cond (x.thread =ⁿ q) false (list_any (λ z. q =ⁿ z) v.threads.keys))
      (shape : w.shape ≡ v.shape) (shared : w.shared ≡ (v.shared.0, commit_all t G)) (ids : w.ids ≡ v.ids)
      (grow : (q : ℕ) → at q w.commits.items ≡ at q commits ++ ids_at place q x.own)
      (committed : w.committed ≡ v.committed ++ record { name = t; entries = x.own } ∷ []) (count : w.count ≡ v.count + 1) where
    all_is : w.shared.1 ≡ commit_all t G
    all_is = ap (λ (z : Shape × List (SharedEntry Op)). z.1) shared

    here : brief_of t B.opened ≡ Some (show t x)
    here = open_there t x found

    other_missed : (n : Name) (z : OpenTx (List (Item Op))) → In (n, Some z) es → n ≢ t → shown_tx place (commit_all t G) w.commits.items n z ≡ missing_more place G t (show n z)
    other_missed n z i q =
        let f = h.fine n z i in
        same_tx n z.thread z.thread z.walk.body z.walk.body z.own z.own (unseen place (commit_all t G) w.commits.items z.seen.entries) _ refl refl refl
        (unseen_committed place G commits w.commits.items z.seen.entries t z.own x.own (distinct o place apart (as_held place v) h.is_held)
        (is_owned o place apart (as_held place v) h.is_held t (show t x) here) (own_stands o place apart (as_held place v) h.is_held t (show t x) here) f.sees f.within grow
        (λ q id j. let k = committed_there q id j in let s = done_stands o place apart (as_held place v) h.is_held k.0 k.1 in (as_shared s.0 true k.0, s.1, refl, k.2)))

    committed_shown : shown place w ≡ brief_then place B (records.Commit t)
    committed_shown = same_brief _ _ _ _ _ _ _ _ _ _
        (keys_set t None w.slots.entries slots)
        (ap (λ (z : List ℕ). reverse z) ids)
        (ap (λ (z : List (SharedEntry Op)). filled (shown_tx place z w.commits.items) w.slots.entries) all_is
        ∙ ap (λ (z : List (Name × Option (OpenTx (List (Item Op))))). filled (shown_tx place (commit_all t G) w.commits.items) z) slots
        ∙ filled_out t show (shown_tx place (commit_all t G) w.commits.items) (named G commits) (missing_more place G t) es h.names other_missed)
        all_is
        (committed ∙ ap (λ z. v.committed ++ record { name = t; entries = own_list z } ∷ []) (sym here))

    serial_is : serial_items w.committed ≡ serial_items v.committed ++ x.own
    serial_is = ap (λ (z : List (CommittedTx Op)). serial_items z) committed ∙ serial_more v.committed (record { name = t; entries = x.own })

    -- A good commit record leads a summary to the brief after it, and keeps the summary's facts.
    pub committed_moves : Moves o place v (records.Commit t) w
    committed_moves = moves (records.Commit t) w tt g shape count committed_shown (names_set t None w.slots.entries slots)
        (subst (λ (l : List Name). AreThreads w.threads.keys l) (sym (map_map (λ (y : BriefTx Op). y.thread) (missing_more place G t) (without_brief t B.opened))) (threads_gone t x w.threads.keys found busy))
        (fine_set t None w.slots.entries w.commits.items slots
        (λ z k. record {
          taken = k.taken;
          sees = k.sees;
          within = λ q n e.
              let a : n ≤ length (at q commits) = k.within q n e in
              let b : length (at q w.commits.items) ≡ length (at q commits) + length (ids_at place q x.own) = ap (λ (l : List ℕ). length l) (grow q) ∙ length-append (at q commits) (ids_at place q x.own) in
              omega arith;
        })
        (λ z e. absurd (cc)))
        (λ q. grow q ∙ ap (λ (l : List ℕ). l ++ ids_at place q x.own) (h.commits q) ∙ sym (ids_append place q (serial_items v.committed) x.own) ∙ ap (λ (l : List (Item Op)). ids_at place q l) (sym serial_is))
        (ap (λ (z : Shape × List (SharedEntry Op)). z.0) shared ∙ h.same_shape)
        (λ a i.
        let m = from_map (commit t) a G (subst (λ (z : List (SharedEntry Op)). In a z) all_is i) in
        subst (λ (z : Op). IsTrue (o.ranged z)) (sym (ap (λ (z : SharedEntry Op). z.op) m.2 ∙ (commit_rest t m.0).1)) (h.ranged m.0 m.1))
        (let e : length w.shared.1 ≡ length (commit_all t G) = ap (λ (z : List (SharedEntry Op)). length z) all_is in
        let l : length (commit_all t G) ≡ length G = length-map G (commit t) in omega (arith, e, l, h.few))

  -- The entries of t leave the shared log.
  module _ (t : Name) (x : OpenTx (List (Item Op))) (found : open_in t es ≡ Some x) (w : Kept Shape Op) (shared : w.shared ≡ (v.shared.0, without_items shared_item x.own G)) where
    left_is : w.shared.1 ≡ without_owner t G
    left_is = ap (λ (z : Shape × List (SharedEntry Op)). z.1) shared ∙ without_is o place apart (as_held place v) h.is_held t (show t x) (open_there t x found)

    less : length w.shared.1 ≤ length G
    less = let e : length w.shared.1 ≡ length (without_owner t G) = ap (λ (z : List (SharedEntry Op)). length z) left_is in
        let l = filter_short (λ (a : SharedEntry Op). not (a.owner =ⁿ t)) G in omega (arith, e, l)

    left_ranged : (a : SharedEntry Op) → In a w.shared.1 → IsTrue (o.ranged a.op)
    left_ranged a i = h.ranged a (from_filter (λ (b : SharedEntry Op). not (b.owner =ⁿ t)) a G (subst (λ (z : List (SharedEntry Op)). In a z) left_is i)).0

    same_missed : (n : Name) (z : OpenTx (List (Item Op))) → shown_tx place (without_owner t G) commits n z ≡ show n z
    same_missed n z = same_tx n z.thread z.thread z.walk.body z.walk.body z.own z.own (unseen place (without_owner t G) commits z.seen.entries) (unseen place G commits z.seen.entries) refl refl refl
        (unseen_fewer place G commits z.seen.entries t (λ a i e. ap (λ (c : SharedEntry Op). c.committed) (is_owned o place apart (as_held place v) h.is_held t (show t x) (open_there t x found) a i e).2))

    -- An abort record: the slot of t is emptied.
    module _ (g : IsGood o place v (records.Abort t)) (slots : w.slots.entries ≡ set_value (λ n. t =ⁿ n) es None)
        (busy : (q : Name) → list_any (λ z. q =ⁿ z) w.threads.keys ≡ cond (x.thread =ⁿ q) false (list_any (λ z. q =ⁿ z) v.threads.keys))
        (shape : w.shape ≡ v.shape) (ids : w.ids ≡ v.ids) (committed : w.committed ≡ v.committed) (commits_are : w.commits.items ≡ commits) (count : w.count ≡ v.count + 1) where
      aborted_shown : shown place w ≡ brief_then place B (records.Abort t)
      aborted_shown = same_brief _ _ _ _ _ _ _ _ _ _
          (keys_set t None w.slots.entries slots)
          (ap (λ (z : List ℕ). reverse z) ids)
          (ap (λ (z : List (SharedEntry Op)). filled (shown_tx place z w.commits.items) w.slots.entries) left_is
          ∙ ap (λ (z : List (List ℕ)). filled (shown_tx place (without_owner t G) z) w.slots.entries) commits_are
          ∙ ap (λ (z : List (Name × Option (OpenTx (List (Item Op))))). filled (shown_tx place (without_owner t G) commits) z) slots
          ∙ filled_out t show (shown_tx place (without_owner t G) commits) (named G commits) (λ y. y) es h.names (λ n z i q. same_missed n z)
          ∙ map_id (λ (y : BriefTx Op). y) (without_brief t B.opened) (λ y i. refl))
          left_is
          committed

      -- A good abort record leads a summary to the brief after it, and keeps the summary's facts.
      pub aborted_moves : Moves o place v (records.Abort t) w
      aborted_moves = moves (records.Abort t) w tt g shape count aborted_shown (names_set t None w.slots.entries slots) (threads_gone t x w.threads.keys found busy)
          (fine_set t None w.slots.entries w.commits.items slots (λ z k. subst (λ (c : List (List ℕ)). IsFine o place c z) (sym commits_are) k) (λ z e. absurd (cc)))
          (commits_stay w commits_are committed)
          (ap (λ (z : Shape × List (SharedEntry Op)). z.0) shared ∙ h.same_shape)
          left_ranged
          (omega (arith, less, h.few))

    -- A retry record: the slot of t gets the transaction as it began.
    module _ (g : IsGood o place v (records.Retry t)) (y : OpenTx (List (Item Op))) (slots : w.slots.entries ≡ set_value (λ n. t =ⁿ n) (set_value (λ n. t =ⁿ n) es None) (Some y))
        (thread : y.thread ≡ x.thread) (body : y.walk.body ≡ x.walk.body) (taken : HasTaken y.walk []) (own : y.own ≡ []) (seen : y.seen.entries ≡ []) (threads : w.threads.keys ≡ v.threads.keys)
        (shape : w.shape ≡ v.shape) (ids : w.ids ≡ v.ids) (committed : w.committed ≡ v.committed) (commits_are : w.commits.items ≡ commits) (count : w.count ≡ v.count + 1) where
      again_is : w.slots.entries ≡ set_value (λ n. t =ⁿ n) es (Some y)
      again_is = slots ∙ set_twice t es None (Some y)

      retried_shown : shown place w ≡ brief_then place B (records.Retry t)
      retried_shown = same_brief _ _ _ _ _ _ _ _ _ _
          (keys_set t (Some y) w.slots.entries again_is)
          (ap (λ (z : List ℕ). reverse z) ids)
          (ap (λ (z : List (SharedEntry Op)). filled (shown_tx place z w.commits.items) w.slots.entries) left_is
          ∙ ap (λ (z : List (List ℕ)). filled (shown_tx place (without_owner t G) z) w.slots.entries) commits_are
          ∙ ap (λ (z : List (Name × Option (OpenTx (List (Item Op))))). filled (shown_tx place (without_owner t G) commits) z) again_is
          ∙ filled_set t show (shown_tx place (without_owner t G) commits) (named G commits) emptied x y es h.names (slot_there t x found)
          (same_tx t y.thread x.thread y.walk.body x.walk.body y.own [] (unseen place (without_owner t G) commits y.seen.entries) [] thread body own
          (ap (λ (z : List (ℕ × ℕ)). unseen place (without_owner t G) commits z) seen ∙ unseen_none place (without_owner t G) commits))
          (λ n z i q. same_missed n z))
          left_is
          committed

      -- A good retry record leads a summary to the brief after it, and keeps the summary's facts.
      pub retried_moves : Moves o place v (records.Retry t) w
      retried_moves = moves (records.Retry t) w tt g shape count retried_shown (names_set t (Some y) w.slots.entries again_is)
          (subst (λ (l : List Name). AreThreads l (threads_of (at_brief t emptied B.opened))) (sym threads)
          (subst (λ (l : List Name). AreThreads v.threads.keys l) (sym (threads_on t emptied B.opened (λ z. refl))) h.threads))
          (fine_set t (Some y) w.slots.entries w.commits.items again_is (λ z k. subst (λ (c : List (List ℕ)). IsFine o place c z) (sym commits_are) k)
          (λ z e. subst (λ (u : OpenTx (List (Item Op))). IsFine o place w.commits.items u) (same_Some y z e) (fresh_fine w.commits.items y taken own seen)))
          (commits_stay w commits_are committed)
          (ap (λ (z : Shape × List (SharedEntry Op)). z.0) shared ∙ h.same_shape)
          left_ranged
          (omega (arith, less, h.few))
