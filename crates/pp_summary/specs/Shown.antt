-- Proof machinery: what a Quick keeps, and the brief that it shows.
use Rattle.std.specs.Prelude.{◌≡◌, ◌≢◌, ◌==◌, ◌+◌, ◌≤◌, ℕ, Bool, ◌&&◌, nat_eq, List, [], ◌∷◌}
use Rattle.std.specs.Prelude.{filter, map, reverse, drop, length, is_some, slice_get}
use Rattle.std.specs.Prelude.{Option, None, Some, IsTrue}
use Rattle.std.specs.List.{list_any}
use Rattle.std.specs.Map.{keys_of, lookup}
use Rattle.pp_body.specs.Walks.{HasTaken}
use Rattle.pp_core.specs.declared.entry.Item.{Item}
use Rattle.pp_core.specs.declared.entry.SharedEntry.{SharedEntry}
use Rattle.pp_model.specs.Body.{Call}
use Rattle.pp_model.specs.Config.{Config}
use Rattle.pp_model.specs.Lists.{Before, In}
use Rattle.pp_model.specs.Names.{Name, ◌=ⁿ◌}
use Rattle.pp_model.specs.Serial.{has_id}
use Rattle.pp_model.specs.Sound.{serial_items}
use Rattle.pp_kind.specs.Object.{Object}
use Rattle.pp_summary.specs.Brief.{Brief, BriefTx, any_at, shared_ids}
use Rattle.pp_summary.specs.Held.{Held, IsHeldOf}
use Rattle.pp_summary.specs.declared.parts.OpenTx.{OpenTx}
use Rattle.pp_summary.specs.declared.parts.Parts.{Parts}

-- What is in a slot, if there is one and it is not empty.
abbrev pub in_slot : {A : Type 0} → Option (Option A) → Option A
in_slot None = None
in_slot (Some slot) = slot

-- The open transaction of this name.
abbrev pub open_in : {A : Type 0} → Name → List (Name × Option A) → Option A
open_in t slots = in_slot (lookup (λ n. t =ⁿ n) slots)

-- The views of the transactions in the slots, in their order.
abbrev pub filled : {A B : Type 0} → (Name → A → B) → List (Name × Option A) → List B
filled f [] = []
filled f ((n, None) ∷ slots) = filled f slots
filled f ((n, Some x) ∷ slots) = f n x ∷ filled f slots

abbrev pub ids_or_none : {A : Type 0} → Option (List A) → List A
ids_or_none None = []
ids_or_none (Some items) = items

-- The ids of the commits at a place.
abbrev pub at : ℕ → List (List ℕ) → List ℕ
at place commits = ids_or_none (slice_get commits place)

abbrev pub item_ids : {Op : Type 0} → List (Item Op) → List ℕ
item_ids items = map (λ p. p.id) items

-- The items at a place, and their ids.
abbrev pub items_at : {Op : Type 0} → (Op → ℕ) → ℕ → List (Item Op) → List (Item Op)
items_at place q items = filter (λ p. place p.op == q) items

abbrev pub ids_at : {Op : Type 0} → (Op → ℕ) → ℕ → List (Item Op) → List ℕ
ids_at place q items = item_ids (items_at place q items)

-- What comes after the first k elements, and nothing if there is no k.
abbrev pub ids_behind : {A : Type 0} → Option ℕ → List A → List A
ids_behind None items = []
ids_behind (Some k) items = drop k items

-- How many elements come after the first k, and none if there is no k.
abbrev pub count_behind : {A : Type 0} → Option ℕ → List A → ℕ
count_behind None items = length items
count_behind (Some k) items = length (drop k items)

-- The ids of the commits at a place that were not seen.
abbrev pub unseen_at : ℕ → List (List ℕ) → List (ℕ × ℕ) → List ℕ
unseen_at q commits seen = ids_behind (lookup (nat_eq q) seen) (at q commits)

-- The entry is committed, and its id is among those not seen at its place.
abbrev pub is_unseen : {Op : Type 0} → (Op → ℕ) → List (List ℕ) → List (ℕ × ℕ) → SharedEntry Op →
    Bool
is_unseen place commits seen g =
    g.committed && has_id g.id (unseen_at (place g.op) commits seen)

abbrev pub unseen : {Op : Type 0} → (Op → ℕ) → List (SharedEntry Op) → List (List ℕ) →
    List (ℕ × ℕ) → List ℕ
unseen place G commits seen = shared_ids (filter (is_unseen place commits seen) G)

abbrev pub shown_tx : {Op : Type 0} → (Op → ℕ) → List (SharedEntry Op) → List (List ℕ) →
    Name → OpenTx (List (Item Op)) → BriefTx Op
shown_tx place G commits n x =
    record {
      name = n;
      thread = x.thread;
      body = x.walk.body;
      own = x.own;
      missed = unseen place G commits x.seen.entries;
    }

-- What a Quick keeps, over operations and objects.
abbrev pub Kept : Type 0 → Type 0 → Type 0
Kept Shape Op = Parts Shape Op (Shape × List (SharedEntry Op)) (List (Item Op))

-- The brief that a Quick shows.
abbrev pub shown : {Shape Op : Type 0} → (Op → ℕ) → Kept Shape Op → Brief Op
shown place v =
    record {
      names = reverse (keys_of v.slots.entries);
      ids = reverse v.ids;
      opened = filled (shown_tx place v.shared.1 v.commits.items) v.slots.entries;
      shared = v.shared.1;
      done = v.committed;
    }

-- What contracts see of a Quick.
abbrev pub as_held : {Shape Op : Type 0} → (Op → ℕ) → Kept Shape Op → Held Shape Op
as_held place v = record { shape = v.shape; brief = shown place v; count = v.count }

abbrev pub threads_of : {Op : Type 0} → List (BriefTx Op) → List Name
threads_of opened = map (λ x. x.thread) opened

-- The calls of the items.
abbrev pub calls_of : {Shape State Op Undo : Type 0} → Object Shape State Op Undo →
    List (Item Op) → List Call
calls_of o items = map (λ p. o.call p.op) items

-- No thread is busy twice, and the busy ones are these.
pub record AreThreads (threads busy : List Name) : Type 0 where
  pub apart : (p q : Name) → Before p q busy → p ≢ q
  pub are : (p : Name) → list_any (λ q. p =ⁿ q) threads ≡ list_any (λ q. q =ⁿ p) busy

module _ {Shape State Op Undo : Type 0} (o : Object Shape State Op Undo) (place : Op → ℕ) where
  -- The facts about each open transaction. Its walk has taken its own calls. It has a count of
  -- what it has seen for the places of its own operations, and for no others.
  pub record IsFine (commits : List (List ℕ)) (x : OpenTx (List (Item Op))) : Type 0 where
    pub taken : HasTaken x.walk (calls_of o x.own)
    pub sees : (q : ℕ) → is_some (lookup (nat_eq q) x.seen.entries) ≡ any_at place q x.own
    pub within : (q k : ℕ) → lookup (nat_eq q) x.seen.entries ≡ Some k →
        k ≤ length (at q commits)

  -- The facts about what a Quick keeps.
  pub record KeepsQuick (v : Kept Shape Op) : Type 0 where
    pub is_held : (c : Config Op) × IsHeldOf o place (as_held place v) c
    pub names : (s t : Name) → Before s t (keys_of v.slots.entries) → s ≢ t
    pub threads : AreThreads v.threads.keys (threads_of (shown place v).opened)
    pub fine : (n : Name) (x : OpenTx (List (Item Op))) → In (n, Some x) v.slots.entries →
        IsFine v.commits.items x
    -- The ids of the commits at each place are in commit order.
    pub commits : (q : ℕ) → at q v.commits.items ≡ ids_at place q (serial_items v.committed)
    pub same_shape : v.shared.0 ≡ v.shape
    pub ranged : (g : SharedEntry Op) → In g v.shared.1 → IsTrue (o.ranged g.op)
    pub few : length v.shared.1 ≤ v.count + 256
