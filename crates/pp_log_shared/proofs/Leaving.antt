-- Entries that leave the shared log together.
use Rattle.std.proofs.Common.{◌≡◌, ◌==◌, ℕ, zero, suc, ◌<◌, ◌≤◌, ◌+◌, Bool, true, false, cond, not, ◌||◌, ◌⊎◌, nat_lt}
use Rattle.std.proofs.Common.{List, [], ◌∷◌, ◌++◌, filter, length, map, take, drop, get_or, position}
use Rattle.std.proofs.Common.{refl, sym, ◌∙◌, ap, subst, arith, inl, inr, None, Some}
use Rattle.std.specs.List.{position_or_len, slice_get}
use Rattle.std.proofs.lemmas.Bool.{eq-eqb, eqb-true, false_from_ne_true}
use Rattle.std.proofs.lemmas.List.{take_more}
use Rattle.std.proofs.lemmas.List.Sums.{fails_before_first}
use Rattle.std.proofs.lemmas.Option.{get_or_from_slice_get}
use Rattle.pp_core.specs.declared.entry.Item.{Item}
use Rattle.pp_core.specs.declared.entry.SharedEntry.{SharedEntry}
use Rattle.pp_model.specs.Config.{shared_item}
use Rattle.pp_model.specs.Lists.{Before, In}
use Rattle.pp_model.specs.Object.{HasDistinctIds}
use Rattle.pp_model.specs.Serial.{has_id}
use Rattle.pp_model.proofs.Lists.{before_across, before_from_map, before_in_second, before_map, from_map, in_right}
use Rattle.pp_model.proofs.Finding.{stands_in}
use Rattle.pp_log.specs.Leaving.{MayLeave, without_items}
use Rattle.pp_log.specs.Room.{ids_of}
use Rattle.pp_log.proofs.Leaving.{without_none}
use Rattle.pp_log.proofs.Lists.{cut_there}
use Rattle.pp_kind.specs.declared.part.Part.{Part}
use Rattle.pp_kind.specs.Object.{Object}
use Rattle.pp_log_shared.specs.Blocking.{IsSettled}
use Rattle.pp_log_shared.specs.Uncommitted.{LeavesOut, LosesAt, is_open_in}
use Rattle.pp_log_shared.proofs.Committing.{nowhere, same_entry, somewhere}
use Rattle.pp_log_shared.proofs.Uncommitted.{loses_first, loses_later}

-- the ids of items
or_none : (a : Bool) → (a || false) ≡ a
or_none true = refl
or_none false = refl

or_last : (b : Bool) → (b || true) ≡ true
or_last true = refl
or_last false = refl

or_assoc : (a b c : Bool) → (a || (b || c)) ≡ ((a || b) || c)
or_assoc true b c = refl
or_assoc false b c = refl

has_last : {Op : Type 0} (j : ℕ) (x : List (Item Op)) (p : Item Op) → has_id j (ids_of (x ++ p ∷ [])) ≡ (has_id j (ids_of x) || (p.id == j))
has_last j [] p = or_none (p.id == j)
has_last j (q ∷ x) p = ap (λ (b : Bool). (q.id == j) || b) (has_last j x p) ∙ or_assoc (q.id == j) (has_id j (ids_of x)) (p.id == j)

from_has : {Op : Type 0} (j : ℕ) (x : List (Item Op)) → has_id j (ids_of x) ≡ true → (q : Item Op) × In q x × (q.id ≡ j)
from_has j [] h = cc
from_has {Op} j (p ∷ x) h = by (p.id == j) refl h (λ k. from_has j x k)
  where
    by : (b : Bool) → (p.id == j) ≡ b → (b || has_id j (ids_of x)) ≡ true → (has_id j (ids_of x) ≡ true → (q : Item Op) × In q x × (q.id ≡ j)) → (q : Item Op) × In q (p ∷ x) × (q.id ≡ j)
    by true e k later = (p, inl refl, eqb-true p.id j e)
    by false e k later = let r = later k in (r.0, inr r.1, r.2)

is_false : (b : Bool) → (b ≡ true → ⊥) → b ≡ false
is_false true h = absurd (h refl)
is_false false h = refl

-- those that pass one test and those that pass another, which tells of one entry more
filter_same : {E : Type 0} (keep less : E → Bool) (x : List E) → ((d : E) → In d x → less d ≡ keep d) → filter less x ≡ filter keep x
filter_same keep less [] same = refl
filter_same {E} keep less (a ∷ x) same =
    ap (λ (b : Bool). cond b (a ∷ filter less x) (filter less x)) (same a (inl refl))
    ∙ ap (λ (z : List E). cond (keep a) (a ∷ z) z) (filter_same keep less x (λ d inside. same d (inr inside)))

loses_kept : {E : Type 0} (test keep less : E → Bool) (key : E → ℕ) (e : E) → keep e ≡ true → less e ≡ false → ((d : E) → (key d ≡ key e → ⊥) → less d ≡ keep d) → (x : List E) → ((p q : E) → Before p q x → key p ≡ key q → ⊥) → In e x → LosesAt e (test e) (filter test (filter keep x)) (filter test (filter less x))
loses_kept test keep less key e kept left others [] distinct inside = absurd inside
loses_kept {E} test keep less key e kept left others (a ∷ x) distinct (inl here) =
    let rest : filter less x ≡ filter keep x = filter_same keep less x (λ d inside. others d (λ one. distinct a d (inl (refl, inside)) (ap key (sym here) ∙ sym one))) in
    let old : filter keep (a ∷ x) ≡ a ∷ filter keep x = ap (λ (b : Bool). cond b (a ∷ filter keep x) (filter keep x)) (ap keep (sym here) ∙ kept) in
    let new : filter less (a ∷ x) ≡ filter keep x = ap (λ (b : Bool). cond b (a ∷ filter less x) (filter less x)) (ap less (sym here) ∙ left) ∙ rest in
    let first : LosesAt e (test e) (filter test (a ∷ filter keep x)) (filter test (filter keep x)) = subst (λ (d : E). LosesAt d (test d) (filter test (a ∷ filter keep x)) (filter test (filter keep x))) (sym here) (loses_first (test a) a (filter test (filter keep x))) in
    subst (λ (z : List E). LosesAt e (test e) (filter test z) (filter test (filter less (a ∷ x)))) (sym old)
    (subst (λ (z : List E). LosesAt e (test e) (filter test (a ∷ filter keep x)) (filter test z)) (sym new) first)
loses_kept {E} test keep less key e kept left others (a ∷ x) distinct (inr later) =
    subst (λ (b : Bool). LosesAt e (test e) (filter test (filter keep (a ∷ x))) (filter test (cond b (a ∷ filter less x) (filter less x)))) (sym (others a (λ one. distinct a e (inl (refl, later)) one)))
    (by (keep a) (loses_kept test keep less key e kept left others x (λ p q before. distinct p q (inr before)) later))
  where
    by : (b : Bool) → LosesAt e (test e) (filter test (filter keep x)) (filter test (filter less x)) → LosesAt e (test e) (filter test (cond b (a ∷ filter keep x) (filter keep x))) (filter test (cond b (a ∷ filter less x) (filter less x)))
    by true h = loses_later e (test e) (test a) a (filter test (filter keep x)) (filter test (filter less x)) h
    by false h = h

-- the front of which each entry passes
front_kept : {E : Type 0} (keep : E → Bool) (x : List E) (m : ℕ) → m ≤ length x → ((j : ℕ) (e : E) → j < m → slice_get x j ≡ Some e → keep e ≡ true) → (m ≤ length (filter keep x)) × ((j : ℕ) → j < m → slice_get (filter keep x) j ≡ slice_get x j)
front_kept keep x zero h all = (omega arith, λ j below. absurd (omega arith))
front_kept keep [] (suc m) h all = absurd (omega arith)
front_kept {E} keep (a ∷ x) (suc m) h all =
    let first : filter keep (a ∷ x) ≡ a ∷ filter keep x = ap (λ (b : Bool). cond b (a ∷ filter keep x) (filter keep x)) (all 0 a (omega arith) refl) in
    let rest = front_kept keep x m (omega arith) (λ j e below at. all (suc j) e (omega arith) at) in
    let size = rest.0 in
    subst (λ (z : List E). (suc m ≤ length z) × ((j : ℕ) → j < suc m → slice_get z j ≡ slice_get (a ∷ x) j)) (sym first) (omega arith, by rest.1)
  where
    by : ((j : ℕ) → j < m → slice_get (filter keep x) j ≡ slice_get x j) → (j : ℕ) → j < suc m → slice_get (a ∷ filter keep x) j ≡ slice_get (a ∷ x) j
    by same zero below = refl
    by same (suc j) below = same j (omega arith)

-- what stands before the entry of a position stands at one before
before_at : {E : Type 0} (key : E → ℕ) (x : List E) → ((p q : E) → Before p q x → key p ≡ key q → ⊥) → (a b : E) (j : ℕ) → Before a b x → slice_get x j ≡ Some b → (i : ℕ) × (i < j) × (slice_get x i ≡ Some a)
before_at key [] distinct a b j before at = absurd before
before_at {E} key (c ∷ x) distinct a b zero before at =
    let one : c ≡ b = cc in
    let inside : In b x = elim before [ inl first ↦ first.1 | inr later ↦ before_in_second a b x later ] in
    absurd (distinct c b (inl (refl, inside)) (ap key one))
before_at {E} key (c ∷ x) distinct a b (suc j) (inl first) at = (0, omega arith, ap (λ (d : E). Some d) (sym first.0))
before_at key (c ∷ x) distinct a b (suc j) (inr later) at =
    let r = before_at key x (λ p q before. distinct p q (inr before)) a b j later at in
    let below = r.1 in
    (suc r.0, omega arith, r.2)

-- none is the first
pub settled_none : {Op : Type 0} (own : List (Item Op)) (x : List (SharedEntry Op)) (settled : ℕ) → slice_get own 0 ≡ None → IsSettled x settled → IsSettled (without_items shared_item own x) settled
settled_none {Op} [] x settled none h = subst (λ (z : List (SharedEntry Op)). IsSettled z settled) (sym (without_none shared_item x)) h
settled_none (p ∷ own) x settled none h = cc

-- The element at a position of a list is in the list.
pub item_in : {E : Type 0} (x : List E) (i : ℕ) (a : E) → i < length x → a ≡ get_or x i a → In a x
item_in {E} x i a within is = subst (λ (z : List E). In a z) (sym (cut_there x i a within is)) (in_right a (take i x) (a ∷ drop (i + 1) x) (inl refl))

-- where there is no entry there is none of these items
pub none_own : {Shape State Op Undo : Type 0} (o : Object Shape State Op Undo) (own : List (Item Op)) (log : List (SharedEntry Op)) → MayLeave o own (map shared_item log) → length log ≡ 0 → length own ≡ 0
none_own o [] log may none = refl
none_own o (p ∷ own) [] may none = absurd (may.stand p (inl refl))
none_own o (p ∷ own) (e ∷ log) may none = absurd (omega arith)

place_is : (n k : ℕ) (b : Bool) → cond b (Some n) None ≡ Some k → n ≡ k
place_is n k true h = cc
place_is n k false h = absurd (cc)

first_or_behind : {E : Type 0} (x : List E) (a b : E) → slice_get x 0 ≡ Some a → In b x → (b ≡ a) ⊎ Before a b x
first_or_behind [] a b first inside = absurd inside
first_or_behind (c ∷ x) a b first inside =
    let same : c ≡ a = cc in
    elim inside [ inl here ↦ inl (here ∙ same) | inr later ↦ inr (inl (sym same, later)) ]

-- Items that may leave the log.
module _ {Shape State Op Undo : Type 0} (o : Object Shape State Op Undo) (own : List (Item Op)) (log : List (SharedEntry Op)) (distinct : HasDistinctIds (map shared_item log)) (may : MayLeave o own (map shared_item log)) where
  ids_apart : (p q : SharedEntry Op) → Before p q log → p.id ≡ q.id → ⊥
  ids_apart p q before is = distinct (shared_item p) (shared_item q) (before_map shared_item p q log before) is

  stands : (p : Item Op) → In p own → (e : SharedEntry Op) × In e log × (p ≡ shared_item e)
  stands p inside = from_map shared_item p log (may.stand p inside)

  -- each is found
  pub is_found : (p : Item Op) → In p own → position (λ e. e.id == p.id) log ≡ None → ⊥
  is_found p inside none =
      let r = stands p inside in
      let yes : ((r.0).id == p.id) ≡ true = eq-eqb (r.0).id p.id (ap (λ (q : Item Op). q.id) (sym r.2)) in
      let no : true ≡ false = sym yes ∙ nowhere (λ (e : SharedEntry Op). e.id == p.id) log none r.0 r.1 in cc

  -- The i-th one is p, which stands as the entry e.
  module _ (i : ℕ) (p : Item Op) (within : i < length own) (is : p ≡ get_or own i p) (k : ℕ) (found : position (λ e. e.id == p.id) log ≡ Some k) (e : SharedEntry Op) (at : slice_get log k ≡ Some e) where
    next : take (i + 1) own ≡ take i own ++ p ∷ []
    next = take_more own i p within ∙ ap (λ (q : Item Op). take i own ++ q ∷ []) (sym is)

    own_is : own ≡ take i own ++ p ∷ drop (i + 1) own
    own_is = cut_there own i p within is

    here : e.id ≡ p.id
    here = eqb-true e.id p.id (somewhere (λ (g : SharedEntry Op). g.id == p.id) log k e found at)

    -- it is none of the items before
    not_yet : has_id e.id (ids_of (take i own)) ≡ false
    not_yet = is_false (has_id e.id (ids_of (take i own))) (λ h.
        let q = from_has e.id (take i own) h in
        let before : Before q.0 p own = subst (λ (z : List (Item Op)). Before q.0 p z) (sym own_is) (before_across q.0 p (take i own) (p ∷ drop (i + 1) own) q.1 (inl refl)) in
        distinct q.0 p (may.order q.0 p before) (q.2 ∙ here))

    out_now : has_id e.id (ids_of (take i own ++ p ∷ [])) ≡ true
    out_now = has_last e.id (take i own) p ∙ ap (λ (b : Bool). has_id e.id (ids_of (take i own)) || b) (eq-eqb p.id e.id (sym here)) ∙ or_last (has_id e.id (ids_of (take i own)))

    others : (d : SharedEntry Op) → (d.id ≡ e.id → ⊥) → has_id d.id (ids_of (take i own ++ p ∷ [])) ≡ has_id d.id (ids_of (take i own))
    others d apart = has_last d.id (take i own) p
        ∙ ap (λ (b : Bool). has_id d.id (ids_of (take i own)) || b) (false_from_ne_true (p.id == d.id) (λ t. apart (sym (eqb-true p.id d.id t) ∙ sym here)))
        ∙ or_none (has_id d.id (ids_of (take i own)))

    -- To leave out the next item removes its entry at each part.
    pub leaves_next : (part_of : Op → Part) → LeavesOut part_of e (without_items shared_item (take i own) log) (without_items shared_item (take (i + 1) own) log)
    leaves_next part_of part =
        let test = is_open_in part_of part in
        subst (λ (z : List (Item Op)). LosesAt e (test e) (filter test (without_items shared_item (take i own) log)) (filter test (without_items shared_item z log))) (sym next)
        (loses_kept test (λ (d : SharedEntry Op). not (has_id d.id (ids_of (take i own)))) (λ (d : SharedEntry Op). not (has_id d.id (ids_of (take i own ++ p ∷ [])))) (λ (d : SharedEntry Op). d.id) e
        (ap not not_yet) (ap not out_now) (λ d apart. ap not (others d apart)) log ids_apart (stands_in log k e at))

  -- The first one is p, which stands at k.
  module _ (p : Item Op) (starts : slice_get own 0 ≡ Some p) (k : ℕ) (found : position (λ e. e.id == p.id) log ≡ Some k) where
    not_before : (j : ℕ) (e : SharedEntry Op) → j < k → slice_get log j ≡ Some e → e.id ≡ p.id → ⊥
    not_before j e below at is =
        let last : position_or_len (λ (g : SharedEntry Op). g.id == p.id) log ≡ k = place_is (position_or_len (λ (g : SharedEntry Op). g.id == p.id) log) k (nat_lt (position_or_len (λ (g : SharedEntry Op). g.id == p.id) log) (length log)) found in
        let other : (e.id == p.id) ≡ false = ap (λ (g : SharedEntry Op). g.id == p.id) (sym (get_or_from_slice_get log j e e at)) ∙ fails_before_first (λ (g : SharedEntry Op). g.id == p.id) log j e (omega arith) in
        let no : true ≡ false = sym (eq-eqb e.id p.id is) ∙ other in cc

    -- none of them stands before it
    none_before : (j : ℕ) (e : SharedEntry Op) → j < k → slice_get log j ≡ Some e → has_id e.id (ids_of own) ≡ false
    none_before j e below at = is_false (has_id e.id (ids_of own)) (λ h.
        let q = from_has e.id own h in
        elim (first_or_behind own p q.0 starts q.1) [
          | inl same ↦ not_before j e below at (sym q.2 ∙ ap (λ (w : Item Op). w.id) same)
          | inr behind ↦
              let r = before_from_map shared_item p q.0 log (may.order p q.0 behind) in
              let one : r.1 ≡ e = same_entry log distinct r.1 e (before_in_second r.0 r.1 log r.2) (stands_in log j e at) (ap (λ (w : Item Op). w.id) (sym r.4) ∙ q.2) in
              let b = before_at (λ (d : SharedEntry Op). d.id) log ids_apart r.0 r.1 j r.2 (at ∙ ap (λ (d : SharedEntry Op). Some d) (sym one)) in
              let lower = b.1 in
              not_before b.0 r.0 (omega arith) b.2 (ap (λ (w : Item Op). w.id) (sym r.3))
        ])

    -- A settled front of the log is still settled after items that are not before it have left.
    pub settled_before : (settled m : ℕ) → m ≤ settled → m ≤ k → IsSettled log settled → IsSettled (without_items shared_item own log) m
    settled_before settled m low front h =
        let within = h.within in
        let stay = front_kept (λ (d : SharedEntry Op). not (has_id d.id (ids_of own))) log m (omega arith) (λ j e below at. ap not (none_before j e (omega arith) at)) in
        record { within = stay.0; committed = λ j e below at. h.committed j e (omega arith) (sym (stay.1 j below) ∙ at) }
