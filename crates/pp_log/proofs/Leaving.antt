-- Items that may leave a list together.
use Rattle.std.proofs.Common.{◌≡◌, ◌==◌, ℕ, zero, suc, ◌+◌, Bool, true, false, cond, not, ◌&&◌, ◌||◌}
use Rattle.std.proofs.Common.{List, [], ◌∷◌, ◌++◌, filter, take, drop}
use Rattle.std.proofs.Common.{refl, sym, ◌∙◌, ap, subst, inl, inr, Some}
use Rattle.std.specs.List.{remove, slice_get}
use Rattle.std.proofs.lemmas.Bool.{eq-eqb, eqb-true, not-true}
use Rattle.std.proofs.lemmas.Option.{get_or_from_slice_get, slice_get_within}
use Rattle.pp_core.specs.declared.entry.Item.{Item}
use Rattle.pp_model.specs.Lists.{Before, In}
use Rattle.pp_model.specs.Object.{HasDistinctIds, ops}
use Rattle.pp_model.specs.Serial.{has_id}
use Rattle.pp_model.proofs.Lists.{before_across, before_from_filter, before_in_second, before_right, by_key}
use Rattle.pp_model.proofs.Lists.{from_filter, in_cases, in_filter, in_right, not_both}
use Rattle.pp_kind.specs.Object.{Object, LetsPass, Swaps}
use Rattle.pp_log.specs.Leaving.{MayLeave, without_items}
use Rattle.pp_log.specs.Parts.{there}
use Rattle.pp_log.specs.Room.{ids_of}
use Rattle.pp_log.specs.TakesOut.{itself}
use Rattle.pp_log.proofs.Lists.{cut_there}
use Rattle.pp_log.proofs.Parted.{is_at, there_at, there_off}

is_false : (b : Bool) → (b ≡ true → ⊥) → b ≡ false
is_false true h = absurd (h refl)
is_false false h = refl

-- whether an id is among those of some items
pub has_one : {Op : Type 0} (j : ℕ) (x : List (Item Op)) (p : Item Op) → In p x → p.id ≡ j → has_id j (ids_of x) ≡ true
has_one j [] p h e = absurd h
has_one {Op} j (q ∷ x) p (inl here) e = ap (λ (b : Bool). b || has_id j (ids_of x)) (eq-eqb q.id j (ap (λ (r : Item Op). r.id) (sym here) ∙ e))
has_one {Op} j (q ∷ x) p (inr later) e = either (q.id == j) (has_id j (ids_of x)) (has_one j x p later e)
  where
    either : (a b : Bool) → b ≡ true → (a || b) ≡ true
    either true b h = refl
    either false b h = h

-- If `has_id` finds an id among those of items, one of the items has it.
pub from_has : {Op : Type 0} (j : ℕ) (x : List (Item Op)) → has_id j (ids_of x) ≡ true → (q : Item Op) × In q x × (q.id ≡ j)
from_has j [] h = cc
from_has {Op} j (p ∷ x) h = by (p.id == j) refl h (λ k. from_has j x k)
  where
    by : (b : Bool) → (p.id == j) ≡ b → (b || has_id j (ids_of x)) ≡ true → (has_id j (ids_of x) ≡ true → (q : Item Op) × In q x × (q.id ≡ j)) → (q : Item Op) × In q (p ∷ x) × (q.id ≡ j)
    by true e k later = (p, inl refl, eqb-true p.id j e)
    by false e k later = let r = later k in (r.0, inr r.1, r.2)

-- If no item has an id, `has_id` does not find it.
pub has_none : {Op : Type 0} (j : ℕ) (x : List (Item Op)) → ((p : Item Op) → In p x → p.id ≡ j → ⊥) → has_id j (ids_of x) ≡ false
has_none j x h = is_false (has_id j (ids_of x)) (λ t. let r = from_has j x t in h r.0 r.1 r.2)

-- If `has_id` does not find an id, no item has it.
pub has_not : {Op : Type 0} (j : ℕ) (x : List (Item Op)) → has_id j (ids_of x) ≡ false → (p : Item Op) → In p x → p.id ≡ j → ⊥
has_not j x h p i e = let t = has_one j x p i e in let k : true ≡ false = sym t ∙ h in cc

-- filters
pub filter_all : {A : Type 0} (t : A → Bool) (x : List A) → ((a : A) → In a x → t a ≡ true) → filter t x ≡ x
filter_all t [] h = refl
filter_all {A} t (a ∷ x) h = ap (λ (b : Bool). cond b (a ∷ filter t x) (filter t x)) (h a (inl refl)) ∙ ap (λ (z : List A). a ∷ z) (filter_all t x (λ d i. h d (inr i)))

-- Two filters in turn are one filter, by a test that is both tests on the list.
pub filter_twice : {A : Type 0} (p q r : A → Bool) (x : List A) → ((a : A) → In a x → (q a && p a) ≡ r a) → filter p (filter q x) ≡ filter r x
filter_twice p q r [] h = refl
filter_twice {A} p q r (a ∷ x) h = by (q a) refl (filter_twice p q r x (λ d i. h d (inr i)))
  where
    by : (b : Bool) → q a ≡ b → filter p (filter q x) ≡ filter r x → filter p (cond b (a ∷ filter q x) (filter q x)) ≡ cond (r a) (a ∷ filter r x) (filter r x)
    by true e k = ap (λ (w : List A). cond (p a) (a ∷ w) w) k ∙ ap (λ (b : Bool). cond b (a ∷ filter r x) (filter r x)) (sym (ap (λ (b : Bool). b && p a) e) ∙ h a (inl refl))
    by false e k = k ∙ ap (λ (b : Bool). cond b (a ∷ filter r x) (filter r x)) (sym (ap (λ (b : Bool). b && p a) e) ∙ h a (inl refl))

-- a list without its i-th item, which alone has its id
removed_filter : {A : Type 0} (less : A → Bool) (key : A → ℕ) (x : List A) (i : ℕ) (e : A) → slice_get x i ≡ Some e → ((p q : A) → Before p q x → key p ≡ key q → ⊥) → less e ≡ false → ((d : A) → In d x → (key d ≡ key e → ⊥) → less d ≡ true) → filter less x ≡ remove x i
removed_filter less key [] i e at d out stay = cc
removed_filter {A} less key (a ∷ x) zero e at d out stay =
    let same : a ≡ e = cc in
    ap (λ (b : Bool). cond b (a ∷ filter less x) (filter less x)) (ap less same ∙ out)
    ∙ filter_all less x (λ c i. stay c (inr i) (λ k. d a c (inl (refl, i)) (ap key same ∙ sym k)))
removed_filter {A} less key (a ∷ x) (suc i) e at d out stay =
    ap (λ (b : Bool). cond b (a ∷ filter less x) (filter less x)) (stay a (inl refl) (λ k. d a e (inl (refl, in_at x i e at)) k))
    ∙ ap (λ (z : List A). a ∷ z) (removed_filter less key x i e at (λ p q w. d p q (inr w)) out (λ c j. stay c (inr j)))
  where
    in_at : (y : List A) (j : ℕ) (c : A) → slice_get y j ≡ Some c → In c y
    in_at [] j c h = cc
    in_at (b ∷ y) zero c h = let w : b ≡ c = cc in inl (sym w)
    in_at (b ∷ y) (suc j) c h = inr (in_at y j c h)

-- Two booleans are both false exactly if their disjunction is false.
pub neither : (a b : Bool) → (not a && not b) ≡ not (b || a)
neither true true = refl
neither true false = refl
neither false true = refl
neither false false = refl

-- to leave out one more item is to remove the entry of this item from what is left
pub one_less : {Op E : Type 0} (f : E → Item Op) (x : List E) (e : Item Op) (last : List (Item Op)) (i : ℕ) (a : E) → slice_get (without_items f last x) i ≡ Some a → f a ≡ e
    → ((p q : E) → Before p q (without_items f last x) → (f p).id ≡ (f q).id → ⊥) → without_items f (e ∷ last) x ≡ remove (without_items f last x) i
one_less {Op} {E} f x e last i a at is distinct =
    let less = λ (r : E). not (has_id (f r).id (ids_of (e ∷ last))) in
    let keep = λ (r : E). not (has_id (f r).id (ids_of last)) in
    let one = λ (r : E). not (e.id == (f r).id) in
    let same = ap (λ (r : Item Op). r.id) is in
    sym (filter_twice one keep less x (λ r j. neither (has_id (f r).id (ids_of last)) (e.id == (f r).id)))
    ∙ removed_filter one (λ (r : E). (f r).id) (without_items f last x) i a at distinct (ap not (eq-eqb e.id (f a).id (sym same)))
    (λ d j n. ap not (is_false (e.id == (f d).id) (λ t. n (sym (eqb-true e.id (f d).id t) ∙ sym same))))

-- To leave out no items leaves the whole list.
pub without_none : {Op E : Type 0} (f : E → Item Op) (x : List E) → without_items f [] x ≡ x
without_none f x = filter_all (λ e. not (has_id (f e).id [])) x (λ e i. refl)

lets_all : {Shape State Op Undo : Type 0} (o : Object Shape State Op Undo) (a : Op) (x : List (Item Op)) → ((q : Item Op) → In q x → Swaps o a q.op) → LetsPass o a (ops x)
lets_all o a [] h = tt
lets_all o a (q ∷ x) h = (h q (inl refl), lets_all o a x (λ r i. h r (inr i)))

in_there : {Op : Type 0} (place : Op → ℕ) (p : ℕ) (x : List (Item Op)) (q : Item Op) → In q (there place p x) → In q x
in_there place p [] q h = h
in_there {Op} place p (e ∷ x) q h = elim (is_at place e p) [
  | inl k ↦ elim (subst (In q) (there_at place p e x k) h) [ inl here ↦ inl here | inr later ↦ inr (in_there place p x q later) ]
  | inr k ↦ inr (in_there place p x q (subst (In q) (there_off place p e x k) h))
]

module _ {Shape State Op Undo : Type 0} (o : Object Shape State Op Undo) (own log : List (Item Op)) (distinct : HasDistinctIds log) (may : MayLeave o own log) where
  same : (p q : Item Op) → In p log → In q log → p.id ≡ q.id → p ≡ q
  same p q i j e = by_key (λ (r : Item Op). r.id) log distinct p q i j e

  -- those of the list that are not among the last of its own
  abbrev pub left_of : List (Item Op) → List (Item Op)
  left_of last = without_items itself last log

  -- The items that are left after some have left have distinct ids.
  pub now_distinct : (last : List (Item Op)) → HasDistinctIds (left_of last)
  now_distinct last p q b e = distinct p q (before_from_filter (λ (r : Item Op). not (has_id r.id (ids_of last))) p q log b) e

  -- The last ones have left, and e is the next to leave.
  module _ (front last : List (Item Op)) (e : Item Op) (cut : own ≡ front ++ e ∷ last) where
    own_e : In e own
    own_e = subst (In e) (sym cut) (in_right e front (e ∷ last) (inl refl))

    e_then : (p : Item Op) → In p last → Before e p log
    e_then p i = may.order e p (subst (Before e p) (sym cut) (before_right e p front (e ∷ last) (inl (refl, i))))

    then_e : (p : Item Op) → In p front → Before p e log
    then_e p i = may.order p e (subst (Before p e) (sym cut) (before_across p e front (e ∷ last) i (inl refl)))

    stays : has_id e.id (ids_of last) ≡ false
    stays = has_none e.id last (λ p i k. distinct e p (e_then p i) (sym k))

    -- The next item to leave is still in the list.
    pub still_there : In e (left_of last)
    still_there = in_filter (λ (r : Item Op). not (has_id r.id (ids_of last))) e log (may.stand e own_e) (ap not stays)

    module _ (i : ℕ) (at : slice_get (left_of last) i ≡ Some e) where
      -- To leave out the next item too is to remove it from what is left.
      pub leaves_next : left_of (e ∷ last) ≡ remove (left_of last) i
      leaves_next = one_less itself log e last i e at refl (now_distinct last)

      parts : left_of last ≡ take i (left_of last) ++ e ∷ drop (i + 1) (left_of last)
      parts = cut_there (left_of last) i e (slice_get_within (left_of last) i e at) (sym (get_or_from_slice_get (left_of last) i e e at))

      after_e : (q : Item Op) → In q (drop (i + 1) (left_of last)) → Before e q (left_of last)
      after_e q j = subst (Before e q) (sym parts) (before_right e q (take i (left_of last)) (e ∷ drop (i + 1) (left_of last)) (inl (refl, j)))

      after_in_log : (q : Item Op) → In q (drop (i + 1) (left_of last)) → Before e q log
      after_in_log q j = before_from_filter (λ (r : Item Op). not (has_id r.id (ids_of last))) e q log (after_e q j)

      others_own : (q : Item Op) → In q (drop (i + 1) (left_of last)) → has_id q.id (ids_of own) ≡ false
      others_own q j =
          let b = after_in_log q j in
          let inside = from_filter (λ (r : Item Op). not (has_id r.id (ids_of last))) q log (before_in_second e q (left_of last) (after_e q j)) in
          has_none q.id own (λ p k h.
          let one : p ≡ q = same p q (may.stand p k) inside.0 h in
          elim (in_cases p front (e ∷ last) (subst (In p) cut k)) [
            | inl f ↦ not_both (λ (r : Item Op). r.id) log distinct e q b (subst (λ (r : Item Op). Before r e log) one (then_e p f))
            | inr r ↦ elim r [
              | inl here ↦ distinct e q b (ap (λ (w : Item Op). w.id) (sym here) ∙ h)
              | inr later ↦ has_not q.id last (not-true (has_id q.id (ids_of last)) inside.1) p later h
            ]
          ])

      -- it lets those behind it pass
      pub lets_behind : (place : Op → ℕ) → LetsPass o e.op (ops (there place (place e.op) (drop (i + 1) (left_of last))))
      lets_behind place = lets_all o e.op (there place (place e.op) (drop (i + 1) (left_of last))) (λ q j.
          let k = in_there place (place e.op) (drop (i + 1) (left_of last)) q j in may.pass e q own_e (after_in_log q k) (others_own q k))
