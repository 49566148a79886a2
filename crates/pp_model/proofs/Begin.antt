-- The steps BEGIN, QUIT and NOTE keep a configuration sound, and the start is sound.
use Rattle.std.specs.Prelude.{◌≡◌, ◌≢◌, ◌⊎◌, Bool, true, false, not, List, [], ◌∷◌, ◌++◌, map}
use Rattle.std.specs.Prelude.{Option, Some, None}
use Rattle.std.proofs.Common.{refl, sym, ap, subst, ◌∙◌}
use mathlib.Core.Logic.{inl, inr}
use Rattle.pp_model.specs.Lists.{In, Before}
use Rattle.pp_model.specs.Body.{Tree, Begins}
use Rattle.pp_model.specs.Object.{Object, Allowed, Swaps, Item, ops, HasDistinctIds}
use Rattle.pp_model.specs.Config.{Pushed, Pulled, is_own, LocalEntry, SharedEntry, Tx, CommittedTx}
use Rattle.pp_model.specs.Config.{Config, Start, Begin, Quit, item, own_items, local_ops}
use Rattle.pp_model.specs.Config.{shared_ops, as_shared, tx, then, without_tx, first}
use Rattle.pp_model.specs.Rules.{calls, Meets, StartMeets}
use Rattle.pp_model.specs.Sound.{Sound, Stands, StandsBefore, KeepsOrder, Owns, OwnedAsMarked}
use Rattle.pp_model.proofs.Lists.{by_key, not_both, before_in_first, before_in_second, in_left}
use Rattle.pp_model.proofs.Lists.{in_cases, before_cases, in_map, from_map, before_from_map}
use Rattle.pp_model.proofs.Lists.{in_filter, from_filter, before_from_filter}
use Rattle.pp_model.proofs.Steps.{there_holds, only_one}
use Rattle.pp_model.specs.Names.{Name, ◌=ⁿ◌}
use Rattle.pp_model.proofs.Names.{names_not}

-- If all elements of a list and x have a property, so have all of the list with x at its end.
pub each_added : {A : Type 0} (xs : List A) (x : A) (P : A → Type 0) → ((y : A) → In y xs → P y) → P x → (y : A) → In y (xs ++ x ∷ []) → P y
each_added {A} xs x P h p y i = elim (in_cases y xs (x ∷ []) i) [ inl j ↦ h y j | inr (inl e) ↦ subst P (sym e) p | inr (inr j) ↦ absurd j ]

-- A pair in order in a list with x added at the end was in order before, or its second is x.
pub before_added : {A : Type 0} (xs : List A) (x y z : A) → Before y z (xs ++ x ∷ []) → Before y z xs ⊎ (In y xs × (z ≡ x))
before_added xs x y z i = elim (before_cases y z xs (x ∷ []) i) [
  | inl j ↦ inl j
  | inr (inl (inl j)) ↦ absurd j.1
  | inr (inl (inr j)) ↦ absurd j
  | inr (inr j) ↦ elim j.1 [ inl e ↦ inr (j.0, e) | inr k ↦ absurd k ]
]

-- A BEGIN that meets its criteria keeps a configuration sound.
pub begin_keeps : {Op State : Type 0} (O : Object Op State) (c : Config Op) → Sound O c → (t p : Name) (b : Option Tree) → Meets O c (Begin t p b) → Sound O (then c (Begin t p b))
begin_keeps {Op} O c s t p b h =
    record {
      marks = each_added c.opened new (λ (w : Tx Op). (e : LocalEntry Op) → In e w.local → OwnedAsMarked w.name e) s.marks (λ e i. absurd i);
      open_names = λ x y i e. elim (before_added c.opened new x y i) [
        | inl j ↦ s.open_names x y j e
        | inr j ↦ h.0 (subst (λ (w : Name). In w c.names) (e ∙ ap (λ (w : Tx Op). w.name) j.1) (s.open_known x j.0))
      ];
      done_names = s.done_names;
      apart = λ x d i j. each_added c.opened new (λ (w : Tx Op). w.name ≢ d.name) (λ y k. s.apart y d k j)
          (λ e. h.0 (subst (λ (w : Name). In w c.names) (sym e) (s.done_known d j))) x i;
      open_known = each_added c.opened new (λ (w : Tx Op). In w.name (t ∷ c.names)) (λ y k. inr (s.open_known y k)) (inl refl);
      done_known = λ d i. inr (s.done_known d i);
      local_ids = each_added c.opened new (λ (w : Tx Op). (e f : LocalEntry Op) → Before e f w.local → e.id ≢ f.id) s.local_ids (λ e f i. absurd i);
      shared_ids = s.shared_ids;
      done_ids = s.done_ids;
      local_used = each_added c.opened new (λ (w : Tx Op). (e : LocalEntry Op) → In e w.local → In e.id c.ids) s.local_used (λ e i. absurd i);
      done_used = s.done_used;
      one_owner = λ u v q r i j. s.one_owner u v q r (old u q i) (old v r j);
      pushed_stand = each_added c.opened new (λ (w : Tx Op). (e : LocalEntry Op) → In e w.local → e.mark ≡ Pushed → In (as_shared w.name false (item e)) c.shared) s.pushed_stand (λ e i. absurd i);
      done_stand = s.done_stand;
      uncommitted_from = λ g i u. let r = s.uncommitted_from g i u in (r.0, in_left r.0 c.opened (new ∷ []) r.1, r.2, r.3, r.4, r.5);
      committed_from = s.committed_from;
      shared_allowed = s.shared_allowed;
      local_allowed = each_added c.opened new (λ (w : Tx Op). Allowed O (local_ops w.local)) s.local_allowed tt;
      uncommitted_swap = s.uncommitted_swap;
      late_swap = s.late_swap;
      open_order = each_added c.opened new (λ (w : Tx Op). KeepsOrder O c.shared (own_items w.local)) s.open_order (λ x y i. absurd i);
      done_order = s.done_order;
      own_pulled = each_added c.opened new (λ (w : Tx Op). (a q : LocalEntry Op) → Before a q w.local → is_own a.mark ≡ true → q.mark ≡ Pulled → Swaps O a.op q.op) s.own_pulled (λ a q i. absurd i);
      begun = each_added c.opened new (λ (w : Tx Op). (own_items w.local ≡ []) ⊎ Begins w.body (calls O (own_items w.local))) s.begun (inl refl);
    }
  where
    new : Tx Op
    new = record { name = t; thread = p; body = b; local = [] }

    old : (u : Name) (q : Item Op) → Owns (then c (Begin t p b)) u q → Owns c u q
    old u q (inr i) = inr i
    old u q (inl i) = each_added c.opened new (λ (w : Tx Op). w.name ≡ u → In q (own_items w.local) → Owns c u q) (λ y k m n. inl (y, k, m, n)) (λ m n. absurd n) i.0 i.1 i.2 i.3

-- A QUIT that meets its criteria keeps a configuration sound.
pub quit_keeps : {Op State : Type 0} (O : Object Op State) (c : Config Op) → Sound O c → (t : Name) → Meets O c (Quit t) → Sound O (then c (Quit t))
quit_keeps {Op} O c s t h =
    record {
      marks = λ x i. s.marks x (was x i);
      open_names = λ x y i. s.open_names x y (before_from_filter stays x y c.opened i);
      done_names = s.done_names;
      apart = λ x d i. s.apart x d (was x i);
      open_known = λ x i. s.open_known x (was x i);
      done_known = s.done_known;
      local_ids = λ x i. s.local_ids x (was x i);
      shared_ids = s.shared_ids;
      done_ids = s.done_ids;
      local_used = λ x i. s.local_used x (was x i);
      done_used = s.done_used;
      one_owner = λ u v q r i j. s.one_owner u v q r (old u q i) (old v r j);
      pushed_stand = λ x i. s.pushed_stand x (was x i);
      done_stand = s.done_stand;
      uncommitted_from = λ g i u. let r = s.uncommitted_from g i u in (r.0, in_filter stays r.0 c.opened r.1 (names_not (r.0).name t (λ e. absurd (gone r.0 r.1 e r.2 r.3))), r.2, r.3, r.4, r.5);
      committed_from = s.committed_from;
      shared_allowed = s.shared_allowed;
      local_allowed = λ x i. s.local_allowed x (was x i);
      uncommitted_swap = s.uncommitted_swap;
      late_swap = s.late_swap;
      open_order = λ x i. s.open_order x (was x i);
      done_order = s.done_order;
      own_pulled = λ x i. s.own_pulled x (was x i);
      begun = λ x i. s.begun x (was x i);
    }
  where
    stays : Tx Op → Bool
    stays x = not (x.name =ⁿ t)

    was : (x : Tx Op) → In x (without_tx t c.opened) → In x c.opened
    was x i = (from_filter stays x c.opened i).0

    gone : (x : Tx Op) → In x c.opened → x.name ≡ t → (e : LocalEntry Op) → In e x.local → ⊥
    gone x i n e j =
        let r = there_holds (tx t c.opened) _ h in
        subst (λ (w : List (LocalEntry Op)). In e w) (only_one O c s t r.0 r.1 (λ w. w.local ≡ []) r.2.0 x i n) j

    old : (u : Name) (q : Item Op) → Owns (then c (Quit t)) u q → Owns c u q
    old u q (inr i) = inr i
    old u q (inl i) = inl (i.0, was i.0 i.1, i.2, i.3)

-- the start
pub empty_sound : {Op State : Type 0} (O : Object Op State) → Sound O (first {Op = Op} None)
empty_sound {Op} O =
    record {
      marks = λ x i. absurd i;
      open_names = λ x y i. absurd i;
      done_names = λ x y i. absurd i;
      apart = λ x d i. absurd i;
      open_known = λ x i. absurd i;
      done_known = λ x i. absurd i;
      local_ids = λ x i. absurd i;
      shared_ids = λ x y i. absurd i;
      done_ids = λ x i. absurd i;
      local_used = λ x i. absurd i;
      done_used = λ x i. absurd i;
      one_owner = λ t u p q i j. elim i [ inl k ↦ absurd k.1 | inr k ↦ absurd k.1 ];
      pushed_stand = λ x i. absurd i;
      done_stand = λ x i. absurd i;
      uncommitted_from = λ x i. absurd i;
      committed_from = λ x i. absurd i;
      shared_allowed = tt;
      local_allowed = λ x i. absurd i;
      uncommitted_swap = λ x y i. absurd i;
      late_swap = λ x y i. absurd i;
      open_order = λ x i. absurd i;
      done_order = λ x i. absurd i;
      own_pulled = λ x i. absurd i;
      begun = λ x i. absurd i;
    }

ops_posted : {Op : Type 0} (t : Name) (l : List (Item Op)) → shared_ops (map (as_shared t true) l) ≡ ops l
ops_posted t [] = refl
ops_posted {Op} t (p ∷ l) = ap (λ (w : List Op). p.op ∷ w) (ops_posted t l)

-- The configuration after a given start is sound, if the start is allowed and its ids are distinct.
pub given_sound : {Op State : Type 0} (O : Object Op State) (z : Start Op) → HasDistinctIds z.items → Allowed O (ops z.items) → Sound O (first (Some z))
given_sound {Op} O z distinct allowed =
    record {
      marks = λ x i. absurd i;
      open_names = λ x y i. absurd i;
      done_names = λ d e i. absurd (pair d e i);
      apart = λ x d i. absurd i;
      open_known = λ x i. absurd i;
      done_known = λ d i. inl (ap (λ (w : CommittedTx Op). w.name) (is d i));
      local_ids = λ x i. absurd i;
      shared_ids = λ g h i e. let m = before_from_map put g h z.items i in distinct m.0 m.1 m.2 (ap (λ (w : SharedEntry Op). w.id) (sym m.3) ∙ e ∙ ap (λ (w : SharedEntry Op). w.id) m.4);
      done_ids = λ d i p q j e. distinct p q (subst (λ (w : CommittedTx Op). Before p q w.entries) (is d i) j) e;
      local_used = λ x i. absurd i;
      done_used = λ d i p j. in_map (λ (w : Item Op). w.id) p z.items (subst (λ (w : CommittedTx Op). In p w.entries) (is d i) j);
      one_owner = λ t u p q i j e. name t p i ∙ sym (name u q j);
      pushed_stand = λ x i. absurd i;
      done_stand = λ d i p j. subst (λ (w : CommittedTx Op). In (as_shared w.name true p) (map put z.items)) (sym (is d i)) (in_map put p z.items (subst (λ (w : CommittedTx Op). In p w.entries) (is d i) j));
      uncommitted_from = λ g i e. let m = from_map put g z.items i in absurd (let u : true ≡ false = ap (λ (w : SharedEntry Op). w.committed) (sym m.2) ∙ e in cc);
      committed_from = λ g i e. let m = from_map put g z.items i in (record { name = z.tx; entries = z.items }, inl refl, m.0, m.1, m.2);
      shared_allowed = subst (λ (w : List Op). Allowed O w) (sym (ops_posted z.tx z.items)) allowed;
      local_allowed = λ x i. absurd i;
      uncommitted_swap = λ g h i n e. let m = from_map put g z.items (before_in_first g h (map put z.items) i) in absurd (let u : true ≡ false = ap (λ (w : SharedEntry Op). w.committed) (sym m.2) ∙ e in cc);
      late_swap = λ g h i n e f k. absurd (pair k.0 k.1 k.2);
      open_order = λ x i. absurd i;
      done_order = λ d i a b j k l. absurd (elim l [ inl n ↦ n (stands a (before_in_first a b z.items (inner d i a b j))) | inr n ↦ turned a b (inner d i a b j) n ]);
      own_pulled = λ x i. absurd i;
      begun = λ x i. absurd i;
    }
  where
    put : Item Op → SharedEntry Op
    put p = as_shared z.tx true p

    the : CommittedTx Op
    the = record { name = z.tx; entries = z.items }

    is : (d : CommittedTx Op) → In d (the ∷ []) → d ≡ the
    is d (inl e) = e
    is d (inr i) = elim i [ ]

    pair : (d e : CommittedTx Op) → Before d e (the ∷ []) → ⊥
    pair d e (inl i) = i.1
    pair d e (inr i) = i

    name : (t : Name) (p : Item Op) → Owns (first (Some z)) t p → t ≡ z.tx
    name t p (inl i) = absurd i.1
    name t p (inr i) = sym i.2 ∙ ap (λ (w : CommittedTx Op). w.name) (is i.0 i.1)

    inner : (d : CommittedTx Op) → In d (the ∷ []) → (a b : Item Op) → Before a b d.entries → Before a b z.items
    inner d i a b j = subst (λ (w : CommittedTx Op). Before a b w.entries) (is d i) j

    stands : (a : Item Op) → In a z.items → Stands a.id (map put z.items)
    stands a i = (put a, in_map put a z.items i, refl)

    turned : (a b : Item Op) → Before a b z.items → StandsBefore b.id a.id (map put z.items) → ⊥
    turned a b i n =
        let m = before_from_map put n.0 n.1 z.items n.2 in
        let eb : m.0 ≡ b = by_key (λ (w : Item Op). w.id) z.items distinct m.0 b (before_in_first m.0 m.1 z.items m.2) (before_in_second a b z.items i) (ap (λ (w : SharedEntry Op). w.id) (sym m.3) ∙ n.3) in
        let ea : m.1 ≡ a = by_key (λ (w : Item Op). w.id) z.items distinct m.1 a (before_in_second m.0 m.1 z.items m.2) (before_in_first a b z.items i) (ap (λ (w : SharedEntry Op). w.id) (sym m.4) ∙ n.4) in
        not_both (λ (w : Item Op). w.id) z.items distinct a b i (subst (λ (w : Item Op). Before w a z.items) eb (subst (λ (w : Item Op). Before m.0 w z.items) ea m.2))

-- The configuration before the first step is sound, if the start meets its criteria.
pub start_sound : {Op State : Type 0} (O : Object Op State) (h : Option (Start Op)) → StartMeets O h → Sound O (first h)
start_sound O None h = empty_sound O
start_sound O (Some z) h = given_sound O z h.0 h.1.0
