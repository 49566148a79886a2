-- The steps PUSH and UNPUSH keep a configuration sound.
use Rattle.std.specs.Prelude.{◌≡◌, ◌≢◌, ◌⊎◌, ℕ, Bool, true, false, not, cond, ◌==◌, List, [], ◌∷◌}
use Rattle.std.specs.Prelude.{◌++◌, map, Option, Some}
use Rattle.std.proofs.Common.{refl, sym, ap, subst, ◌∙◌}
use Rattle.std.proofs.lemmas.List.{map-append}
use Rattle.std.proofs.lemmas.Bool.{cases_eq}
use Rattle.std.proofs.lemmas.Bool.Decides.{eqb_tells}
use mathlib.Core.Logic.{inl, inr}
use Rattle.pp_model.specs.Lists.{In, Before}
use Rattle.pp_model.specs.Body.{Begins}
use Rattle.pp_model.specs.Object.{Object, Allowed, Swaps, Item}
use Rattle.pp_model.specs.Config.{Mark, Unpushed, Pushed, Pulled, is_own, LocalEntry, SharedEntry}
use Rattle.pp_model.specs.Config.{Tx, CommittedTx, Config, Push, item, own, own_items, local_ops}
use Rattle.pp_model.specs.Config.{shared_ops, as_shared, tx, then, push_effect, entry_of, at_mark}
use Rattle.pp_model.specs.Config.{on_log, relog, set_mark, without_shared}
use Rattle.pp_model.specs.Rules.{calls, Meets}
use Rattle.pp_model.specs.Sound.{Sound, Stands, StandsBefore, KeepsOrder, Owns, OwnedAsMarked}
use Rattle.pp_model.proofs.Lists.{by_key, before_in_first, before_in_second, in_left, in_right}
use Rattle.pp_model.proofs.Lists.{in_cases, in_map, from_map, before_from_map, in_filter}
use Rattle.pp_model.proofs.Lists.{from_filter, before_from_filter}
use Rattle.pp_model.proofs.Logs.{found_tx, found_mark, eqb_not, in_own, before_from_own, on_each}
use Rattle.pp_model.proofs.Logs.{on_before, in_on_same, in_on_other}
use Rattle.pp_model.proofs.Steps.{there_holds}
use Rattle.pp_model.proofs.Begin.{before_added}
use Rattle.pp_model.specs.Names.{Name}
use Rattle.pp_model.proofs.Names.{name_or_not}

-- the entry with another mark
abbrev pub remark : {Op : Type 0} → Mark → LocalEntry Op → LocalEntry Op
remark m e = record { id = e.id; owner = e.owner; mark = m; op = e.op }

-- The entry with this mark, if it has this id.
abbrev pub mark_at : {Op : Type 0} → ℕ → Mark → LocalEntry Op → LocalEntry Op
mark_at id m e = cond (e.id == id) (remark m e) e

-- `mark_at` changes the mark of an entry with the given id, and leaves another entry the same.
pub mark_cases : {Op : Type 0} (id : ℕ) (m : Mark) (e : LocalEntry Op) → ((e.id ≡ id) × (mark_at id m e ≡ remark m e)) ⊎ ((e.id ≢ id) × (mark_at id m e ≡ e))
mark_cases id m e = elim (eqb_tells e.id id) [
  | inl r ↦ inl (r.1, ap (λ (b : Bool). cond b (remark m e) e) r.0)
  | inr r ↦ inr (r.1, ap (λ (b : Bool). cond b (remark m e) e) r.0)
]

mark_keeps_id : {Op : Type 0} (id : ℕ) (m : Mark) (e : LocalEntry Op) → (mark_at id m e).id ≡ e.id
mark_keeps_id {Op} id m e = elim (mark_cases id m e) [ inl r ↦ ap (λ (w : LocalEntry Op). w.id) r.1 | inr r ↦ ap (λ (w : LocalEntry Op). w.id) r.1 ]

mark_keeps_op : {Op : Type 0} (id : ℕ) (m : Mark) (e : LocalEntry Op) → (mark_at id m e).op ≡ e.op
mark_keeps_op {Op} id m e = elim (mark_cases id m e) [ inl r ↦ ap (λ (w : LocalEntry Op). w.op) r.1 | inr r ↦ ap (λ (w : LocalEntry Op). w.op) r.1 ]

-- A changed mark leaves the operations of a local log the same.
pub ops_marked : {Op : Type 0} (id : ℕ) (m : Mark) (l : List (LocalEntry Op)) → local_ops (set_mark id m l) ≡ local_ops l
ops_marked id m [] = refl
ops_marked {Op} id m (e ∷ l) = ap (λ (o : Op). o ∷ local_ops (set_mark id m l)) (mark_keeps_op id m e) ∙ ap (λ (w : List Op). e.op ∷ w) (ops_marked id m l)

-- no entry has this id
pub marked_other : {Op : Type 0} (id : ℕ) (m : Mark) (l : List (LocalEntry Op)) → ((e : LocalEntry Op) → In e l → e.id ≢ id) → set_mark id m l ≡ l
marked_other id m [] h = refl
marked_other {Op} id m (e ∷ l) h =
    ap (λ (w : LocalEntry Op). w ∷ set_mark id m l) (elim (mark_cases id m e) [ inl r ↦ absurd (h e (inl refl) r.0) | inr r ↦ r.1 ]) ∙ ap (λ (w : List (LocalEntry Op)). e ∷ w) (marked_other id m l (λ a i. h a (inr i)))

-- The own items stay if the entry of this id is own, and the new mark is.
pub own_marked : {Op : Type 0} (id : ℕ) (m : Mark) → is_own m ≡ true → (l : List (LocalEntry Op)) → ((e : LocalEntry Op) → In e l → e.id ≡ id → is_own e.mark ≡ true) → own_items (set_mark id m l) ≡ own_items l
own_marked id m k [] h = refl
own_marked {Op} id m k (e ∷ l) h = elim (mark_cases id m e) [
  | inl r ↦ ap (λ (w : LocalEntry Op). own_items (w ∷ set_mark id m l)) r.1
      ∙ ap (λ (b : Bool). map item (cond b (remark m e ∷ own (set_mark id m l)) (own (set_mark id m l)))) k
      ∙ ap (λ (w : List (Item Op)). item e ∷ w) (own_marked id m k l (λ a i. h a (inr i)))
      ∙ ap (λ (b : Bool). map item (cond b (e ∷ own l) (own l))) (sym (h e (inl refl) r.0))
  | inr r ↦ ap (λ (w : LocalEntry Op). own_items (w ∷ set_mark id m l)) r.1
      ∙ map_cond (is_own e.mark) e (own (set_mark id m l))
      ∙ ap (λ (w : List (Item Op)). cond (is_own e.mark) (item e ∷ w) w) (own_marked id m k l (λ a i. h a (inr i)))
      ∙ sym (map_cond (is_own e.mark) e (own l))
]
  where
    map_cond : (b : Bool) (e : LocalEntry Op) (w : List (LocalEntry Op)) → map item (cond b (e ∷ w) w) ≡ cond b (item e ∷ map item w) (map item w)
    map_cond true e w = refl
    map_cond false e w = refl

-- The conditions under which a transaction with another mark at one own entry keeps a configuration sound.
pub record IsRemarked {Op State : Type 0} (O : Object Op State) (c : Config Op) (f : List (LocalEntry Op) → List (LocalEntry Op)) (x : Tx Op) : Type 0 where
  pub marks : (e : LocalEntry Op) → In e (f x.local) → OwnedAsMarked x.name e
  pub distinct : (e g : LocalEntry Op) → Before e g (f x.local) → e.id ≢ g.id
  pub used : (e : LocalEntry Op) → In e (f x.local) → In e.id c.ids
  pub same_own : own_items (f x.local) ≡ own_items x.local
  pub same_ops : local_ops (f x.local) ≡ local_ops x.local
  pub pulled : (a p : LocalEntry Op) → Before a p (f x.local) → is_own a.mark ≡ true → p.mark ≡ Pulled → Swaps O a.op p.op

-- A new own mark at the id of an own entry keeps what `IsRemarked` says.
pub remarked : {Op State : Type 0} (O : Object Op State) (c : Config Op) → Sound O c → (id : ℕ) (m : Mark) → is_own m ≡ true →
    (x : Tx Op) → In x c.opened → ((e : LocalEntry Op) → In e x.local → e.id ≡ id → is_own e.mark ≡ true) → IsRemarked O c (set_mark id m) x
remarked {Op} O c s id m k x i h =
    record {
      marks = λ a j. let r = from_map (mark_at id m) a x.local j in elim (mark_cases id m r.0) [
        | inl q ↦ inl (ap (λ (w : LocalEntry Op). is_own w.mark) (r.2 ∙ q.1) ∙ k, ap (λ (w : LocalEntry Op). w.owner) (r.2 ∙ q.1) ∙ own_owner r.0 (h r.0 r.1 q.0) (s.marks x i r.0 r.1))
        | inr q ↦ subst (λ (w : LocalEntry Op). OwnedAsMarked x.name w) (sym (r.2 ∙ q.1)) (s.marks x i r.0 r.1)
      ];
      distinct = λ a b j e. let r = before_from_map (mark_at id m) a b x.local j in
          s.local_ids x i r.0 r.1 r.2 (sym (mark_keeps_id id m r.0) ∙ ap (λ (w : LocalEntry Op). w.id) (sym r.3) ∙ e ∙ ap (λ (w : LocalEntry Op). w.id) r.4 ∙ mark_keeps_id id m r.1);
      used = λ a j. let r = from_map (mark_at id m) a x.local j in
          subst (λ (w : ℕ). In w c.ids) (sym (ap (λ (w : LocalEntry Op). w.id) r.2 ∙ mark_keeps_id id m r.0)) (s.local_used x i r.0 r.1);
      same_own = own_marked id m k x.local h;
      same_ops = ops_marked id m x.local;
      pulled = λ a p j o n. let r = before_from_map (mark_at id m) a p x.local j in
          subst (λ (w : Op). Swaps O w p.op) (sym (ap (λ (w : LocalEntry Op). w.op) r.3 ∙ mark_keeps_op id m r.0))
          (subst (λ (w : Op). Swaps O (r.0).op w) (sym (ap (λ (w : LocalEntry Op). w.op) r.4 ∙ mark_keeps_op id m r.1))
          (s.own_pulled x i r.0 r.1 r.2
          (elim (mark_cases id m r.0) [ inl q ↦ h r.0 (before_in_first r.0 r.1 x.local r.2) q.0 | inr q ↦ ap (λ (w : LocalEntry Op). is_own w.mark) (sym q.1 ∙ sym r.3) ∙ o ])
          (elim (mark_cases id m r.1) [
            | inl q ↦ absurd (not_own m (ap (λ (w : LocalEntry Op). w.mark) (sym q.1 ∙ sym r.4) ∙ n) k)
            | inr q ↦ ap (λ (w : LocalEntry Op). w.mark) (sym q.1 ∙ sym r.4) ∙ n
          ])));
    }
  where
    own_owner : (a : LocalEntry Op) → is_own a.mark ≡ true → OwnedAsMarked x.name a → a.owner ≡ x.name
    own_owner a o (inl z) = z.1
    own_owner a o (inr z) = absurd (let y : true ≡ false = sym o ∙ ap is_own z.0 in cc)

    not_own : (m : Mark) → m ≡ Pulled → is_own m ≡ true → ⊥
    not_own m e o = let z : false ≡ true = ap is_own (sym e) ∙ o in cc

-- an open transaction is known by its name, and an entry of it by its id
pub one_open : {Op State : Type 0} (O : Object Op State) (c : Config Op) → Sound O c → (x w : Tx Op) → In x c.opened → In w c.opened → w.name ≡ x.name → w ≡ x
one_open {Op} O c s x w i k n = by_key (λ (z : Tx Op). z.name) c.opened s.open_names w x k i n

-- In a sound configuration, entries of one open transaction with one id are the same entry.
pub one_entry : {Op State : Type 0} (O : Object Op State) (c : Config Op) → Sound O c → (x w : Tx Op) → In x c.opened → In w c.opened → w.name ≡ x.name →
    (e a : LocalEntry Op) → In e x.local → In a w.local → a.id ≡ e.id → a ≡ e
one_entry {Op} O c s x w i k n e a j m z =
    by_key (λ (b : LocalEntry Op). b.id) x.local (s.local_ids x i) a e (subst (λ (b : Tx Op). In a b.local) (one_open O c s x w i k n) m) j z

-- An own entry of an open transaction is in G only if it is pushed.
standing : {Op State : Type 0} (O : Object Op State) (c : Config Op) → Sound O c → (x : Tx Op) → In x c.opened → (e : LocalEntry Op) → In e x.local → is_own e.mark ≡ true →
    (g : SharedEntry Op) → In g c.shared → g.id ≡ e.id → (b : Bool) → g.committed ≡ b → e.mark ≡ Pushed
standing {Op} O c s x i e j o g k n true u =
    let r = s.committed_from g k u in
    absurd (s.apart x r.0 i r.1 (s.one_owner x.name (r.0).name (item e) r.2 (inl (x, i, refl, in_own x.local e j o)) (inr (r.0, r.1, refl, r.3)) (sym n ∙ ap (λ (w : SharedEntry Op). w.id) r.4)))
standing {Op} O c s x i e j o g k n false u =
    let r = s.uncommitted_from g k u in
    let name : (r.0).name ≡ x.name = s.one_owner (r.0).name x.name (item r.2) (item e) (inl (r.0, r.1, refl, in_own (r.0).local r.2 r.3 (ap is_own r.4))) (inl (x, i, refl, in_own x.local e j o)) (ap (λ (w : SharedEntry Op). w.id) (sym r.5) ∙ n) in
    let same : r.0 ≡ x = by_key (λ (w : Tx Op). w.name) c.opened s.open_names r.0 x r.1 i name in
    let here : In r.2 x.local = subst (λ (w : Tx Op). In r.2 w.local) same r.3 in
    let one : r.2 ≡ e = by_key (λ (w : LocalEntry Op). w.id) x.local (s.local_ids x i) r.2 e here j (ap (λ (w : SharedEntry Op). w.id) (sym r.5) ∙ n) in
    ap (λ (w : LocalEntry Op). w.mark) (sym one) ∙ r.4

-- An own entry of an open transaction whose id is in the shared log has the mark Pushed.
pub stands_pushed : {Op State : Type 0} (O : Object Op State) (c : Config Op) → Sound O c → (x : Tx Op) → In x c.opened → (e : LocalEntry Op) → In e x.local → is_own e.mark ≡ true → Stands e.id c.shared → e.mark ≡ Pushed
stands_pushed O c s x i e j o h = standing O c s x i e j o h.0 h.1 h.2 (h.0).committed refl

-- An id in a shared log is in the log with one more entry.
stands_wider : {Op : Type 0} (i : ℕ) (G : List (SharedEntry Op)) (g : SharedEntry Op) → Stands i G → Stands i (G ++ g ∷ [])
stands_wider i G g h = (h.0, in_left h.0 G (g ∷ []) h.1, h.2)

stands_older : {Op : Type 0} (i : ℕ) (G : List (SharedEntry Op)) (g : SharedEntry Op) → Stands i (G ++ g ∷ []) → (i ≢ g.id) → Stands i G
stands_older {Op} i G g h n = elim (in_cases h.0 G (g ∷ []) h.1) [
  | inl j ↦ (h.0, j, h.2)
  | inr (inl e) ↦ absurd (n (sym h.2 ∙ ap (λ (w : SharedEntry Op). w.id) e))
  | inr (inr j) ↦ absurd j
]

-- one more entry g in G: the order of an own list stays kept
order_pushed : {Op State : Type 0} (O : Object Op State) (G : List (SharedEntry Op)) (g : SharedEntry Op) (xs : List (Item Op)) → (Stands g.id G → ⊥) →
    ((a b : Item Op) → Before a b xs → b.id ≡ g.id → (Stands a.id G → ⊥) → Swaps O b.op a.op) →
    KeepsOrder O G xs → KeepsOrder O (G ++ g ∷ []) xs
order_pushed {Op} O G g xs new last h a b i j k = elim (cases_eq b.id g.id) [
  | inl e ↦ elim k [
    | inl n ↦ last a b i e (λ m. n (stands_wider a.id G g m))
    | inr m ↦ absurd (first_new m e)
  ]
  | inr e ↦ elim k [
    | inl n ↦ h a b i (stands_older b.id G g j e) (inl (λ m. n (stands_wider a.id G g m)))
    | inr m ↦ elim (before_added G g m.0 m.1 m.2) [
      | inl q ↦ h a b i (stands_older b.id G g j e) (inr (m.0, m.1, q, m.3, m.4))
      | inr q ↦ h a b i (stands_older b.id G g j e) (inl (λ z. new (subst (λ (w : ℕ). Stands w G) (sym m.4 ∙ ap (λ (w : SharedEntry Op). w.id) q.1) z)))
    ]
  ]
]
  where
    first_new : StandsBefore b.id a.id (G ++ g ∷ []) → b.id ≡ g.id → ⊥
    first_new m e = elim (before_added G g m.0 m.1 m.2) [
      | inl q ↦ new (m.0, before_in_first m.0 m.1 G q, m.3 ∙ e)
      | inr q ↦ new (m.0, q.0, m.3 ∙ e)
    ]

-- G without the entries of an id: the order of an own list stays kept
pub order_unpushed : {Op State : Type 0} (O : Object Op State) (G : List (SharedEntry Op)) (id : ℕ) (xs : List (Item Op)) →
    ((a b : Item Op) → Before a b xs → a.id ≡ id → Stands b.id G → Swaps O b.op a.op) →
    KeepsOrder O G xs → KeepsOrder O (without_shared id G) xs
order_unpushed {Op} O G id xs first h a b i j k = elim (cases_eq a.id id) [
  | inl e ↦ first a b i e (was b.id j)
  | inr e ↦ h a b i (was b.id j) (elim k [
    | inl n ↦ inl (λ m. n (m.0, in_filter test m.0 G m.1 (eqb_not (m.0).id id (λ z. e (sym m.2 ∙ z))), m.2))
    | inr m ↦ inr (m.0, m.1, before_from_filter test m.0 m.1 G m.2, m.3, m.4)
  ])
]
  where
    test : SharedEntry Op → Bool
    test g = not (g.id == id)

    was : (i : ℕ) → Stands i (without_shared id G) → Stands i G
    was i h = (h.0, (from_filter test h.0 G h.1).0, h.2)

-- An id that x owns is owned by no other transaction.
pub elsewhere : {Op State : Type 0} (O : Object Op State) (c : Config Op) → Sound O c → (x : Tx Op) → In x c.opened → (e : LocalEntry Op) → In e x.local → is_own e.mark ≡ true →
    (y : Tx Op) → In y c.opened → y.name ≢ x.name → (p : Item Op) → In p (own_items y.local) → p.id ≢ e.id
elsewhere O c s x i e j o y k n p q z = n (s.one_owner y.name x.name p (item e) (inl (y, k, refl, q)) (inl (x, i, refl, in_own x.local e j o)) z)

-- No committed transaction has an entry with the id of an own entry of an open one.
pub not_done : {Op State : Type 0} (O : Object Op State) (c : Config Op) → Sound O c → (x : Tx Op) → In x c.opened → (e : LocalEntry Op) → In e x.local → is_own e.mark ≡ true →
    (d : CommittedTx Op) → In d c.done → (p : Item Op) → In p d.entries → p.id ≢ e.id
not_done O c s x i e j o d k p q z = s.apart x d i k (s.one_owner x.name d.name (item e) p (inl (x, i, refl, in_own x.local e j o)) (inr (d, k, refl, q)) (sym z))

-- To publish an unpushed entry keeps a configuration sound if it meets the criteria of PUSH.
pub pushed_keeps : {Op State : Type 0} (O : Object Op State) (c : Config Op) → Sound O c → (t : Name) (id : ℕ) (x : Tx Op) → In x c.opened → x.name ≡ t →
    (e : LocalEntry Op) → In e x.local → e.id ≡ id → e.mark ≡ Unpushed →
    ((a : LocalEntry Op) → Before a e x.local → a.mark ≡ Unpushed → Swaps O e.op a.op) →
    ((u : SharedEntry Op) → In u c.shared → u.committed ≡ false → u.owner ≢ t → Swaps O u.op e.op) →
    Allowed O (shared_ops c.shared ++ e.op ∷ []) → Sound O (push_effect c t id (Some e))
pushed_keeps {Op} O c s t id x ix nx e ie ne me before others allowed =
    record {
      marks = on_each t f c.opened (λ (w : Tx Op). (a : LocalEntry Op) → In a w.local → OwnedAsMarked w.name a) (λ w k n. (same w k n).marks) (λ w k n. s.marks w k);
      open_names = λ y z i n. let r = on_before t f c.opened y z i in s.open_names r.0 r.1 r.2 (sym r.3 ∙ n ∙ r.4);
      done_names = s.done_names;
      apart = λ y d i j. on_each t f c.opened (λ (w : Tx Op). w.name ≢ d.name) (λ w k n. s.apart w d k j) (λ w k n. s.apart w d k j) y i;
      open_known = on_each t f c.opened (λ (w : Tx Op). In w.name c.names) (λ w k n. s.open_known w k) (λ w k n. s.open_known w k);
      done_known = s.done_known;
      local_ids = on_each t f c.opened (λ (w : Tx Op). (a b : LocalEntry Op) → Before a b w.local → a.id ≢ b.id) (λ w k n. (same w k n).distinct) (λ w k n. s.local_ids w k);
      shared_ids = λ a b i n. elim (before_added c.shared g a b i) [
        | inl j ↦ s.shared_ids a b j n
        | inr j ↦ new (a, j.0, n ∙ ap (λ (w : SharedEntry Op). w.id) j.1)
      ];
      done_ids = s.done_ids;
      local_used = on_each t f c.opened (λ (w : Tx Op). (a : LocalEntry Op) → In a w.local → In a.id c.ids) (λ w k n. (same w k n).used) (λ w k n. s.local_used w k);
      done_used = s.done_used;
      one_owner = λ u v p q i j. s.one_owner u v p q (old u p i) (old v q j);
      pushed_stand = on_each t f c.opened (λ (w : Tx Op). (a : LocalEntry Op) → In a w.local → a.mark ≡ Pushed → In (as_shared w.name false (item a)) (c.shared ++ g ∷ []))
          (λ w k n a i m. let r = from_map (mark_at id Pushed) a w.local i in elim (mark_cases id Pushed r.0) [
            | inl q ↦ in_right (as_shared w.name false (item a)) c.shared (g ∷ []) (inl (
                ap (λ (z : Name). as_shared z false (item a)) n ∙ ap (λ (z : LocalEntry Op). as_shared t false (item z)) (r.2 ∙ q.1) ∙ ap (λ (z : LocalEntry Op). as_shared t false (item z)) (one_entry O c s x w ix k (n ∙ sym nx) e r.0 ie r.1 (q.0 ∙ sym ne))))
            | inr q ↦ in_left (as_shared w.name false (item a)) c.shared (g ∷ []) (s.pushed_stand w k a (subst (λ (z : LocalEntry Op). In z w.local) (sym (r.2 ∙ q.1)) r.1) m)
          ])
          (λ w k n a i m. in_left (as_shared w.name false (item a)) c.shared (g ∷ []) (s.pushed_stand w k a i m));
      done_stand = λ d i p j. in_left (as_shared d.name true p) c.shared (g ∷ []) (s.done_stand d i p j);
      uncommitted_from = λ h i u. elim (in_cases h c.shared (g ∷ []) i) [
        | inl j ↦ let r = s.uncommitted_from h j u in from h r.0 r.1 r.2 r.3 r.4 r.5 (name_or_not (r.0).name t)
        | inr (inl j) ↦ (
          relog f x,
          in_on_same t f x c.opened ix nx,
          mark_at id Pushed e,
          in_map (mark_at id Pushed) e x.local ie,
          ap (λ (w : LocalEntry Op). w.mark) at_e,
          j ∙ ap (λ (w : Name). as_shared w false (item e)) (sym nx) ∙ ap (λ (w : LocalEntry Op). as_shared x.name false (item w)) (sym at_e),
        )
        | inr (inr j) ↦ absurd j
      ];
      committed_from = λ h i u. elim (in_cases h c.shared (g ∷ []) i) [
        | inl j ↦ s.committed_from h j u
        | inr (inl j) ↦ absurd (let z : false ≡ true = ap (λ (w : SharedEntry Op). w.committed) (sym j) ∙ u in cc)
        | inr (inr j) ↦ absurd j
      ];
      shared_allowed = subst (λ (w : List Op). Allowed O w) (sym (map-append (λ (w : SharedEntry Op). w.op) c.shared (g ∷ []))) allowed;
      local_allowed = on_each t f c.opened (λ (w : Tx Op). Allowed O (local_ops w.local)) (λ w k n. subst (λ (z : List Op). Allowed O z) (sym (same w k n).same_ops) (s.local_allowed w k)) (λ w k n. s.local_allowed w k);
      uncommitted_swap = λ a b i n u. elim (before_added c.shared g a b i) [
        | inl j ↦ s.uncommitted_swap a b j n u
        | inr j ↦ subst (λ (w : SharedEntry Op). Swaps O a.op w.op) (sym j.1) (others a j.0 u (λ z. n (z ∙ ap (λ (w : SharedEntry Op). w.owner) (sym j.1))))
      ];
      late_swap = λ a b i n u v k. elim (before_added c.shared g a b i) [
        | inl j ↦ s.late_swap a b j n u v k
        | inr j ↦ absurd (let z : false ≡ true = ap (λ (w : SharedEntry Op). w.committed) (sym j.1) ∙ v in cc)
      ];
      open_order = on_each t f c.opened (λ (w : Tx Op). KeepsOrder O (c.shared ++ g ∷ []) (own_items w.local))
          (λ w k n. subst (λ (z : List (Item Op)). KeepsOrder O (c.shared ++ g ∷ []) z) (sym (same w k n).same_own)
          (subst (λ (z : Tx Op). KeepsOrder O (c.shared ++ g ∷ []) (own_items z.local)) (sym (one_open O c s x w ix k (n ∙ sym nx))) (order_pushed O c.shared g (own_items x.local) new mine (s.open_order x ix))))
          (λ w k n. order_pushed O c.shared g (own_items w.local) new
          (λ a b i z. absurd (elsewhere O c s x ix e ie own_e w k (λ q. n (q ∙ nx)) b (before_in_second a b (own_items w.local) i) z)) (s.open_order w k));
      done_order = λ d i. order_pushed O c.shared g d.entries new (λ a b j z. absurd (not_done O c s x ix e ie own_e d i b (before_in_second a b d.entries j) z)) (s.done_order d i);
      own_pulled = on_each t f c.opened (λ (w : Tx Op). (a p : LocalEntry Op) → Before a p w.local → is_own a.mark ≡ true → p.mark ≡ Pulled → Swaps O a.op p.op) (λ w k n. (same w k n).pulled) (λ w k n. s.own_pulled w k);
      begun = on_each t f c.opened (λ (w : Tx Op). (own_items w.local ≡ []) ⊎ Begins w.body (calls O (own_items w.local)))
          (λ w k n. subst (λ (z : List (Item Op)). (z ≡ []) ⊎ Begins w.body (calls O z)) (sym (same w k n).same_own) (s.begun w k)) (λ w k n. s.begun w k);
    }
  where
    f : List (LocalEntry Op) → List (LocalEntry Op)
    f = set_mark id Pushed

    g : SharedEntry Op
    g = as_shared t false (item e)

    own_e : is_own e.mark ≡ true
    own_e = ap is_own me

    at_e : mark_at id Pushed e ≡ remark Pushed e
    at_e = elim (mark_cases id Pushed e) [ inl r ↦ r.1 | inr r ↦ absurd (r.0 ne) ]

    new : Stands e.id c.shared → ⊥
    new h = let z : Unpushed ≡ Pushed = sym me ∙ stands_pushed O c s x ix e ie own_e h in cc

    same : (w : Tx Op) → In w c.opened → w.name ≡ t → IsRemarked O c (set_mark id Pushed) w
    same w k n = remarked O c s id Pushed refl w k (λ a i z. ap (λ (b : LocalEntry Op). is_own b.mark) (one_entry O c s x w ix k (n ∙ sym nx) e a ie i (z ∙ sym ne)) ∙ own_e)

    old : (u : Name) (p : Item Op) → Owns (push_effect c t id (Some e)) u p → Owns c u p
    old u p (inr i) = inr i
    old u p (inl i) = on_each t f c.opened (λ (w : Tx Op). w.name ≡ u → In p (own_items w.local) → Owns c u p)
        (λ w k n m j. inl (w, k, m, subst (λ (z : List (Item Op)). In p z) (same w k n).same_own j)) (λ w k n m j. inl (w, k, m, j)) i.0 i.1 i.2 i.3

    from : (h : SharedEntry Op) (y : Tx Op) → In y c.opened → (a : LocalEntry Op) → In a y.local → a.mark ≡ Pushed → h ≡ as_shared y.name false (item a) → (y.name ≡ t) ⊎ (y.name ≢ t) →
        (y : Tx Op) × In y (on_log t f c.opened) × (a : LocalEntry Op) × In a y.local × (a.mark ≡ Pushed) × (h ≡ as_shared y.name false (item a))
    from h y i a j m k (inr n) = (y, in_on_other t f y c.opened i n, a, j, m, k)
    from h y i a j m k (inl n) =
        let still : mark_at id Pushed a ≡ a = elim (mark_cases id Pushed a) [
          | inl r ↦ r.1 ∙ ap (λ (w : Mark). record { id = a.id; owner = a.owner; mark = w; op = a.op }) (sym m)
          | inr r ↦ r.1
        ] in
        (relog f y, in_on_same t f y c.opened i n, a, subst (λ (w : LocalEntry Op). In w (set_mark id Pushed y.local)) still (in_map (mark_at id Pushed) a y.local j), m, k)

    mine : (a b : Item Op) → Before a b (own_items x.local) → b.id ≡ e.id → (Stands a.id c.shared → ⊥) → Swaps O b.op a.op
    mine a b i z n =
        let r = before_from_own x.local a b i in
        let eb : r.1 ≡ e = by_key (λ (w : LocalEntry Op). w.id) x.local (s.local_ids x ix) r.1 e (before_in_second r.0 r.1 x.local r.2) ie (ap (λ (w : Item Op). w.id) (sym r.6) ∙ z) in
        let un : (r.0).mark ≡ Unpushed = unpushed r.0 (before_in_first r.0 r.1 x.local r.2) r.3 (λ h. n (subst (λ (w : ℕ). Stands w c.shared) (ap (λ (w : Item Op). w.id) (sym r.5)) h)) (r.0).mark refl in
        let sw : Swaps O e.op (r.0).op = before r.0 (subst (λ (w : LocalEntry Op). Before r.0 w x.local) eb r.2) un in
        subst (λ (w : Item Op). Swaps O w.op a.op) (sym (r.6 ∙ ap item eb)) (subst (λ (w : Item Op). Swaps O e.op w.op) (sym r.5) sw)
      where
        unpushed : (a : LocalEntry Op) → In a x.local → is_own a.mark ≡ true → (Stands a.id c.shared → ⊥) → (m : Mark) → a.mark ≡ m → a.mark ≡ Unpushed
        unpushed a i o n Unpushed q = q
        unpushed a i o n Pushed q = absurd (n (as_shared x.name false (item a), s.pushed_stand x ix a i q, refl))
        unpushed a i o n Pulled q = absurd (let z : false ≡ true = ap is_own (sym q) ∙ o in cc)

-- A PUSH that meets its criteria keeps a configuration sound.
pub push_keeps : {Op State : Type 0} (O : Object Op State) (c : Config Op) → Sound O c → (t : Name) (id : ℕ) → Meets O c (Push t id) → Sound O (then c (Push t id))
push_keeps {Op} O c s t id h =
    let r = there_holds (tx t c.opened) _ h in
    let k = there_holds (at_mark id Unpushed (r.0).local) _ r.2 in
    let f = found_tx t c.opened r.0 r.1 in
    let q = found_mark id Unpushed (r.0).local k.0 k.1 in
    subst (λ (w : Option (Tx Op)). Sound O (push_effect c t id (entry_of id Unpushed w))) (sym r.1)
    (subst (λ (w : Option (LocalEntry Op)). Sound O (push_effect c t id w)) (sym k.1)
    (pushed_keeps O c s t id r.0 f.0 f.1 k.0 q.0 q.1 q.2 k.2.0 k.2.1.0 k.2.1.1.0))
