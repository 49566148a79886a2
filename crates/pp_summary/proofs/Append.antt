-- APP and PUSH of a record, after its refresh.
use Rattle.std.specs.Prelude.{◌≡◌, ◌≢◌, ℕ, Bool, true, false, not, cond, List, [], ◌∷◌, ◌++◌, Option, Some}
use Rattle.std.proofs.Common.{refl, sym, ap, subst, ◌∙◌}
use Rattle.std.proofs.lemmas.List.{map-append}
use Rattle.std.proofs.lemmas.Bool.{eq-eqb}
use mathlib.Core.Logic.{inl, inr}
use Rattle.pp_model.specs.Body.{Begins}
use Rattle.pp_model.specs.Lists.{In, Before}
use Rattle.pp_model.specs.Names.{Name}
use Rattle.pp_model.specs.Object.{Object, Allowed, Swaps}
use Rattle.pp_model.specs.Config.{Mark, Unpushed, Pushed, Pulled, is_own, LocalEntry, SharedEntry, Tx, Config, App, Push, item, own_items, shared_ops, as_shared, tx, then, push_effect, entry_of, at_mark, on_log, relog, set_mark}
use Rattle.pp_model.specs.Rules.{Meets, calls}
use Rattle.pp_model.specs.Sound.{Sound}
use Rattle.pp_model.proofs.Lists.{in_left, in_right, in_cases, before_left, before_across, before_in_first, by_key, from_filter}
use Rattle.pp_model.proofs.Logs.{found_tx, on_each, in_on_same}
use Rattle.pp_model.proofs.Begin.{before_added}
use Rattle.pp_model.proofs.Alone.{there_is}
use Rattle.pp_model.proofs.Keeps.{step_keeps}
use Rattle.pp_model.proofs.Push.{mark_at, remark, marked_other}
use Rattle.pp_records.specs.Expansions.{stands_in}
use Rattle.pp_summary.specs.Boosted.{PlacesSwap, Follows, Boosted, BoostedBut, Anchored, IsDoneAt, ComesBefore, rest}
use Rattle.pp_summary.proofs.Front.{stands, end_allowed}
use Rattle.pp_model.proofs.Names.{name_or_not}
use Rattle.pp_laws_summary.proofs.Entries.{is_there, entry_in, was_false, same_or_not}
use Rattle.pp_laws_summary.proofs.Lookups.{tx_is, mark_is, there_of}

-- A mark at the id of the last entry alone changes only the mark of this entry.
pub marked_last : {Op : Type 0} (id : ℕ) (m : Mark) (l : List (LocalEntry Op)) (e : LocalEntry Op) → ((a : LocalEntry Op) → In a l → a.id ≢ id) → e.id ≡ id → set_mark id m (l ++ e ∷ []) ≡ l ++ remark m e ∷ []
marked_last {Op} id m l e h n = map-append (mark_at id m) l (e ∷ [])
    ∙ ap (λ (w : List (LocalEntry Op)). w ++ mark_at id m e ∷ []) (marked_other id m l h)
    ∙ ap (λ (z : Bool). l ++ cond z (remark m e) e ∷ []) (eq-eqb e.id id n)

-- If the shared log gets an uncommitted entry with a new id at its end, a local log still follows it.
pub follows_wider : {Op State : Type 0} (O : Object Op State) (place : Op → ℕ) (G : List (SharedEntry Op)) (L : List (LocalEntry Op)) (p : SharedEntry Op) → p.committed ≡ false →
    ((l : LocalEntry Op) → In l L → l.id ≢ p.id) → Follows O place G L → Follows O place (G ++ p ∷ []) L
follows_wider {Op} O place G L p u new f =
    record {
      own_pushed = f.own_pushed;
      own_order = λ a b i o r. let k = f.own_order a b i o r in (k.0, k.1, before_left k.0 k.1 G (p ∷ []) k.2, k.3, k.4);
      pulled_stand = λ a i m. in_left (as_shared a.owner true (item a)) G (p ∷ []) (f.pulled_stand a i m);
      late = λ l r i d st un. f.late l r i (done r d.0 d.1, d.1, d.2) (elim (before_added G p st.0 st.1 st.2) [
        | inl j ↦ (st.0, st.1, j, st.3, st.4)
        | inr j ↦ absurd (new l i (sym st.4 ∙ ap (λ (w : SharedEntry Op). w.id) j.1))
      ]) un;
    }
  where
    done : (r : SharedEntry Op) → In r (G ++ p ∷ []) → r.committed ≡ true → In r G
    done r i v = elim (in_cases r G (p ∷ []) i) [
      | inl j ↦ j
      | inr (inl j) ↦ absurd (let z : true ≡ false = sym v ∙ ap (λ (w : SharedEntry Op). w.committed) j ∙ u in cc)
      | inr (inr j) ↦ absurd j
    ]

module _ {Op State : Type 0} (O : Object Op State) (place : Op → ℕ) (apart : PlacesSwap O place)
    (t : Name) (c : Config Op) (b : BoostedBut O place t c) (x : Tx Op) (lookup : tx t c.opened ≡ Some x) (id : ℕ) (op : Op)
    (full : (r : SharedEntry Op) → IsDoneAt place (place op) c.shared r → stands_in x.local r.id ≡ true) where
  -- The criteria of the APP and the PUSH of an operation, as one condition on the configuration before both.
  pub record Asked : Type 0 where
    pub new : In id c.ids → ⊥
    pub begins : Begins x.body (calls O (own_items x.local) ++ O.call op ∷ [])
    pub passes : (u : SharedEntry Op) → In u c.shared → u.committed ≡ false → u.owner ≢ t → Swaps O u.op op
    pub allowed : Allowed O (shared_ops c.shared ++ op ∷ [])

  ix : In x c.opened
  ix = (found_tx t c.opened x lookup).0

  nx : x.name ≡ t
  nx = (found_tx t c.opened x lookup).1

  f : Follows O place c.shared x.local
  f = b.follows x ix

  abbrev unpushed : LocalEntry Op
  unpushed = record { id = id; owner = t; mark = Unpushed; op = op }

  abbrev now_pushed : LocalEntry Op
  now_pushed = record { id = id; owner = t; mark = Pushed; op = op }

  abbrev entry : SharedEntry Op
  entry = record { id = id; owner = t; committed = false; op = op }

  abbrev one : Config Op
  one = then c (App t id op)

  abbrev x1 : Tx Op
  x1 = relog (λ l. l ++ unpushed ∷ []) x

  -- The configuration after the APP and the PUSH of one operation.
  abbrev pub two : Config Op
  two = record { names = c.names; ids = id ∷ c.ids; opened = on_log t (set_mark id Pushed) (on_log t (λ l. l ++ unpushed ∷ []) c.opened); shared = c.shared ++ entry ∷ []; done = c.done }

  -- An APP that meets its criteria has a new id, and its call may follow.
  pub asked_app : Meets O c (App t id op) → (In id c.ids → ⊥) × Begins x.body (calls O (own_items x.local) ++ O.call op ∷ [])
  asked_app h = let k = there_of (tx t c.opened) _ x lookup h in (k.0, k.1.0)

  -- The APP meets its criteria if `Asked` is true. Its criterion 4 follows from the criteria 4 and 5 of the PUSH.
  pub app_holds : Asked → Meets O c (App t id op)
  app_holds a = there_is (tx t c.opened) _ x lookup (a.new, (a.begins, (end_allowed O place apart c b.sound x ix f op passed a.allowed, refl)))
    where
      passed : (q : SharedEntry Op) → In q (rest x.local c.shared) → Swaps O q.op op
      passed q i = elim (same_or_not (place q.op) (place op)) [ inl p ↦ by q.committed refl p | inr p ↦ apart.apart q.op op p ]
        where
          k : In q c.shared × (not (stands_in x.local q.id) ≡ true)
          k = from_filter (λ (g : SharedEntry Op). not (stands_in x.local g.id)) q c.shared i

          not_in : stands_in x.local q.id ≡ true → ⊥
          not_in e = let z : true ≡ false = sym e ∙ was_false (stands_in x.local q.id) k.1 in cc

          by : (z : Bool) → q.committed ≡ z → place q.op ≡ place op → Swaps O q.op op
          by true v p = absurd (not_in (full q (k.0, v, p)))
          by false v p = elim (name_or_not q.owner t) [
            | inl n ↦
                let r = b.sound.uncommitted_from q k.0 v in
                let y : r.0 ≡ x = by_key (λ (w : Tx Op). w.name) c.opened b.sound.open_names r.0 x r.1 ix (ap (λ (w : SharedEntry Op). w.owner) (sym r.5) ∙ n ∙ sym nx) in
                absurd (not_in (is_there q.id x.local r.2 (subst (λ (w : Tx Op). In r.2 w.local) y r.3) (ap (λ (w : SharedEntry Op). w.id) (sym r.5))))
            | inr n ↦ a.passes q k.0 v n
          ]

  -- An id that was not used is in no local log.
  fresh : (In id c.ids → ⊥) → (y : Tx Op) → In y c.opened → (e : LocalEntry Op) → In e y.local → e.id ≢ id
  fresh new y i e j n = new (subst (λ (w : ℕ). In w c.ids) n (b.sound.local_used y i e j))

  sound_one : Meets O c (App t id op) → Sound O one
  sound_one h = step_keeps O c (App t id op) b.sound h

  lookup_one : Meets O c (App t id op) → tx t one.opened ≡ Some x1
  lookup_one h = tx_is O one (sound_one h) t x1 (in_on_same t (λ l. l ++ unpushed ∷ []) x c.opened ix nx) nx

  mark_one : Meets O c (App t id op) → at_mark id Unpushed (x.local ++ unpushed ∷ []) ≡ Some unpushed
  mark_one h = mark_is (x.local ++ unpushed ∷ []) ((sound_one h).local_ids x1 (in_on_same t (λ l. l ++ unpushed ∷ []) x c.opened ix nx)) id Unpushed unpushed
      (in_right unpushed x.local (unpushed ∷ []) (inl refl)) refl refl

  -- If a PUSH right after its APP meets its criteria, others swap with it, and it is allowed.
  pub asked_push : Meets O c (App t id op) → Meets O one (Push t id) →
      ((u : SharedEntry Op) → In u c.shared → u.committed ≡ false → u.owner ≢ t → Swaps O u.op op) × Allowed O (shared_ops c.shared ++ op ∷ [])
  asked_push h k = let r = there_of (at_mark id Unpushed (x.local ++ unpushed ∷ [])) _ unpushed (mark_one h) (there_of (tx t one.opened) _ x1 (lookup_one h) k) in (r.1.0, r.1.1.0)

  -- A PUSH right after its APP meets its criteria if `Asked` is true.
  pub push_holds : (h : Meets O c (App t id op)) → Asked → Meets O one (Push t id)
  push_holds h a = there_is (tx t one.opened) _ x1 (lookup_one h) (there_is (at_mark id Unpushed (x.local ++ unpushed ∷ [])) _ unpushed (mark_one h) (
    (λ p i m. absurd (none p i m)),
    (a.passes, (a.allowed, refl)),
  ))
    where
      none : (p : LocalEntry Op) → Before p unpushed (x.local ++ unpushed ∷ []) → p.mark ≡ Unpushed → ⊥
      none p i m =
          let j : In p x.local = elim (before_added x.local unpushed p unpushed i) [ inl k ↦ before_in_first p unpushed x.local k | inr k ↦ k.0 ] in
          let z : Unpushed ≡ Pushed = sym m ∙ f.own_pushed p j (ap is_own m) in
          cc

  -- An APP and its PUSH lead to the configuration with the pushed entry in both logs.
  pub then_two : Meets O c (App t id op) → then one (Push t id) ≡ two
  then_two h = ap (λ (w : Option (Tx Op)). push_effect one t id (entry_of id Unpushed w)) (lookup_one h) ∙ ap (λ (w : Option (LocalEntry Op)). push_effect one t id w) (mark_one h)

  follows_entry : (In id c.ids → ⊥) → Follows O place (c.shared ++ entry ∷ []) (x.local ++ now_pushed ∷ [])
  follows_entry new =
      record {
        own_pushed = λ a i o. elim (in_cases a x.local (now_pushed ∷ []) i) [ inl j ↦ w.own_pushed a j o | inr j ↦ ap (λ (z : LocalEntry Op). z.mark) (is_e a j) ];
        own_order = λ p q i o r. elim (before_added x.local now_pushed p q i) [
          | inl j ↦ w.own_order p q j o r
          | inr j ↦
              let k = stands O place apart c b.sound x ix f p j.0 in
              (as_shared k.0 k.1 (item p), entry, before_across (as_shared k.0 k.1 (item p)) entry c.shared (entry ∷ []) k.2 (inl refl), refl, ap (λ (z : LocalEntry Op). z.id) (sym j.1))
        ];
        pulled_stand = λ p i m. elim (in_cases p x.local (now_pushed ∷ []) i) [
          | inl j ↦ w.pulled_stand p j m
          | inr j ↦ absurd (let z : Pushed ≡ Pulled = ap (λ (z : LocalEntry Op). z.mark) (sym (is_e p j)) ∙ m in cc)
        ];
        late = λ l r i d st un. elim (in_cases l x.local (now_pushed ∷ []) i) [
          | inl j ↦ w.late l r j d st (λ z. un (z.0, z.1, before_left z.0 z.1 x.local (now_pushed ∷ []) z.2, z.3, z.4))
          | inr j ↦ absurd (un (behind l r (is_e l j) d))
        ];
      }
    where
      w : Follows O place (c.shared ++ entry ∷ []) x.local
      w = follows_wider O place c.shared x.local entry refl (fresh new x ix) f

      is_e : (a : LocalEntry Op) → In a (now_pushed ∷ []) → a ≡ now_pushed
      is_e a (inl k) = k
      is_e a (inr k) = elim k [ ]

      behind : (l : LocalEntry Op) (r : SharedEntry Op) → l ≡ now_pushed → IsDoneAt place (place l.op) (c.shared ++ entry ∷ []) r → ComesBefore r.id l.id (x.local ++ now_pushed ∷ [])
      behind l r e d =
          let i : In r c.shared = elim (in_cases r c.shared (entry ∷ []) d.0) [
            | inl j ↦ j
            | inr (inl j) ↦ absurd (let z : true ≡ false = sym d.1 ∙ ap (λ (z : SharedEntry Op). z.committed) j in cc)
            | inr (inr j) ↦ absurd j
          ] in
          let k = entry_in r.id x.local (full r (i, d.1, d.2 ∙ ap (λ (z : LocalEntry Op). place z.op) e)) in
          (k.0, now_pushed, before_across k.0 now_pushed x.local (now_pushed ∷ []) k.1 (inl refl), k.2, ap (λ (z : LocalEntry Op). z.id) (sym e))

  -- The APP and the PUSH lead to a boosted configuration.
  pub two_boosted : (h : Meets O c (App t id op)) → Meets O one (Push t id) → Anchored place (x.local ++ now_pushed ∷ []) → Boosted O place two
  two_boosted h k anchors =
      record {
        sound = subst (λ (w : Config Op). Sound O w) (then_two h) (step_keeps O one (Push t id) (sound_one h) k);
        follows = each (λ L. Follows O place (c.shared ++ entry ∷ []) L) (follows_entry new) (λ y i n. follows_wider O place c.shared y.local entry refl (fresh new y i) (b.follows y i));
        anchored = each (Anchored place) anchors (λ y i n. b.anchored y i n);
      }
    where
      new : In id c.ids → ⊥
      new = (asked_app h).0

      each : (P : List (LocalEntry Op) → Type 0) → P (x.local ++ now_pushed ∷ []) → ((y : Tx Op) → In y c.opened → y.name ≢ t → P y.local) → (y : Tx Op) → In y two.opened → P y.local
      each P p others = on_each t (set_mark id Pushed) one.opened (λ (w : Tx Op). P w.local)
          (on_each t (λ l. l ++ unpushed ∷ []) c.opened (λ (w : Tx Op). w.name ≡ t → P (set_mark id Pushed w.local))
          (λ y i n m. subst (λ (w : Tx Op). P (set_mark id Pushed (w.local ++ unpushed ∷ []))) (by_key (λ (w : Tx Op). w.name) c.opened b.sound.open_names x y ix i (nx ∙ sym n))
          (subst P (sym (marked_last id Pushed x.local unpushed (fresh new x ix) refl)) p))
          (λ y i n m. absurd (n m)))
          (on_each t (λ l. l ++ unpushed ∷ []) c.opened (λ (w : Tx Op). w.name ≢ t → P w.local) (λ y i n m. absurd (m n)) (λ y i n m. others y i n))
