-- Slots, of which each has a name and may hold an open transaction.
use Rattle.std.proofs.Common.{◌≡◌, ◌≢◌, ◌⊎◌, ℕ, zero, suc, position, slice_get, Bool, true, false}
use Rattle.std.proofs.Common.{cond, not, ◌||◌, List, [], ◌∷◌, ◌++◌, map, filter, Option, None, Some}
use Rattle.std.proofs.Common.{is_some, refl, sym, ap, subst, ◌∙◌, inl, inr}
use Rattle.std.proofs.lemmas.List.{map-append}
use Rattle.std.specs.List.{list_any}
use Rattle.std.specs.Map.{keys_of, lookup, set_value, values_of}
use Rattle.indexmap.specs.Layout.{set_value_at}
use Rattle.std.proofs.lemmas.Map.Steps.{set_value_same}
use Rattle.std.proofs.lemmas.Option.{same_Some}
use Rattle.pp_model.specs.Lists.{In, Before}
use Rattle.pp_model.specs.Names.{Name, ◌=ⁿ◌}
use Rattle.pp_model.proofs.Lists.{in_cases}
use Rattle.pp_model.proofs.Names.{eq-names, names-true, names_tell}
use Rattle.pp_model.proofs.Finding.{placed, stands_in}
use Rattle.pp_model.proofs.NameLists.{any_joined, any_not, any_skip, apart_more, before_skip}
use Rattle.pp_model.proofs.NameLists.{names_turned, or_last}
use Rattle.pp_core.proofs.Places.{is_none_of}
use Rattle.pp_machine.specs.Transactions.{Open, Txs, Kept, filled, threads_of, open_at, is_begun}
use Rattle.pp_machine.specs.Courses.{Guided}
use Rattle.pp_machine.specs.Transactions.{is_busy, recoursed, with_course, with_open, without_open}

-- The invariant of the transactions is true after one begins.
pub kept_more : (ns ts bs ms us : List Name) (t p : Name) → Kept ns ts bs → list_any (λ n. n =ⁿ t) ns ≡ false → list_any (λ q. q =ⁿ p) bs ≡ false → ms ≡ ns ++ t ∷ [] →
    ((q : Name) → list_any (λ z. q =ⁿ z) us ≡ cond (p =ⁿ q) true (list_any (λ z. q =ⁿ z) ts)) → Kept ms us (bs ++ p ∷ [])
kept_more ns ts bs ms us t p k n i e u = record {
  names_apart = subst (λ (z : List Name). (s t : Name) → Before s t z → s ≢ t) (sym e) (apart_more ns t k.names_apart (any_not ns t n));
  busy_apart = apart_more bs p k.busy_apart (any_not bs p i);
  threads_are = λ q. u q ∙ ap (cond (p =ⁿ q) true) (k.threads_are q) ∙ sym (or_last (list_any (λ z. z =ⁿ q) bs) (p =ⁿ q)) ∙ sym (any_joined bs (p ∷ []) q);
}

-- Names and threads are kept without a thread that is free again.
pub kept_less : (ns ts ms us k l : List Name) (p : Name) → Kept ns ts (k ++ p ∷ l) → ms ≡ ns →
    ((q : Name) → list_any (λ z. q =ⁿ z) us ≡ cond (p =ⁿ q) false (list_any (λ z. q =ⁿ z) ts)) → Kept ms us (k ++ l)
kept_less ns ts ms us k l p h e u = record {
  names_apart = subst (λ (z : List Name). (s t : Name) → Before s t z → s ≢ t) (sym e) h.names_apart;
  busy_apart = λ s t b. h.busy_apart s t (before_skip k l p s t b);
  threads_are = λ q. u q ∙ ap (cond (p =ⁿ q) false) (h.threads_are q) ∙ sym (any_skip k l p q h.busy_apart);
}

-- Names and threads are kept with an equal list of threads.
pub kept_threads : (ns ts bs us : List Name) → Kept ns ts bs → us ≡ ts → Kept ns us bs
kept_threads ns ts bs us h e = subst (λ (z : List Name). Kept ns z bs) (sym e) h

-- If a thread is gone from the threads under one name, it is gone under an equal name.
pub same_gone : (ts us : List Name) (p r : Name) → p ≡ r → ((q : Name) → list_any (λ z. q =ⁿ z) us ≡ cond (r =ⁿ q) false (list_any (λ z. q =ⁿ z) ts)) → (q : Name) → list_any (λ z. q =ⁿ z) us ≡ cond (p =ⁿ q) false (list_any (λ z. q =ⁿ z) ts)
same_gone ts us p r e u q = u q ∙ ap (λ (z : Name). cond (z =ⁿ q) false (list_any (λ z. q =ⁿ z) ts)) (sym e)

-- Names and threads are kept with equal lists of names and of busy threads.
pub kept_same : (ns ts bs ms cs : List Name) → Kept ns ts bs → ms ≡ ns → cs ≡ bs → Kept ms ts cs
kept_same ns ts bs ms cs h e d = subst (λ (z : List Name). Kept z ts cs) (sym e) (subst (λ (z : List Name). Kept ns ts z) (sym d) h)

-- Two functions that agree on each value lend the same.
pub lends_as : {N E D : Type 0} (n : N) {f h : E → D} → ((w : E) → f w ≡ h w) → ◌≡◌ {A = (N × (E → D)) ⊎ D} (inl (n, f)) (inl (n, h))
lends_as n e = λ i. inl (n, λ w. e w i)

-- the entry at a place
module _ {X : Type 0} where
  -- Each slot has a name: if a value is at a position, a name is at this position.
  pub key_at : (es : List (Name × X)) (i : ℕ) (x : X) → slice_get (values_of es) i ≡ Some x → (t : Name) × (slice_get (keys_of es) i ≡ Some t)
  key_at [] i x h = absurd (cc)
  key_at (e ∷ es) zero x h = (e.0, refl)
  key_at (e ∷ es) (suc i) x h = key_at es i x h

  -- Each name has a slot: if a name is at a position, a value is at this position.
  pub value_at : (es : List (Name × X)) (i : ℕ) (t : Name) → slice_get (keys_of es) i ≡ Some t → (x : X) × (slice_get (values_of es) i ≡ Some x)
  value_at [] i t h = absurd (cc)
  value_at (e ∷ es) zero t h = (e.1, refl)
  value_at (e ∷ es) (suc i) t h = value_at es i t h

  -- If the names are distinct, looking up the name at a position finds the value there.
  pub lookup_at : (es : List (Name × X)) (i : ℕ) (t : Name) (x : X) → slice_get (keys_of es) i ≡ Some t → slice_get (values_of es) i ≡ Some x → ((u v : Name) → Before u v (keys_of es) → u ≢ v) → lookup (λ n. t =ⁿ n) es ≡ Some x
  lookup_at [] i t x h k d = absurd (cc)
  lookup_at (e ∷ es) zero t x h k d = ap (λ (b : Bool). cond b (Some e.1) (lookup (λ n. t =ⁿ n) es)) (eq-names t e.0 (sym (same_Some e.0 t h))) ∙ k
  lookup_at (e ∷ es) (suc i) t x h k d = elim (names_tell t e.0) [
    | inl r ↦ absurd (d e.0 t (inl (refl, stands_in (keys_of es) i t h)) (sym r.1))
    | inr r ↦ ap (λ (b : Bool). cond b (Some e.1) (lookup (λ n. t =ⁿ n) es)) r.0 ∙ lookup_at es i t x h k (λ u v b. d u v (inr b))
  ]

  -- To set the value at the position of a name is to set the value of the name.
  pub set_at : (es : List (Name × X)) (i : ℕ) (t : Name) (x : X) → slice_get (keys_of es) i ≡ Some t → ((u v : Name) → Before u v (keys_of es) → u ≢ v) → set_value_at es i x ≡ set_value (λ n. t =ⁿ n) es x
  set_at [] i t x h d = refl
  set_at (e ∷ es) zero t x h d = sym (ap (λ (b : Bool). cond b ((e.0, x) ∷ es) (e ∷ set_value (λ n. t =ⁿ n) es x)) (eq-names t e.0 (sym (same_Some e.0 t h))))
  set_at (e ∷ es) (suc i) t x h d = elim (names_tell t e.0) [
    | inl r ↦ absurd (d e.0 t (inl (refl, stands_in (keys_of es) i t h)) (sym r.1))
    | inr r ↦
        ap (λ (z : List (Name × X)). e ∷ z) (set_at es i t x h (λ u v b. d u v (inr b)))
        ∙ sym (ap (λ (b : Bool). cond b ((e.0, x) ∷ es) (e ∷ set_value (λ n. t =ⁿ n) es x)) r.0)
  ]

-- The position that is found for a name has this name.
pub placed_name : (ns : List Name) (t : Name) (i : ℕ) → Some i ≡ position (λ n. t =ⁿ n) ns → slice_get ns i ≡ Some t
placed_name ns t i e =
    let p = placed (λ (n : Name). t =ⁿ n) ns i (sym e) in
    p.1 ∙ ap (λ (n : Name). Some n) (sym (names-true t p.0 p.2))

cond_back : (b c : Bool) → (b ≡ true → c ≡ false) → cond b false (cond b true c) ≡ c
cond_back true c h = sym (h refl)
cond_back false c h = refl

-- a name that came and went
taken_back : (p q : Name) (c : Bool) → (p ≡ q → c ≡ false) → cond (p =ⁿ q) false (cond (p =ⁿ q) true c) ≡ c
taken_back p q c h = cond_back (p =ⁿ q) c (λ e. h (names-true p q e))

module _ {Shape Op : Type 0} where
  -- none of the transactions has the name t
  abbrev pub Off : Name → List (Open Shape Op) → Type 0
  Off t l = (x : Open Shape Op) → In x l → x.name ≢ t

  off_joined : (t : Name) (k l : List (Open Shape Op)) → Off t k → Off t l → Off t (k ++ l)
  off_joined t k l a b x i = elim (in_cases x k l i) [ inl j ↦ a x j | inr j ↦ b x j ]

  find_off : (t : Name) (l : List (Open Shape Op)) → Off t l → open_at t l ≡ None
  find_off t [] n = refl
  find_off t (x ∷ l) n = elim (names_tell x.name t) [
    | inl r ↦ absurd (n x (inl refl) r.1)
    | inr r ↦ ap (λ (b : Bool). cond b (Some x) (open_at t l)) r.0 ∙ find_off t l (λ z i. n z (inr i))
  ]

  find_here : (t : Name) (k l : List (Open Shape Op)) (x : Open Shape Op) → Off t k → x.name ≡ t → open_at t (k ++ x ∷ l) ≡ Some x
  find_here t [] l x n e = ap (λ (b : Bool). cond b (Some x) (open_at t l)) (eq-names x.name t e)
  find_here t (z ∷ k) l x n e = elim (names_tell z.name t) [
    | inl r ↦ absurd (n z (inl refl) r.1)
    | inr r ↦ ap (λ (b : Bool). cond b (Some z) (open_at t (k ++ x ∷ l))) r.0 ∙ find_here t k l x (λ w i. n w (inr i)) e
  ]

  on_off : (t : Name) (g : Open Shape Op → Open Shape Op) (l : List (Open Shape Op)) → Off t l → map (λ x. cond (x.name =ⁿ t) (g x) x) l ≡ l
  on_off t g [] n = refl
  on_off t g (x ∷ l) n = elim (names_tell x.name t) [
    | inl r ↦ absurd (n x (inl refl) r.1)
    | inr r ↦ ap (λ (b : Bool). cond b (g x) x ∷ map (λ x. cond (x.name =ⁿ t) (g x) x) l) r.0 ∙ ap (λ (w : List (Open Shape Op)). x ∷ w) (on_off t g l (λ z i. n z (inr i)))
  ]

  on_here : (t : Name) (g : Open Shape Op → Open Shape Op) (k l : List (Open Shape Op)) (x : Open Shape Op) → Off t k → Off t l → x.name ≡ t →
      map (λ x. cond (x.name =ⁿ t) (g x) x) (k ++ x ∷ l) ≡ k ++ g x ∷ l
  on_here t g k l x a b e =
      map-append (λ x. cond (x.name =ⁿ t) (g x) x) k (x ∷ l)
      ∙ ap (λ (w : List (Open Shape Op)). w ++ map (λ x. cond (x.name =ⁿ t) (g x) x) (x ∷ l)) (on_off t g k a)
      ∙ ap (λ (w : List (Open Shape Op)). k ++ cond (x.name =ⁿ t) (g x) x ∷ w) (on_off t g l b)
      ∙ ap (λ (c : Bool). k ++ cond c (g x) x ∷ l) (eq-names x.name t e)

  without_off : (t : Name) (l : List (Open Shape Op)) → Off t l → filter (λ x. not (x.name =ⁿ t)) l ≡ l
  without_off t [] n = refl
  without_off t (x ∷ l) n = elim (names_tell x.name t) [
    | inl r ↦ absurd (n x (inl refl) r.1)
    | inr r ↦
        ap (λ (b : Bool). cond (not b) (x ∷ filter (λ x. not (x.name =ⁿ t)) l) (filter (λ x. not (x.name =ⁿ t)) l)) r.0
        ∙ ap (λ (w : List (Open Shape Op)). x ∷ w) (without_off t l (λ z i. n z (inr i)))
  ]

  without_here : (t : Name) (k l : List (Open Shape Op)) (x : Open Shape Op) → Off t k → Off t l → x.name ≡ t → filter (λ x. not (x.name =ⁿ t)) (k ++ x ∷ l) ≡ k ++ l
  without_here t [] l x a b e = ap (λ (c : Bool). cond (not c) (x ∷ filter (λ x. not (x.name =ⁿ t)) l) (filter (λ x. not (x.name =ⁿ t)) l)) (eq-names x.name t e) ∙ without_off t l b
  without_here t (z ∷ k) l x a b e = elim (names_tell z.name t) [
    | inl r ↦ absurd (a z (inl refl) r.1)
    | inr r ↦
        ap (λ (c : Bool). cond (not c) (z ∷ filter (λ x. not (x.name =ⁿ t)) (k ++ x ∷ l)) (filter (λ x. not (x.name =ⁿ t)) (k ++ x ∷ l))) r.0
        ∙ ap (λ (w : List (Open Shape Op)). z ∷ w) (without_here t k l x (λ w i. a w (inr i)) b e)
  ]

module _ {A Shape Op : Type 0} (f : Name → A → Open Shape Op) (named : (n : Name) (a : A) → (f n a).name ≡ n) where
  abbrev slot : Name → Option A → List (Open Shape Op)
  slot n None = []
  slot n (Some a) = f n a ∷ []

  in_filled : (es : List (Name × Option A)) (x : Open Shape Op) → In x (filled f es) → In x.name (keys_of es)
  in_filled [] x i = elim i [ ]
  in_filled ((n, None) ∷ es) x i = inr (in_filled es x i)
  in_filled ((n, Some a) ∷ es) x (inl e) = inl (ap (λ (z : Open Shape Op). z.name) e ∙ named n a)
  in_filled ((n, Some a) ∷ es) x (inr i) = inr (in_filled es x i)

  filled_first : (n : Name) (o : Option A) (es : List (Name × Option A)) → filled f ((n, o) ∷ es) ≡ slot n o ++ filled f es
  filled_first n None es = refl
  filled_first n (Some a) es = refl

  filled_more : (es : List (Name × Option A)) (n : Name) (a : A) → filled f (es ++ (n, Some a) ∷ []) ≡ filled f es ++ f n a ∷ []
  filled_more [] n a = refl
  filled_more ((m, None) ∷ es) n a = filled_more es n a
  filled_more ((m, Some b) ∷ es) n a = ap (λ (w : List (Open Shape Op)). f m b ∷ w) (filled_more es n a)

  filled_none : (es : List (Name × Option A)) (n : Name) → filled f (es ++ (n, None) ∷ []) ≡ filled f es
  filled_none [] n = refl
  filled_none ((m, None) ∷ es) n = filled_none es n
  filled_none ((m, Some b) ∷ es) n = ap (λ (w : List (Open Shape Op)). f m b ∷ w) (filled_none es n)

  -- A name has a slot exactly if it was begun.
  pub begun_is : (es : List (Name × Option A)) (t : Name) → is_some (lookup (λ n. t =ⁿ n) es) ≡ list_any (λ n. n =ⁿ t) (keys_of es)
  begun_is [] t = refl
  begun_is ((n, o) ∷ es) t = elim (names_tell t n) [
    | inl r ↦ ap (λ (b : Bool). is_some (cond b (Some o) (lookup (λ n. t =ⁿ n) es))) r.0 ∙ sym (ap (λ (b : Bool). b || list_any (λ n. n =ⁿ t) (keys_of es)) (sym (names_turned t n) ∙ r.0))
    | inr r ↦
        ap (λ (b : Bool). is_some (cond b (Some o) (lookup (λ n. t =ⁿ n) es))) r.0
        ∙ begun_is es t
        ∙ sym (ap (λ (b : Bool). b || list_any (λ n. n =ⁿ t) (keys_of es)) (sym (names_turned t n) ∙ r.0))
  ]

  -- The slot of a name is among those before a slot, or among those after it, or that slot.
  pub record Located (es : List (Name × Option A)) (t : Name) (s : Option A) : Type 0 where
    pub before : List (Open Shape Op)
    pub after : List (Open Shape Op)
    pub off_before : Off t before
    pub off_after : Off t after
    pub is : filled f es ≡ before ++ (slot t s ++ after)
    pub changed : (r : Option A) → filled f (set_value (λ n. t =ⁿ n) es r) ≡ before ++ (slot t r ++ after)

  off_slot : (t n : Name) (o : Option A) → t ≢ n → Off t (slot n o)
  off_slot t n None d x i = elim i [ ]
  off_slot t n (Some a) d x (inl e) = λ h. d (sym h ∙ ap (λ (z : Open Shape Op). z.name) e ∙ named n a)
  off_slot t n (Some a) d x (inr i) = elim i [ ]

  located_first : (n t : Name) (o s : Option A) (es : List (Name × Option A)) → (t =ⁿ n) ≡ true → t ≡ n → Some o ≡ Some s → ((x : Open Shape Op) → In x (filled f es) → x.name ≢ t) → Located ((n, o) ∷ es) t s
  located_first n t o s es b e h off = record {
    before = [];
    after = filled f es;
    off_before = λ x i. absurd i;
    off_after = off;
    is = filled_first n o es ∙ ap (λ (z : Option A). slot n z ++ filled f es) (same_Some o s h) ∙ ap (λ (z : Name). slot z s ++ filled f es) (sym e);
    changed = λ r.
        ap (λ (c : Bool). filled f (cond c ((n, r) ∷ es) ((n, o) ∷ set_value (λ n. t =ⁿ n) es r))) b
        ∙ filled_first n r es
        ∙ ap (λ (z : Name). slot z r ++ filled f es) (sym e);
  }

  joined_step : (n : Name) (o : Option A) (k l : List (Open Shape Op)) → slot n o ++ (k ++ l) ≡ (slot n o ++ k) ++ l
  joined_step n None k l = refl
  joined_step n (Some a) k l = refl

  located_later : (n t : Name) (o s : Option A) (es : List (Name × Option A)) → (t =ⁿ n) ≡ false → t ≢ n → Located es t s → Located ((n, o) ∷ es) t s
  located_later n t o s es b e r = record {
    before = slot n o ++ r.before;
    after = r.after;
    off_before = off_joined t (slot n o) r.before (off_slot t n o e) r.off_before;
    off_after = r.off_after;
    is = filled_first n o es ∙ ap (λ (z : List (Open Shape Op)). slot n o ++ z) r.is ∙ joined_step n o r.before (slot t s ++ r.after);
    changed = λ q.
        ap (λ (c : Bool). filled f (cond c ((n, q) ∷ es) ((n, o) ∷ set_value (λ n. t =ⁿ n) es q))) b
        ∙ filled_first n o (set_value (λ n. t =ⁿ n) es q)
        ∙ ap (λ (z : List (Open Shape Op)). slot n o ++ z) (r.changed q)
        ∙ joined_step n o r.before (slot t q ++ r.after);
  }

  located : (es : List (Name × Option A)) (t : Name) (s : Option A) → lookup (λ n. t =ⁿ n) es ≡ Some s → ((u v : Name) → Before u v (keys_of es) → u ≢ v) → Located es t s
  located [] t s h d = absurd (cc)
  located ((n, o) ∷ es) t s h d = elim (names_tell t n) [
    | inl r ↦ located_first n t o s es r.0 r.1 (sym (ap (λ (b : Bool). cond b (Some o) (lookup (λ n. t =ⁿ n) es)) r.0) ∙ h) (λ x i e. d n x.name (inl (refl, in_filled es x i)) (sym r.1 ∙ sym e))
    | inr r ↦ located_later n t o s es r.0 r.1 (located es t s (sym (ap (λ (b : Bool). cond b (Some o) (lookup (λ n. t =ⁿ n) es)) r.0) ∙ h) (λ u v i. d u v (inr i)))
  ]

  absent : (es : List (Name × Option A)) (t : Name) → lookup (λ n. t =ⁿ n) es ≡ None → Off t (filled f es)
  absent es t h x i e =
      any_not (keys_of es) t (sym (begun_is es t) ∙ ap is_some h) (subst (λ (z : Name). In z (keys_of es)) e (in_filled es x i))

  -- A name without a slot has no open transaction.
  pub not_begun : (es : List (Name × Option A)) (t : Name) → lookup (λ n. t =ⁿ n) es ≡ None → open_at t (filled f es) ≡ None
  not_begun es t h = find_off t (filled f es) (absent es t h)

  -- A transaction with an empty slot is not open.
  pub not_open : (es : List (Name × Option A)) (t : Name) → lookup (λ n. t =ⁿ n) es ≡ Some None → ((u v : Name) → Before u v (keys_of es) → u ≢ v) → open_at t (filled f es) ≡ None
  not_open es t h d =
      let r = located es t None h d in
      ap (open_at t) r.is ∙ find_off t (r.before ++ r.after) (off_joined t r.before r.after r.off_before r.off_after)

  -- A transaction with a value in its slot is open, with this value.
  pub is_open : (es : List (Name × Option A)) (t : Name) (a : A) → lookup (λ n. t =ⁿ n) es ≡ Some (Some a) → ((u v : Name) → Before u v (keys_of es) → u ≢ v) → open_at t (filled f es) ≡ Some (f t a)
  is_open es t a h d =
      let r = located es t (Some a) h d in
      ap (open_at t) r.is ∙ find_here t r.before r.after (f t a) r.off_before (named t a)

  -- the transactions after a change of a slot
  pub changed_log : (es : List (Name × Option A)) (t : Name) (a b : A) (g : Open Shape Op → Open Shape Op) → lookup (λ n. t =ⁿ n) es ≡ Some (Some a) → ((u v : Name) → Before u v (keys_of es) → u ≢ v) → f t b ≡ g (f t a) →
      filled f (set_value (λ n. t =ⁿ n) es (Some b)) ≡ map (λ x. cond (x.name =ⁿ t) (g x) x) (filled f es)
  changed_log es t a b g h d e =
      let r = located es t (Some a) h d in
      r.changed (Some b)
      ∙ ap (λ (z : Open Shape Op). r.before ++ z ∷ r.after) e
      ∙ sym (on_here t g r.before r.after (f t a) r.off_before r.off_after (named t a))
      ∙ ap (map (λ x. cond (x.name =ⁿ t) (g x) x)) (sym r.is)

  -- To empty the slot of a transaction leaves all other open transactions.
  pub ended : (es : List (Name × Option A)) (t : Name) (a : A) → lookup (λ n. t =ⁿ n) es ≡ Some (Some a) → ((u v : Name) → Before u v (keys_of es) → u ≢ v) →
      filled f (set_value (λ n. t =ⁿ n) es None) ≡ filter (λ x. not (x.name =ⁿ t)) (filled f es)
  ended es t a h d =
      let r = located es t (Some a) h d in
      r.changed None ∙ sym (without_here t r.before r.after (f t a) r.off_before r.off_after (named t a)) ∙ ap (filter (λ x. not (x.name =ⁿ t))) (sym r.is)

  -- If no open transaction has a name, to leave it out changes nothing.
  pub ended_none : (es : List (Name × Option A)) (t : Name) → Off t (filled f es) → filled f es ≡ filter (λ x. not (x.name =ⁿ t)) (filled f es)
  ended_none es t n = sym (without_off t (filled f es) n)

  -- To empty a slot that is empty leaves the open transactions without that name.
  pub same_slot : (es : List (Name × Option A)) (t : Name) → lookup (λ n. t =ⁿ n) es ≡ Some None → ((u v : Name) → Before u v (keys_of es) → u ≢ v) →
      filled f (set_value (λ n. t =ⁿ n) es None) ≡ filter (λ x. not (x.name =ⁿ t)) (filled f es)
  same_slot es t h d =
      let r = located es t None h d in
      r.changed None ∙ sym r.is ∙ ended_none es t (subst (Off t) (sym r.is) (off_joined t r.before r.after r.off_before r.off_after))

  -- If a slot is emptied and its thread freed, names and threads are still kept.
  pub threads_left : (es : List (Name × Option A)) (t : Name) (a : A) → lookup (λ n. t =ⁿ n) es ≡ Some (Some a) → ((u v : Name) → Before u v (keys_of es) → u ≢ v) → (ts ms us : List Name) → Kept (keys_of es) ts (threads_of (filled f es)) → ms ≡ keys_of es →
      ((q : Name) → list_any (λ z. q =ⁿ z) us ≡ cond ((f t a).thread =ⁿ q) false (list_any (λ z. q =ⁿ z) ts)) → Kept ms us (threads_of (filled f (set_value (λ n. t =ⁿ n) es None)))
  threads_left es t a h d ts ms us k e u =
      let r = located es t (Some a) h d in
      let old : threads_of (filled f es) ≡ threads_of r.before ++ (f t a).thread ∷ threads_of r.after = ap (λ (z : List (Open Shape Op)). threads_of z) r.is ∙ map-append (λ x. x.thread) r.before (f t a ∷ r.after) in
      let new : threads_of (filled f (set_value (λ n. t =ⁿ n) es None)) ≡ threads_of r.before ++ threads_of r.after = ap (λ (z : List (Open Shape Op)). threads_of z) (r.changed None) ∙ map-append (λ x. x.thread) r.before r.after in
      subst (λ (z : List Name). Kept ms us z) (sym new) (kept_less (keys_of es) ts ms us (threads_of r.before) (threads_of r.after) (f t a).thread (subst (λ (z : List Name). Kept (keys_of es) ts z) old k) e u)

  -- A changed value with the same thread leaves the busy threads the same.
  pub threads_stay : (es : List (Name × Option A)) (t : Name) (a b : A) → lookup (λ n. t =ⁿ n) es ≡ Some (Some a) → ((u v : Name) → Before u v (keys_of es) → u ≢ v) → (f t b).thread ≡ (f t a).thread →
      threads_of (filled f (set_value (λ n. t =ⁿ n) es (Some b))) ≡ threads_of (filled f es)
  threads_stay es t a b h d e =
      let r = located es t (Some a) h d in
      ap (λ (z : List (Open Shape Op)). threads_of z) (r.changed (Some b))
      ∙ map-append (λ x. x.thread) r.before (f t b ∷ r.after)
      ∙ ap (λ (z : Name). threads_of r.before ++ z ∷ threads_of r.after) e
      ∙ sym (map-append (λ x. x.thread) r.before (f t a ∷ r.after))
      ∙ sym (ap (λ (z : List (Open Shape Op)). threads_of z) r.is)

  abbrev seen : List (Name × Option A) → Txs Shape Op
  seen es = record { names = keys_of es; opened = filled f es }

  -- With no slots and no threads, names and threads are kept.
  pub kept_none : (es : List (Name × Option A)) (ts : List Name) → es ≡ [] → ts ≡ [] → Kept (keys_of es) ts (threads_of (filled f es))
  kept_none es ts e h =
      subst (λ (z : List (Name × Option A)). Kept (keys_of z) ts (threads_of (filled f z))) (sym e)
      (subst (λ (z : List Name). Kept [] z []) (sym h) (record { names_apart = λ s t b. absurd b; busy_apart = λ s t b. absurd b; threads_are = λ p. refl }))

  -- The same for the transactions as they are seen.
  module _ (es : List (Name × Option A)) (ts : List Name) (v : Txs Shape Op) (same : ◌≡◌ {A = Txs Shape Op} (record { names = keys_of es; opened = filled f es }) v) (kept : Kept (keys_of es) ts (threads_of (filled f es))) (t : Name) where
    -- A name without a slot has no open transaction.
    pub no_log : lookup (λ n. t =ⁿ n) es ≡ None → open_at t v.opened ≡ None
    no_log h = ap (λ (w : Txs Shape Op). open_at t w.opened) (sym same) ∙ not_begun es t h

    -- A name with an empty slot has no open transaction.
    pub closed_log : lookup (λ n. t =ⁿ n) es ≡ Some None → open_at t v.opened ≡ None
    closed_log h = ap (λ (w : Txs Shape Op). open_at t w.opened) (sym same) ∙ not_open es t h kept.names_apart

    -- A name with a value in its slot has the open transaction of that value.
    pub open_log : (a : A) → lookup (λ n. t =ⁿ n) es ≡ Some (Some a) → open_at t v.opened ≡ Some (f t a)
    open_log a h = ap (λ (w : Txs Shape Op). open_at t w.opened) (sym same) ∙ is_open es t a h kept.names_apart

    -- after a change of the slot of t
    pub seen_coursed : (a b : A) (k : Guided Shape Op) (fs : List (Name × Option A)) → lookup (λ n. t =ⁿ n) es ≡ Some (Some a) → f t b ≡ recoursed k (f t a) → fs ≡ set_value (λ n. t =ⁿ n) es (Some b) → keys_of fs ≡ keys_of es →
        ◌≡◌ {A = Txs Shape Op} (record { names = keys_of fs; opened = filled f fs }) (with_course t k v)
    seen_coursed a b k fs l e m n =
        let opened : filled f fs ≡ map (λ x. cond (x.name =ⁿ t) (recoursed k x) x) (filled f es) = ap (filled f) m ∙ changed_log es t a b (recoursed k) l kept.names_apart e in
        ap (λ (z : List Name). record { names = z; opened = filled f fs }) n
        ∙ ap (λ (z : List (Open Shape Op)). record { names = keys_of es; opened = z }) opened
        ∙ ap (with_course t k) same

    -- A changed value in a slot, with the same thread, keeps names and threads.
    pub kept_changed : (a b : A) (fs : List (Name × Option A)) → lookup (λ n. t =ⁿ n) es ≡ Some (Some a) → (f t b).thread ≡ (f t a).thread → fs ≡ set_value (λ n. t =ⁿ n) es (Some b) → keys_of fs ≡ keys_of es → Kept (keys_of fs) ts (threads_of (filled f fs))
    kept_changed a b fs k e m n =
        kept_same (keys_of es) ts (threads_of (filled f es)) (keys_of fs) (threads_of (filled f fs)) kept n (ap (λ (z : List (Name × Option A)). threads_of (filled f z)) m ∙ threads_stay es t a b k kept.names_apart e)

    -- after the slot of t is emptied
    pub seen_ended : (a : A) (fs : List (Name × Option A)) → lookup (λ n. t =ⁿ n) es ≡ Some (Some a) → fs ≡ set_value (λ n. t =ⁿ n) es None → keys_of fs ≡ keys_of es → ◌≡◌ {A = Txs Shape Op} (record { names = keys_of fs; opened = filled f fs }) (without_open t v)
    seen_ended a fs k m n =
        ap (λ (z : List Name). record { names = z; opened = filled f fs }) n
        ∙ ap (λ (z : List (Open Shape Op)). record { names = keys_of es; opened = z }) (ap (filled f) m ∙ ended es t a k kept.names_apart)
        ∙ ap (without_open t) same

    -- To empty a slot and free its thread keeps names and threads.
    pub kept_ended : (a : A) (fs : List (Name × Option A)) (us : List Name) → lookup (λ n. t =ⁿ n) es ≡ Some (Some a) → fs ≡ set_value (λ n. t =ⁿ n) es None → keys_of fs ≡ keys_of es →
        ((q : Name) → list_any (λ z. q =ⁿ z) us ≡ cond ((f t a).thread =ⁿ q) false (list_any (λ z. q =ⁿ z) ts)) → Kept (keys_of fs) us (threads_of (filled f fs))
    kept_ended a fs us k m n u =
        subst (λ (z : List (Name × Option A)). Kept (keys_of fs) us (threads_of (filled f z))) (sym m) (threads_left es t a k kept.names_apart ts (keys_of fs) us kept n u)

    -- To empty an empty slot makes the transactions seen without that name.
    pub seen_empty : (fs : List (Name × Option A)) → lookup (λ n. t =ⁿ n) es ≡ Some None → fs ≡ set_value (λ n. t =ⁿ n) es None → keys_of fs ≡ keys_of es → ◌≡◌ {A = Txs Shape Op} (record { names = keys_of fs; opened = filled f fs }) (without_open t v)
    seen_empty fs k m n =
        ap (λ (z : List Name). record { names = z; opened = filled f fs }) n
        ∙ ap (λ (z : List (Open Shape Op)). record { names = keys_of es; opened = z }) (ap (filled f) m ∙ same_slot es t k kept.names_apart)
        ∙ ap (without_open t) same

    -- To empty an empty slot keeps names and threads.
    pub kept_empty : (fs : List (Name × Option A)) → lookup (λ n. t =ⁿ n) es ≡ Some None → fs ≡ set_value (λ n. t =ⁿ n) es None → keys_of fs ≡ keys_of es → Kept (keys_of fs) ts (threads_of (filled f fs))
    kept_empty fs k m n =
        let r = located es t None k kept.names_apart in
        kept_same (keys_of es) ts (threads_of (filled f es)) (keys_of fs) (threads_of (filled f fs)) kept n (ap (λ (z : List (Name × Option A)). threads_of (filled f z)) m ∙ ap (λ (z : List (Open Shape Op)). threads_of z) (r.changed None ∙ sym r.is))

    -- after a transaction has begun
    pub not_there : is_begun v t ≡ false → lookup (λ n. t =ⁿ n) es ≡ None
    not_there h = is_none_of (lookup (λ n. t =ⁿ n) es) (begun_is es t ∙ ap (λ (w : Txs Shape Op). is_begun w t) same ∙ h)

    -- A new slot at the end makes the transactions seen with one more open one.
    pub seen_begun : (a : A) (fs : List (Name × Option A)) → fs ≡ es ++ (t, Some a) ∷ [] → ◌≡◌ {A = Txs Shape Op} (record { names = keys_of fs; opened = filled f fs }) (with_open (f t a) v)
    seen_begun a fs m =
        ap seen m
        ∙ ap (λ (z : List Name). record { names = z; opened = filled f (es ++ (t, Some a) ∷ []) }) (map-append (λ e. e.0) es ((t, Some a) ∷ []) ∙ ap (λ (z : Name). keys_of es ++ z ∷ []) (sym (named t a)))
        ∙ ap (λ (z : List (Open Shape Op)). record { names = keys_of es ++ (f t a).name ∷ []; opened = z }) (filled_more es t a)
        ∙ ap (with_open (f t a)) same

    -- A new slot for a new name on an idle thread keeps names and threads.
    pub kept_begun : (a : A) (fs : List (Name × Option A)) (us : List Name) → is_begun v t ≡ false → is_busy v (f t a).thread ≡ false → fs ≡ es ++ (t, Some a) ∷ [] →
        ((q : Name) → list_any (λ z. q =ⁿ z) us ≡ cond ((f t a).thread =ⁿ q) true (list_any (λ z. q =ⁿ z) ts)) → Kept (keys_of fs) us (threads_of (filled f fs))
    kept_begun a fs us n i m u =
        let busy : threads_of (filled f fs) ≡ threads_of (filled f es) ++ (f t a).thread ∷ [] = ap (λ (z : List (Name × Option A)). threads_of (filled f z)) m ∙ ap (λ (z : List (Open Shape Op)). threads_of z) (filled_more es t a) ∙ map-append (λ x. x.thread) (filled f es) (f t a ∷ []) in
        subst (λ (z : List Name). Kept (keys_of fs) us z) (sym busy) (kept_more (keys_of es) ts (threads_of (filled f es)) (keys_of fs) us t (f t a).thread kept
        (ap (λ (w : Txs Shape Op). is_begun w t) same ∙ n) (ap (λ (w : Txs Shape Op). is_busy w (f t a).thread) same ∙ i) (ap (λ (z : List (Name × Option A)). keys_of z) m ∙ map-append (λ e. e.0) es ((t, Some a) ∷ [])) u)

    -- after a name was used up
    pub seen_used : (fs : List (Name × Option A)) → fs ≡ es ++ (t, None) ∷ [] → ◌≡◌ {A = Txs Shape Op} (record { names = keys_of fs; opened = filled f fs }) (record { names = v.names ++ t ∷ []; opened = v.opened })
    seen_used fs m =
        ap seen m
        ∙ ap (λ (z : List Name). record { names = z; opened = filled f (es ++ (t, None) ∷ []) }) (map-append (λ e. e.0) es ((t, None) ∷ []))
        ∙ ap (λ (z : List (Open Shape Op)). record { names = keys_of es ++ t ∷ []; opened = z }) (filled_none es t)
        ∙ ap (λ (w : Txs Shape Op). record { names = w.names ++ t ∷ []; opened = w.opened }) same

    -- A new empty slot for a new name keeps names and threads.
    pub kept_used : (fs : List (Name × Option A)) → is_begun v t ≡ false → fs ≡ es ++ (t, None) ∷ [] → Kept (keys_of fs) ts (threads_of (filled f fs))
    kept_used fs n m =
        subst (λ (z : List (Name × Option A)). Kept (keys_of z) ts (threads_of (filled f z))) (sym m)
        (subst (λ (z : List (Open Shape Op)). Kept (keys_of (es ++ (t, None) ∷ [])) ts (threads_of z)) (sym (filled_none es t))
        (record {
          names_apart = subst (λ (z : List Name). (p q : Name) → Before p q z → p ≢ q) (sym (map-append (λ e. e.0) es ((t, None) ∷ []))) (apart_more (keys_of es) t kept.names_apart (any_not (keys_of es) t (ap (λ (w : Txs Shape Op). is_begun w t) same ∙ n)));
          busy_apart = kept.busy_apart;
          threads_are = kept.threads_are;
        }))

    -- Equal slots keep names and threads.
    pub kept_as : (fs : List (Name × Option A)) → fs ≡ es → Kept (keys_of fs) ts (threads_of (filled f fs))
    kept_as fs m = subst (λ (z : List (Name × Option A)). Kept (keys_of z) ts (threads_of (filled f z))) (sym m) kept

    -- Equal slots leave the transactions as they were seen.
    pub seen_same : (fs : List (Name × Option A)) → fs ≡ es → ◌≡◌ {A = Txs Shape Op} (record { names = keys_of fs; opened = filled f fs }) v
    seen_same fs m = ap seen m ∙ same

    -- To empty an empty slot leaves the transactions as they were seen.
    pub seen_closed : (fs : List (Name × Option A)) → lookup (λ n. t =ⁿ n) es ≡ Some None → fs ≡ set_value (λ n. t =ⁿ n) es None → ◌≡◌ {A = Txs Shape Op} (record { names = keys_of fs; opened = filled f fs }) v
    seen_closed fs k m = seen_same fs (m ∙ set_value_same (λ n. t =ⁿ n) es None k)

    -- The set of busy threads after a thread that was not busy is added and taken out again.
    pub kept_back : (p : Name) (us ws : List Name) → is_busy v p ≡ false → ((q : Name) → list_any (λ z. q =ⁿ z) us ≡ cond (p =ⁿ q) true (list_any (λ z. q =ⁿ z) ts)) →
        ((q : Name) → list_any (λ z. q =ⁿ z) ws ≡ cond (p =ⁿ q) false (list_any (λ z. q =ⁿ z) us)) → (fs : List (Name × Option A)) → fs ≡ es → Kept (keys_of fs) ws (threads_of (filled f fs))
    kept_back p us ws idle come gone fs m =
        subst (λ (z : List (Name × Option A)). Kept (keys_of z) ws (threads_of (filled f z))) (sym m)
        (record {
          names_apart = kept.names_apart;
          busy_apart = kept.busy_apart;
          threads_are = λ q. gone q ∙ ap (cond (p =ⁿ q) false) (come q) ∙ taken_back p q (list_any (λ z. q =ⁿ z) ts) (λ e. kept.threads_are q ∙ ap (λ (z : Name). list_any (λ w. w =ⁿ z) (threads_of (filled f es))) (sym e) ∙ ap (λ (w : Txs Shape Op). is_busy w p) same ∙ idle) ∙ kept.threads_are q;
        })
