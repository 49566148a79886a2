-- The transactions in slots, after a change of one.
use Rattle.std.specs.Prelude.{◌≡◌, ◌≢◌, ◌⊎◌, ◌||◌, Bool, true, false, not, cond, List, [], ◌∷◌, ◌++◌, map, is_some, option_map, Option, None, Some}
use Rattle.std.specs.List.{list_any}
use Rattle.std.specs.Map.{keys_of, lookup, set_value}
use Rattle.std.proofs.Common.{refl, sym, ap, ◌∙◌}
use Rattle.std.proofs.lemmas.Option.{same_Some}
use mathlib.Core.Logic.{inl, inr}
use Rattle.pp_model.specs.Lists.{In, Before}
use Rattle.pp_model.specs.Names.{Name, ◌=ⁿ◌}
use Rattle.pp_model.proofs.Names.{eq-names, names_tell}
use Rattle.pp_model.proofs.NameLists.{names_turned}
use Rattle.pp_summary.specs.Brief.{BriefTx, at_brief, brief_of, without_brief}
use Rattle.pp_summary.specs.Shown.{filled, in_slot, open_in}

-- Setting the value of a name leaves the list of names the same.
pub keys_stay : {X : Type 0} (t : Name) (es : List (Name × X)) (x : X) → keys_of (set_value (λ n. t =ⁿ n) es x) ≡ keys_of es
keys_stay t [] x = refl
keys_stay {X} t (e ∷ es) x = by (t =ⁿ e.0) (keys_stay t es x)
  where
    by : (b : Bool) → keys_of (set_value (λ n. t =ⁿ n) es x) ≡ keys_of es → keys_of (cond b ((e.0, x) ∷ es) (e ∷ set_value (λ n. t =ⁿ n) es x)) ≡ e.0 ∷ keys_of es
    by true k = refl
    by false k = ap (λ (w : List Name). e.0 ∷ w) k

-- A name has a slot exactly if it is among the names of the slots.
pub begun_is : {X : Type 0} (es : List (Name × X)) (t : Name) → is_some (lookup (λ n. t =ⁿ n) es) ≡ list_any (λ n. n =ⁿ t) (keys_of es)
begun_is [] t = refl
begun_is (e ∷ es) t = elim (names_tell t e.0) [
  | inl r ↦ ap (λ (b : Bool). is_some (cond b (Some e.1) (lookup (λ n. t =ⁿ n) es))) r.0 ∙ sym (ap (λ (b : Bool). b || list_any (λ n. n =ⁿ t) (keys_of es)) (sym (names_turned t e.0) ∙ r.0))
  | inr r ↦ ap (λ (b : Bool). is_some (cond b (Some e.1) (lookup (λ n. t =ⁿ n) es))) r.0 ∙ begun_is es t ∙ sym (ap (λ (b : Bool). b || list_any (λ n. n =ⁿ t) (keys_of es)) (sym (names_turned t e.0) ∙ r.0))
]

-- After the value of a name was set, each slot is an old one or has the new value.
pub in_set : {X : Type 0} (t : Name) (es : List (Name × X)) (x : X) (e : Name × X) → In e (set_value (λ n. t =ⁿ n) es x) → In e es ⊎ (e.1 ≡ x)
in_set t [] x e h = absurd h
in_set {X} t (d ∷ es) x e h = by (t =ⁿ d.0) h (λ k. in_set t es x e k)
  where
    by : (b : Bool) → In e (cond b ((d.0, x) ∷ es) (d ∷ set_value (λ n. t =ⁿ n) es x)) → (In e (set_value (λ n. t =ⁿ n) es x) → In e es ⊎ (e.1 ≡ x)) → In e (d ∷ es) ⊎ (e.1 ≡ x)
    by true (inl k) r = inr (ap (λ (w : Name × X). w.1) k)
    by true (inr k) r = inl (inr k)
    by false (inl k) r = inl (inl k)
    by false (inr k) r = elim (r k) [ inl j ↦ inl (inr j) | inr j ↦ inr j ]

-- No name has two slots.
abbrev pub Apart : {X : Type 0} → List (Name × X) → Type 0
Apart es = (s t : Name) → Before s t (keys_of es) → s ≢ t

-- The name of each entry is among the names.
pub in_keys : {X : Type 0} (es : List (Name × X)) (e : Name × X) → In e es → In e.0 (keys_of es)
in_keys [] e h = absurd h
in_keys {X} (d ∷ es) e (inl h) = inl (ap (λ (w : Name × X). w.0) h)
in_keys (d ∷ es) e (inr h) = inr (in_keys es e h)

module _ {A Op : Type 0} (t : Name) (f h : Name → A → BriefTx Op) (named : (n : Name) (x : A) → (f n x).name ≡ n) where
  -- If the view of each transaction in a slot changes by g, the list of views changes by g.
  pub filled_map : (g : BriefTx Op → BriefTx Op) (es : List (Name × Option A)) → ((n : Name) (x : A) → In (n, Some x) es → h n x ≡ g (f n x)) → filled h es ≡ map g (filled f es)
  filled_map g [] k = refl
  filled_map g ((n, None) ∷ es) k = filled_map g es (λ m x i. k m x (inr i))
  filled_map g ((n, Some x) ∷ es) k = ap (λ (w : BriefTx Op). w ∷ filled h es) (k n x (inl refl)) ∙ ap (λ (w : List (BriefTx Op)). g (f n x) ∷ w) (filled_map g es (λ m y i. k m y (inr i)))

  at_t : (g : BriefTx Op → BriefTx Op) (y : BriefTx Op) → y.name ≡ t → cond (y.name =ⁿ t) (g y) y ≡ g y
  at_t g y e = ap (λ (b : Bool). cond b (g y) y) (eq-names y.name t e)

  off_t : (g : BriefTx Op → BriefTx Op) (y : BriefTx Op) → y.name ≢ t → cond (y.name =ⁿ t) (g y) y ≡ y
  off_t g y e = elim (names_tell y.name t) [ inl r ↦ absurd (e r.1) | inr r ↦ ap (λ (b : Bool). cond b (g y) y) r.0 ]

  -- If the transaction of t changes, its view changes, and the other views stay.
  pub filled_set : (g : BriefTx Op → BriefTx Op) (a b : A) (es : List (Name × Option A)) → Apart es → lookup (λ n. t =ⁿ n) es ≡ Some (Some a) →
      h t b ≡ g (f t a) → ((n : Name) (x : A) → In (n, Some x) es → n ≢ t → h n x ≡ f n x) →
      filled h (set_value (λ n. t =ⁿ n) es (Some b)) ≡ at_brief t g (filled f es)
  filled_set g a b [] d l e k = absurd (cc)
  filled_set g a b ((n, o) ∷ es) d l e k = elim (names_tell t n) [
    | inl r ↦
        ap (λ (z : Bool). filled h (cond z ((n, Some b) ∷ es) ((n, o) ∷ set_value (λ n. t =ⁿ n) es (Some b)))) r.0
        ∙ here o r.1 (same_Some o (Some a) (sym (ap (λ (z : Bool). cond z (Some o) (lookup (λ n. t =ⁿ n) es)) r.0) ∙ l))
    | inr r ↦
        ap (λ (z : Bool). filled h (cond z ((n, Some b) ∷ es) ((n, o) ∷ set_value (λ n. t =ⁿ n) es (Some b)))) r.0
        ∙ later o k (λ q. r.1 (sym q))
        (filled_set g a b es (λ u v i. d u v (inr i)) (sym (ap (λ (z : Bool). cond z (Some o) (lookup (λ n. t =ⁿ n) es)) r.0) ∙ l) e (λ m x i. k m x (inr i)))
  ]
    where
      tail : t ≡ n → filled h es ≡ at_brief t g (filled f es)
      tail q = filled_map (λ y. cond (y.name =ⁿ t) (g y) y) es (λ m x i.
          let other : m ≢ t = λ s. d n m (inl (refl, in_keys es (m, Some x) i)) (sym q ∙ sym s) in
          k m x (inr i) other ∙ sym (off_t g (f m x) (λ s. other (sym (named m x) ∙ s))))

      here : (o : Option A) → t ≡ n → o ≡ Some a → h n b ∷ filled h es ≡ at_brief t g (filled f ((n, o) ∷ es))
      here None q s = absurd (cc)
      here (Some x) q s =
          ap (λ (w : BriefTx Op). w ∷ filled h es)
          (ap (λ (m : Name). h m b) (sym q) ∙ e ∙ ap (λ (m : Name). g (f m a)) q ∙ ap (λ (w : A). g (f n w)) (sym (same_Some x a s)) ∙ sym (at_t g (f n x) (named n x ∙ sym q)))
          ∙ ap (λ (w : List (BriefTx Op)). cond ((f n x).name =ⁿ t) (g (f n x)) (f n x) ∷ w) (tail q)

      later : (o : Option A) → ((m : Name) (x : A) → In (m, Some x) ((n, o) ∷ es) → m ≢ t → h m x ≡ f m x) → n ≢ t →
          filled h (set_value (λ n. t =ⁿ n) es (Some b)) ≡ at_brief t g (filled f es) →
          filled h ((n, o) ∷ set_value (λ n. t =ⁿ n) es (Some b)) ≡ at_brief t g (filled f ((n, o) ∷ es))
      later None j q s = s
      later (Some x) j q s =
          ap (λ (w : BriefTx Op). w ∷ filled h (set_value (λ n. t =ⁿ n) es (Some b))) (j n x (inl refl) q ∙ sym (off_t g (f n x) (λ z. q (sym (named n x) ∙ z))))
          ∙ ap (λ (w : List (BriefTx Op)). cond ((f n x).name =ⁿ t) (g (f n x)) (f n x) ∷ w) s

  keeps : (y : BriefTx Op) (l : List (BriefTx Op)) → y.name ≢ t → without_brief t (y ∷ l) ≡ y ∷ without_brief t l
  keeps y l e = elim (names_tell y.name t) [
    | inl r ↦ absurd (e r.1)
    | inr r ↦ ap (λ (b : Bool). cond (not b) (y ∷ without_brief t l) (without_brief t l)) r.0
  ]

  drops : (y : BriefTx Op) (l : List (BriefTx Op)) → y.name ≡ t → without_brief t (y ∷ l) ≡ without_brief t l
  drops y l e = ap (λ (b : Bool). cond (not b) (y ∷ without_brief t l) (without_brief t l)) (eq-names y.name t e)

  none_there : (es : List (Name × Option A)) → ((n : Name) (x : A) → In (n, Some x) es → n ≢ t) → without_brief t (filled f es) ≡ filled f es
  none_there [] k = refl
  none_there ((n, None) ∷ es) k = none_there es (λ m x i. k m x (inr i))
  none_there ((n, Some x) ∷ es) k = keeps (f n x) (filled f es) (λ z. k n x (inl refl) (sym (named n x) ∙ z)) ∙ ap (λ (w : List (BriefTx Op)). f n x ∷ w) (none_there es (λ m y i. k m y (inr i)))

  -- If the slot of t is emptied, its view is left out, and the other views change by g.
  pub filled_out : (g : BriefTx Op → BriefTx Op) (es : List (Name × Option A)) → Apart es → ((n : Name) (x : A) → In (n, Some x) es → n ≢ t → h n x ≡ g (f n x)) →
      filled h (set_value (λ n. t =ⁿ n) es None) ≡ map g (without_brief t (filled f es))
  filled_out g [] d k = refl
  filled_out g ((n, o) ∷ es) d k = elim (names_tell t n) [
    | inl r ↦ ap (λ (z : Bool). filled h (cond z ((n, None) ∷ es) ((n, o) ∷ set_value (λ n. t =ⁿ n) es None))) r.0 ∙ here o r.1
    | inr r ↦
        ap (λ (z : Bool). filled h (cond z ((n, None) ∷ es) ((n, o) ∷ set_value (λ n. t =ⁿ n) es None))) r.0
        ∙ later o k (λ q. r.1 (sym q)) (filled_out g es (λ u v i. d u v (inr i)) (λ m x i. k m x (inr i)))
  ]
    where
      other : t ≡ n → (m : Name) (x : A) → In (m, Some x) es → m ≢ t
      other q m x i s = d n m (inl (refl, in_keys es (m, Some x) i)) (sym q ∙ sym s)

      tail : t ≡ n → filled h es ≡ map g (without_brief t (filled f es))
      tail q = filled_map g es (λ m x i. k m x (inr i) (other q m x i)) ∙ ap (λ (w : List (BriefTx Op)). map g w) (sym (none_there es (other q)))

      here : (o : Option A) → t ≡ n → filled h es ≡ map g (without_brief t (filled f ((n, o) ∷ es)))
      here None q = tail q
      here (Some x) q = tail q ∙ ap (λ (w : List (BriefTx Op)). map g w) (sym (drops (f n x) (filled f es) (named n x ∙ sym q)))

      later : (o : Option A) → ((m : Name) (x : A) → In (m, Some x) ((n, o) ∷ es) → m ≢ t → h m x ≡ g (f m x)) → n ≢ t →
          filled h (set_value (λ n. t =ⁿ n) es None) ≡ map g (without_brief t (filled f es)) →
          filled h ((n, o) ∷ set_value (λ n. t =ⁿ n) es None) ≡ map g (without_brief t (filled f ((n, o) ∷ es)))
      later None j q s = s
      later (Some x) j q s =
          ap (λ (w : BriefTx Op). w ∷ filled h (set_value (λ n. t =ⁿ n) es None)) (j n x (inl refl) q)
          ∙ ap (λ (w : List (BriefTx Op)). g (f n x) ∷ w) s
          ∙ ap (λ (w : List (BriefTx Op)). map g w) (sym (keeps (f n x) (filled f es) (λ z. q (sym (named n x) ∙ z))))

  none_found : (es : List (Name × Option A)) → ((n : Name) (x : A) → In (n, Some x) es → n ≢ t) → brief_of t (filled f es) ≡ None
  none_found [] k = refl
  none_found ((n, None) ∷ es) k = none_found es (λ m x i. k m x (inr i))
  none_found ((n, Some x) ∷ es) k = elim (names_tell (f n x).name t) [
    | inl r ↦ absurd (k n x (inl refl) (sym (named n x) ∙ r.1))
    | inr r ↦ ap (λ (b : Bool). cond b (Some (f n x)) (brief_of t (filled f es))) r.0 ∙ none_found es (λ m y i. k m y (inr i))
  ]

  -- The view that is found at t is that of the open transaction in the slot of t.
  pub found_is : (es : List (Name × Option A)) → Apart es → brief_of t (filled f es) ≡ option_map (f t) (open_in t es)
  found_is [] d = refl
  found_is ((n, o) ∷ es) d = elim (names_tell t n) [
    | inl r ↦ here o r.1 ∙ sym (ap (λ (b : Bool). option_map (f t) (in_slot (cond b (Some o) (lookup (λ n. t =ⁿ n) es)))) r.0)
    | inr r ↦ later o (λ q. r.1 (sym q)) (found_is es (λ u v i. d u v (inr i))) ∙ sym (ap (λ (b : Bool). option_map (f t) (in_slot (cond b (Some o) (lookup (λ n. t =ⁿ n) es)))) r.0)
  ]
    where
      here : (o : Option A) → t ≡ n → brief_of t (filled f ((n, o) ∷ es)) ≡ option_map (f t) o
      here None q = none_found es (λ m x i s. d n m (inl (refl, in_keys es (m, Some x) i)) (sym q ∙ sym s))
      here (Some x) q = ap (λ (b : Bool). cond b (Some (f n x)) (brief_of t (filled f es))) (eq-names (f n x).name t (named n x ∙ sym q)) ∙ ap (λ (m : Name). Some (f m x)) (sym q)

      later : (o : Option A) → n ≢ t → brief_of t (filled f es) ≡ option_map (f t) (open_in t es) → brief_of t (filled f ((n, o) ∷ es)) ≡ option_map (f t) (open_in t es)
      later None q s = s
      later (Some x) q s = elim (names_tell (f n x).name t) [
        | inl r ↦ absurd (q (sym (named n x) ∙ r.1))
        | inr r ↦ ap (λ (b : Bool). cond b (Some (f n x)) (brief_of t (filled f es))) r.0 ∙ s
      ]

  -- A new slot at the end adds its transaction at the end.
  pub filled_more : (es : List (Name × Option A)) (n : Name) (x : A) → filled f (es ++ (n, Some x) ∷ []) ≡ filled f es ++ f n x ∷ []
  filled_more [] n x = refl
  filled_more ((m, None) ∷ es) n x = filled_more es n x
  filled_more ((m, Some y) ∷ es) n x = ap (λ (w : List (BriefTx Op)). f m y ∷ w) (filled_more es n x)

-- The view x of t is in the list, between others.
pub record IsAmong {Op : Type 0} (t : Name) (l : List (BriefTx Op)) (x : BriefTx Op) : Type 0 where
  pub before : List (BriefTx Op)
  pub after : List (BriefTx Op)
  pub is : l ≡ before ++ x ∷ after
  pub without : without_brief t l ≡ before ++ after

-- A view that is found at a name is in the list, and can be left out there.
pub among : {Op : Type 0} (t : Name) (l : List (BriefTx Op)) (x : BriefTx Op) → ((y z : BriefTx Op) → Before y z l → y.name ≢ z.name) → brief_of t l ≡ Some x → IsAmong t l x
among t [] x d h = absurd (cc)
among {Op} t (y ∷ l) x d h = elim (names_tell y.name t) [
  | inl r ↦
      let e = same_Some y x (sym (ap (λ (b : Bool). cond b (Some y) (brief_of t l)) r.0) ∙ h) in
      record {
        before = [];
        after = l;
        is = ap (λ (w : BriefTx Op). w ∷ l) e;
        without =
            ap (λ (b : Bool). cond (not b) (y ∷ without_brief t l) (without_brief t l)) r.0
            ∙ stay l (λ z i s. d y z (inl (refl, i)) (r.1 ∙ sym s));
      }
  | inr r ↦
      let k = among t l x (λ u v i. d u v (inr i)) (sym (ap (λ (b : Bool). cond b (Some y) (brief_of t l)) r.0) ∙ h) in
      record {
        before = y ∷ k.before;
        after = k.after;
        is = ap (λ (w : List (BriefTx Op)). y ∷ w) k.is;
        without =
            ap (λ (b : Bool). cond (not b) (y ∷ without_brief t l) (without_brief t l)) r.0
            ∙ ap (λ (w : List (BriefTx Op)). y ∷ w) k.without;
      }
]
  where
    stay : (m : List (BriefTx Op)) → ((z : BriefTx Op) → In z m → z.name ≢ t) → without_brief t m ≡ m
    stay [] k = refl
    stay (z ∷ m) k = elim (names_tell z.name t) [
      | inl r ↦ absurd (k z (inl refl) r.1)
      | inr r ↦ ap (λ (b : Bool). cond (not b) (z ∷ without_brief t m) (without_brief t m)) r.0 ∙ ap (λ (w : List (BriefTx Op)). z ∷ w) (stay m (λ u i. k u (inr i)))
    ]
