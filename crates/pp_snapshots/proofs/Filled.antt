-- The transactions in slots, after a change of one.
use Rattle.std.specs.Prelude.{◌≡◌, ◌≢◌, Bool, not, cond, List, [], ◌∷◌, ◌++◌, map, option_map, Option, None, Some}
use Rattle.std.specs.Map.{keys_of, lookup, set_value}
use Rattle.std.proofs.Common.{refl, sym, ap, ◌∙◌}
use Rattle.std.proofs.lemmas.Option.{same_Some}
use mathlib.Core.Logic.{inl, inr}
use Rattle.pp_model.specs.Lists.{In}
use Rattle.pp_model.specs.Names.{Name, ◌=ⁿ◌}
use Rattle.pp_model.proofs.Names.{eq-names, names_tell}
use Rattle.pp_laws_summary.specs.Summary.{OpenSummary, at_open, open_named, without_open}
use Rattle.pp_summary.specs.Shown.{filled, in_slot, open_in}
use Rattle.pp_summary.proofs.Filled.{Apart}

in_keys : {X : Type 0} (es : List (Name × X)) (e : Name × X) → In e es → In e.0 (keys_of es)
in_keys [] e h = absurd h
in_keys {X} (d ∷ es) e (inl h) = inl (ap (λ (w : Name × X). w.0) h)
in_keys (d ∷ es) e (inr h) = inr (in_keys es e h)

module _ {A Op : Type 0} (t : Name) (f h : Name → A → OpenSummary Op) (named : (n : Name) (x : A) → (f n x).name ≡ n) where
  -- all are changed
  pub filled_map : (g : OpenSummary Op → OpenSummary Op) (es : List (Name × Option A)) → ((n : Name) (x : A) → In (n, Some x) es → h n x ≡ g (f n x)) → filled h es ≡ map g (filled f es)
  filled_map g [] k = refl
  filled_map g ((n, None) ∷ es) k = filled_map g es (λ m x i. k m x (inr i))
  filled_map g ((n, Some x) ∷ es) k = ap (λ (w : OpenSummary Op). w ∷ filled h es) (k n x (inl refl)) ∙ ap (λ (w : List (OpenSummary Op)). g (f n x) ∷ w) (filled_map g es (λ m y i. k m y (inr i)))

  at_t : (g : OpenSummary Op → OpenSummary Op) (y : OpenSummary Op) → y.name ≡ t → cond (y.name =ⁿ t) (g y) y ≡ g y
  at_t g y e = ap (λ (b : Bool). cond b (g y) y) (eq-names y.name t e)

  off_t : (g : OpenSummary Op → OpenSummary Op) (y : OpenSummary Op) → y.name ≢ t → cond (y.name =ⁿ t) (g y) y ≡ y
  off_t g y e = elim (names_tell y.name t) [ inl r ↦ absurd (e r.1) | inr r ↦ ap (λ (b : Bool). cond b (g y) y) r.0 ]

  -- what the slot of t holds is changed, and the others stay
  pub filled_set : (g : OpenSummary Op → OpenSummary Op) (a b : A) (es : List (Name × Option A)) → Apart es → lookup (λ n. t =ⁿ n) es ≡ Some (Some a) →
      h t b ≡ g (f t a) → ((n : Name) (x : A) → In (n, Some x) es → n ≢ t → h n x ≡ f n x) →
      filled h (set_value (λ n. t =ⁿ n) es (Some b)) ≡ at_open t g (filled f es)
  filled_set g a b [] d l e k = absurd (cc)
  filled_set g a b ((n, o) ∷ es) d l e k = elim (names_tell t n) [
    | inl r ↦
        ap (λ (z : Bool). filled h (cond z ((n, Some b) ∷ es) ((n, o) ∷ set_value (λ n. t =ⁿ n) es (Some b)))) r.0
        ∙ here o r.1 (same_Some o (Some a) (sym (ap (λ (z : Bool). cond z (Some o) (lookup (λ n. t =ⁿ n) es)) r.0) ∙ l))
    | inr r ↦
        ap (λ (z : Bool). filled h (cond z ((n, Some b) ∷ es) ((n, o) ∷ set_value (λ n. t =ⁿ n) es (Some b)))) r.0
        ∙ later o k (λ q. r.1 (sym q))
        (filled_set g a b es (λ u v i. d u v (inr i)) (sym (ap (λ (z : Bool). cond z (Some o) (lookup (λ n. t =ⁿ n) es)) r.0) ∙ l) e (λ m x i. k m x (inr i)))
  ]
    where
      tail : t ≡ n → filled h es ≡ at_open t g (filled f es)
      tail q = filled_map (λ y. cond (y.name =ⁿ t) (g y) y) es (λ m x i.
          let other : m ≢ t = λ s. d n m (inl (refl, in_keys es (m, Some x) i)) (sym q ∙ sym s) in
          k m x (inr i) other ∙ sym (off_t g (f m x) (λ s. other (sym (named m x) ∙ s))))

      here : (o : Option A) → t ≡ n → o ≡ Some a → h n b ∷ filled h es ≡ at_open t g (filled f ((n, o) ∷ es))
      here None q s = absurd (cc)
      here (Some x) q s =
          ap (λ (w : OpenSummary Op). w ∷ filled h es)
          (ap (λ (m : Name). h m b) (sym q) ∙ e ∙ ap (λ (m : Name). g (f m a)) q ∙ ap (λ (w : A). g (f n w)) (sym (same_Some x a s)) ∙ sym (at_t g (f n x) (named n x ∙ sym q)))
          ∙ ap (λ (w : List (OpenSummary Op)). cond ((f n x).name =ⁿ t) (g (f n x)) (f n x) ∷ w) (tail q)

      later : (o : Option A) → ((m : Name) (x : A) → In (m, Some x) ((n, o) ∷ es) → m ≢ t → h m x ≡ f m x) → n ≢ t →
          filled h (set_value (λ n. t =ⁿ n) es (Some b)) ≡ at_open t g (filled f es) →
          filled h ((n, o) ∷ set_value (λ n. t =ⁿ n) es (Some b)) ≡ at_open t g (filled f ((n, o) ∷ es))
      later None j q s = s
      later (Some x) j q s =
          ap (λ (w : OpenSummary Op). w ∷ filled h (set_value (λ n. t =ⁿ n) es (Some b))) (j n x (inl refl) q ∙ sym (off_t g (f n x) (λ z. q (sym (named n x) ∙ z))))
          ∙ ap (λ (w : List (OpenSummary Op)). cond ((f n x).name =ⁿ t) (g (f n x)) (f n x) ∷ w) s

  keeps : (y : OpenSummary Op) (l : List (OpenSummary Op)) → y.name ≢ t → without_open t (y ∷ l) ≡ y ∷ without_open t l
  keeps y l e = elim (names_tell y.name t) [
    | inl r ↦ absurd (e r.1)
    | inr r ↦ ap (λ (b : Bool). cond (not b) (y ∷ without_open t l) (without_open t l)) r.0
  ]

  drops : (y : OpenSummary Op) (l : List (OpenSummary Op)) → y.name ≡ t → without_open t (y ∷ l) ≡ without_open t l
  drops y l e = ap (λ (b : Bool). cond (not b) (y ∷ without_open t l) (without_open t l)) (eq-names y.name t e)

  none_there : (es : List (Name × Option A)) → ((n : Name) (x : A) → In (n, Some x) es → n ≢ t) → without_open t (filled f es) ≡ filled f es
  none_there [] k = refl
  none_there ((n, None) ∷ es) k = none_there es (λ m x i. k m x (inr i))
  none_there ((n, Some x) ∷ es) k = keeps (f n x) (filled f es) (λ z. k n x (inl refl) (sym (named n x) ∙ z)) ∙ ap (λ (w : List (OpenSummary Op)). f n x ∷ w) (none_there es (λ m y i. k m y (inr i)))

  -- the slot of t is emptied, and the others are changed
  pub filled_out : (g : OpenSummary Op → OpenSummary Op) (es : List (Name × Option A)) → Apart es → ((n : Name) (x : A) → In (n, Some x) es → n ≢ t → h n x ≡ g (f n x)) →
      filled h (set_value (λ n. t =ⁿ n) es None) ≡ map g (without_open t (filled f es))
  filled_out g [] d k = refl
  filled_out g ((n, o) ∷ es) d k = elim (names_tell t n) [
    | inl r ↦ ap (λ (z : Bool). filled h (cond z ((n, None) ∷ es) ((n, o) ∷ set_value (λ n. t =ⁿ n) es None))) r.0 ∙ here o r.1
    | inr r ↦
        ap (λ (z : Bool). filled h (cond z ((n, None) ∷ es) ((n, o) ∷ set_value (λ n. t =ⁿ n) es None))) r.0
        ∙ later o k (λ q. r.1 (sym q)) (filled_out g es (λ u v i. d u v (inr i)) (λ m x i. k m x (inr i)))
  ]
    where
      other : t ≡ n → (m : Name) (x : A) → In (m, Some x) es → m ≢ t
      other q m x i s = d n m (inl (refl, in_keys es (m, Some x) i)) (sym q ∙ sym s)

      tail : t ≡ n → filled h es ≡ map g (without_open t (filled f es))
      tail q = filled_map g es (λ m x i. k m x (inr i) (other q m x i)) ∙ ap (λ (w : List (OpenSummary Op)). map g w) (sym (none_there es (other q)))

      here : (o : Option A) → t ≡ n → filled h es ≡ map g (without_open t (filled f ((n, o) ∷ es)))
      here None q = tail q
      here (Some x) q = tail q ∙ ap (λ (w : List (OpenSummary Op)). map g w) (sym (drops (f n x) (filled f es) (named n x ∙ sym q)))

      later : (o : Option A) → ((m : Name) (x : A) → In (m, Some x) ((n, o) ∷ es) → m ≢ t → h m x ≡ g (f m x)) → n ≢ t →
          filled h (set_value (λ n. t =ⁿ n) es None) ≡ map g (without_open t (filled f es)) →
          filled h ((n, o) ∷ set_value (λ n. t =ⁿ n) es None) ≡ map g (without_open t (filled f ((n, o) ∷ es)))
      later None j q s = s
      later (Some x) j q s =
          ap (λ (w : OpenSummary Op). w ∷ filled h (set_value (λ n. t =ⁿ n) es None)) (j n x (inl refl) q)
          ∙ ap (λ (w : List (OpenSummary Op)). g (f n x) ∷ w) s
          ∙ ap (λ (w : List (OpenSummary Op)). map g w) (sym (keeps (f n x) (filled f es) (λ z. q (sym (named n x) ∙ z))))

  none_found : (es : List (Name × Option A)) → ((n : Name) (x : A) → In (n, Some x) es → n ≢ t) → open_named t (filled f es) ≡ None
  none_found [] k = refl
  none_found ((n, None) ∷ es) k = none_found es (λ m x i. k m x (inr i))
  none_found ((n, Some x) ∷ es) k = elim (names_tell (f n x).name t) [
    | inl r ↦ absurd (k n x (inl refl) (sym (named n x) ∙ r.1))
    | inr r ↦ ap (λ (b : Bool). cond b (Some (f n x)) (open_named t (filled f es))) r.0 ∙ none_found es (λ m y i. k m y (inr i))
  ]

  -- what is found at t
  pub found_is : (es : List (Name × Option A)) → Apart es → open_named t (filled f es) ≡ option_map (f t) (open_in t es)
  found_is [] d = refl
  found_is ((n, o) ∷ es) d = elim (names_tell t n) [
    | inl r ↦ here o r.1 ∙ sym (ap (λ (b : Bool). option_map (f t) (in_slot (cond b (Some o) (lookup (λ n. t =ⁿ n) es)))) r.0)
    | inr r ↦ later o (λ q. r.1 (sym q)) (found_is es (λ u v i. d u v (inr i))) ∙ sym (ap (λ (b : Bool). option_map (f t) (in_slot (cond b (Some o) (lookup (λ n. t =ⁿ n) es)))) r.0)
  ]
    where
      here : (o : Option A) → t ≡ n → open_named t (filled f ((n, o) ∷ es)) ≡ option_map (f t) o
      here None q = none_found es (λ m x i s. d n m (inl (refl, in_keys es (m, Some x) i)) (sym q ∙ sym s))
      here (Some x) q = ap (λ (b : Bool). cond b (Some (f n x)) (open_named t (filled f es))) (eq-names (f n x).name t (named n x ∙ sym q)) ∙ ap (λ (m : Name). Some (f m x)) (sym q)

      later : (o : Option A) → n ≢ t → open_named t (filled f es) ≡ option_map (f t) (open_in t es) → open_named t (filled f ((n, o) ∷ es)) ≡ option_map (f t) (open_in t es)
      later None q s = s
      later (Some x) q s = elim (names_tell (f n x).name t) [
        | inl r ↦ absurd (q (sym (named n x) ∙ r.1))
        | inr r ↦ ap (λ (b : Bool). cond b (Some (f n x)) (open_named t (filled f es))) r.0 ∙ s
      ]

  -- A transaction in a new slot at the end comes last.
  pub filled_more : (es : List (Name × Option A)) (n : Name) (x : A) → filled f (es ++ (n, Some x) ∷ []) ≡ filled f es ++ f n x ∷ []
  filled_more [] n x = refl
  filled_more ((m, None) ∷ es) n x = filled_more es n x
  filled_more ((m, Some y) ∷ es) n x = ap (λ (w : List (OpenSummary Op)). f m y ∷ w) (filled_more es n x)
