-- Proof machinery: operations that are applied one after another, or taken back.
use Rattle.std.proofs.Common.{◌≡◌, ◌≢◌, ◌↔◌, ◌+◌, ◌<◌, ◌≤◌, ℕ, Bool, cond, IsTrue, List, [], ◌∷◌, ◌++◌, length, drop, get_or, take}
use Rattle.std.proofs.Common.{refl, sym, ap, subst, ◌∙◌, inl, inr, arith, append_assoc, append-nil, eq-eqb, ◌==◌, zero, suc}
use Rattle.std.proofs.lemmas.Bool.{eqb-true}
use Rattle.std.proofs.lemmas.List.{drop-append-le, length-take-le, take-append-drop, take_all, take_more}
use Rattle.pp_model.specs.Lists.{In}
use Rattle.pp_model.proofs.Lists.{from_filter, in_right}
use Rattle.pp_kind.specs.Object.{IsAllowed, IsLawful, IsPlaced, Object}
use Rattle.pp_kind.proofs.Fitting.{fits_in, ranged_in}
use Rattle.pp_kind.proofs.Lists.{allowed-first}
use Rattle.pp_laws_summary.specs.Places.{ops_at}
use Rattle.pp_laws_summary.proofs.Entries.{same_or_not}
use Rattle.pp_laws_summary.proofs.Parts.{at-append, at_all, at_none, not_eq}
use Rattle.pp_snapshots.specs.declared.past.Past.{Past}
use Rattle.pp_snapshots.specs.Many.{AllAreDone, AllGoBack, AreThere, MayFollow, ops_made}
use Rattle.pp_snapshots.specs.Past.{EndsWith, IsPast, at_place, made_along, made_at, with_ops}
use Rattle.pp_snapshots.proofs.Pasts.{allowed_there, elsewhere, here}

-- what is taken with one more, but the first ones
pub drop_take_more : {A : Type 0} (l : List A) (n k : ℕ) (a : A) → n ≤ k → k < length l → a ≡ get_or l k a → drop n (take (k + 1) l) ≡ drop n (take k l) ++ a ∷ []
drop_take_more {A} l n k a le lt is =
    ap (drop n) (take_more l k a lt ∙ ap (λ (b : A). take k l ++ b ∷ []) (sym is))
    ∙ drop-append-le n (take k l) (a ∷ []) (let e = length-take-le k l (omega (arith, lt)) in omega (arith, e, le))

-- a list, cut at an element
pub cut_at : {A : Type 0} (l : List A) (k : ℕ) (a : A) → k < length l → a ≡ get_or l k a → l ≡ take k l ++ (a ∷ drop (k + 1) l)
cut_at {A} l k a lt is =
    sym (take-append-drop (k + 1) l)
    ∙ ap (λ (w : List A). w ++ drop (k + 1) l) (take_more l k a lt ∙ ap (λ (b : A). take k l ++ b ∷ []) (sym is))
    ∙ append_assoc (take k l) (a ∷ []) (drop (k + 1) l)

-- What is in a list without its first elements is in the list.
pub in_dropped : {A : Type 0} (l : List A) (n : ℕ) (a : A) → In a (drop n l) → In a l
in_dropped {A} l n a i = subst (λ (w : List A). In a w) (take-append-drop n l) (in_right a (take n l) (drop n l) i)

-- The first n elements of a list, without its first n, are none.
pub drop_take_none : {A : Type 0} (l : List A) (n : ℕ) → drop n (take n l) ≡ []
drop_take_none [] n = ap (drop n) (take_none n) ∙ drop_none n
  where
    take_none : {A : Type 0} (n : ℕ) → take {A = A} n [] ≡ []
    take_none n = take_all n [] (omega arith)

    drop_none : {A : Type 0} (n : ℕ) → drop {A = A} n [] ≡ []
    drop_none zero = refl
    drop_none (suc n) = refl
drop_take_none (a ∷ l) zero = refl
drop_take_none (a ∷ l) (suc n) = drop_take_none l n

module _ {Op : Type 0} (place : Op → ℕ) where
  -- Operations added one list after another are those of both lists together.
  pub with_more : (h : ℕ → List Op) (x y : List Op) (q : ℕ) → with_ops place (with_ops place h x) y q ≡ with_ops place h (x ++ y) q
  with_more h x y q =
      append_assoc (h q) (ops_at place q x) (ops_at place q y)
      ∙ ap (λ (w : List Op). h q ++ w) (sym (at-append place q x y))

  -- With no operation added, each place has what it had.
  pub with_none : (h : ℕ → List Op) (q : ℕ) → h q ≡ with_ops place h [] q
  with_none h q = sym (append-nil (h q))

  -- the place of the last one ends with it
  pub end_is : (h : ℕ → List Op) (x : List Op) (a : Op) → with_ops place h (x ++ a ∷ []) (place a) ≡ with_ops place h x (place a) ++ a ∷ []
  end_is h x a =
      sym (with_more h x (a ∷ []) (place a))
      ∙ ap (λ (w : List Op). with_ops place h x (place a) ++ w) (here place (place a) a [] refl)

  -- without it the places have those before it
  pub without_last : (h : ℕ → List Op) (x : List Op) (a : Op) (q : ℕ) → at_place (place a) (with_ops place h x (place a)) (with_ops place h (x ++ a ∷ [])) q ≡ with_ops place h x q
  without_last h x a q = elim (same_or_not (place a) q) [
    | inl e ↦
        ap (λ (b : Bool). cond b (with_ops place h x (place a)) (with_ops place h (x ++ a ∷ []) q)) (eq-eqb (place a) q e)
        ∙ ap (with_ops place h x) e
    | inr n ↦
        ap (λ (b : Bool). cond b (with_ops place h x (place a)) (with_ops place h (x ++ a ∷ []) q)) (not_eq (place a) q n)
        ∙ sym (with_more h x (a ∷ []) q)
        ∙ ap (λ (w : List Op). with_ops place h x q ++ w) (elsewhere place q a [] n)
        ∙ append-nil (with_ops place h x q)
  ]

  -- operations that are all at one place
  pub with_there : (h : ℕ → List Op) (p : ℕ) (l : List Op) → AreThere place p l → with_ops place h l p ≡ h p ++ l
  with_there h p l t = ap (λ (w : List Op). h p ++ w) (at_all place p l t)

  -- Operations of one place leave the other places as they were.
  pub with_elsewhere : (h : ℕ → List Op) (p q : ℕ) (l : List Op) → AreThere place p l → p ≢ q → with_ops place h l q ≡ h q
  with_elsewhere h p q l t n =
      ap (λ (w : List Op). h q ++ w) (at_none place q l (λ a i e. n (sym (t a i) ∙ e)))
      ∙ append-nil (h q)

  -- Of the operations at a place the first ones, and the others behind them.
  pub cut_there : (h : ℕ → List Op) (p n : ℕ) → AreThere place p (drop n (h p)) → (q : ℕ) → h q ≡ with_ops place (at_place p (take n (h p)) h) (drop n (h p)) q
  cut_there h p n t q = elim (same_or_not p q) [
    | inl e ↦ subst (λ (r : ℕ). h r ≡ with_ops place (at_place p (take n (h p)) h) (drop n (h p)) r) e
        (sym (take-append-drop n (h p))
        ∙ ap (λ (b : Bool). cond b (take n (h p)) (h p) ++ drop n (h p)) (sym (eq-eqb p p refl))
        ∙ sym (with_there (at_place p (take n (h p)) h) p (drop n (h p)) t))
    | inr m ↦
        ap (λ (b : Bool). cond b (take n (h p)) (h q)) (sym (not_eq p q m))
        ∙ sym (with_elsewhere (at_place p (take n (h p)) h) p q (drop n (h p)) t m)
  ]

module _ {Shape State Op Undo : Type 0} (o : Object Shape State Op Undo) (place : Op → ℕ) where
  -- the same operations at each place
  pub same_past : (shape : Shape) (v : Past State Op Undo) (h k : ℕ → List Op) → ((q : ℕ) → h q ≡ k q) → IsPast o place shape v h → IsPast o place shape v k
  same_past shape v h k same past =
      record {
        log = past.log;
        allowed = past.allowed;
        is = past.is;
        ranged = past.ranged;
        size = past.size;
        at_places = λ q. past.at_places q ∙ same q;
        made = λ q. past.made q ∙ ap (made_along o (o.start shape)) (same q);
      }

  -- After a list that ends with an operation, the place of this operation ends with it.
  pub ends_with : (shape : Shape) (v : Past State Op Undo) (h : ℕ → List Op) (x : List Op) (a : Op) → IsPast o place shape v (with_ops place h (x ++ a ∷ [])) → EndsWith o place v (place a)
  ends_with shape v h x a past =
      record {
        shape = shape;
        ops = with_ops place h (x ++ a ∷ []);
        past = past;
        before = with_ops place h x (place a);
        last = a;
        is = end_is place h x a;
      }

  -- The operations that are kept of a list are the list.
  pub ops_along : (s : State) (x : List Op) → ops_made (made_along o s x) ≡ x
  ops_along s [] = refl
  ops_along s (a ∷ x) = ap (λ (w : List Op). a ∷ w) (ops_along (o.next s a) x)

  -- what is kept of a place
  pub ops_there : (shape : Shape) (v : Past State Op Undo) (h : ℕ → List Op) → IsPast o place shape v h → (p : ℕ) → ops_made (made_at p v.places.items) ≡ h p
  ops_there shape v h past p = ap ops_made (past.made p) ∙ ops_along (o.start shape) (h p)

  -- where not even the first ones may follow, not all may
  pub stopped : (shape : Shape) (h : ℕ → List Op) (x y : List Op) (a : Op) → (IsAllowed o shape (with_ops place h x (place a) ++ a ∷ []) → ⊥) → MayFollow o place shape h (x ++ (a ∷ y)) → ⊥
  stopped shape h x y a never may =
      never (allowed-first o (o.start shape) (with_ops place h x (place a) ++ a ∷ []) (ops_at place (place a) y)
      (subst (IsAllowed o shape) cut (may (place a))))
    where
      cut : with_ops place h (x ++ (a ∷ y)) (place a) ≡ (with_ops place h x (place a) ++ a ∷ []) ++ ops_at place (place a) y
      cut =
          ap (λ (w : List Op). with_ops place h w (place a)) (sym (append_assoc x (a ∷ []) y))
          ∙ sym (with_more place h (x ++ a ∷ []) y (place a))
          ∙ ap (λ (w : List Op). w ++ ops_at place (place a) y) (end_is place h x a)

  module _ (SameAt : ℕ → State → State → Type 0) (laws : IsLawful o) (places : IsPlaced o place SameAt) where
    -- what was applied at a place fits, is in range, and is there
    pub asked_there : (shape : Shape) (v : Past State Op Undo) (h : ℕ → List Op) → IsPast o place shape v h → (q : ℕ) (a : Op) → In a (h q) → IsTrue (o.fits shape a) × IsTrue (o.ranged a)
    asked_there shape v h past q a i =
        let f = from_filter (λ (b : Op). place b == q) a past.log (subst (λ (w : List Op). In a w) (sym (past.at_places q)) i) in
        (fits_in o laws shape past.log past.allowed a f.0, ranged_in o past.log past.ranged a f.0)

    -- The operations that were applied at a place are all at that place.
    pub place_there : (shape : Shape) (v : Past State Op Undo) (h : ℕ → List Op) → IsPast o place shape v h → (q : ℕ) → AreThere place q (h q)
    place_there shape v h past q a i =
        let f = from_filter (λ (b : Op). place b == q) a past.log (subst (λ (w : List Op). In a w) (sym (past.at_places q)) i) in
        eqb-true (place a) q f.1

    -- Operations that were applied after others may follow these.
    pub follows : (shape : Shape) (w : Past State Op Undo) (h : ℕ → List Op) (l : List Op) → IsPast o place shape w (with_ops place h l) → MayFollow o place shape h l
    follows shape w h l past q = allowed_there o place SameAt laws places shape w (with_ops place h l) past q

    -- Operations at one place may follow exactly if they are allowed there.
    pub follow_there : (shape : Shape) (w : Past State Op Undo) (h : ℕ → List Op) (p : ℕ) (l : List Op) → AreThere place p l → IsPast o place shape w h → IsAllowed o shape (h p ++ l) → MayFollow o place shape h l
    follow_there shape w h p l t past k q = elim (same_or_not p q) [
      | inl e ↦ subst (λ (r : ℕ). IsAllowed o shape (with_ops place h l r)) e (subst (IsAllowed o shape) (sym (with_there place h p l t)) k)
      | inr n ↦ subst (IsAllowed o shape) (sym (with_elsewhere place h p q l t n)) (allowed_there o place SameAt laws places shape w h past q)
    ]

    -- Operations of one place, taken back up to the first ones: what was there may follow again.
    pub again : (shape : Shape) (v : Past State Op Undo) (h : ℕ → List Op) (p n : ℕ) → IsPast o place shape v h → (q : ℕ) → h q ≡ with_ops place (at_place p (take n (h p)) h) (drop n (h p)) q
    again shape v h p n past = cut_there place h p n (λ a i. place_there shape v h past p a (in_dropped (h p) n a i))

    -- The later operations of a place may follow the first ones there.
    pub may_again : (shape : Shape) (v : Past State Op Undo) (h : ℕ → List Op) (p n : ℕ) → IsPast o place shape v h → MayFollow o place shape (at_place p (take n (h p)) h) (drop n (h p))
    may_again shape v h p n past q = subst (IsAllowed o shape) (again shape v h p n past q) (allowed_there o place SameAt laws places shape v h past q)

    at_first : (h : ℕ → List Op) (p n : ℕ) → at_place p (take n (h p)) h p ≡ take n (h p)
    at_first h p n = ap (λ (b : Bool). cond b (take n (h p)) (h p)) (eq-eqb p p refl)

    -- Operations of the place may follow the first ones exactly if they are allowed behind them.
    pub follow_first : (shape : Shape) (w : Past State Op Undo) (h : ℕ → List Op) (p n : ℕ) (l : List Op) → AreThere place p l → IsPast o place shape w (at_place p (take n (h p)) h)
        → MayFollow o place shape (at_place p (take n (h p)) h) l ↔ IsAllowed o shape (take n (h p) ++ l)
    follow_first shape w h p n l t past = (
      (λ may. subst (IsAllowed o shape) (with_there place (at_place p (take n (h p)) h) p l t ∙ ap (λ (x : List Op). x ++ l) (at_first h p n)) (may p)),
      (λ k. follow_there shape w (at_place p (take n (h p)) h) p l t past (subst (λ (x : List Op). IsAllowed o shape (x ++ l)) (sym (at_first h p n)) k)),
    )

    -- the operations of the place but the first ones, taken back
    pub taken_off : (shape : Shape) (v w : Past State Op Undo) (h : ℕ → List Op) (p n : ℕ) (l : List Op) → l ≡ drop n (h p) → AllGoBack o place v l w → IsPast o place shape v h
        → IsPast o place shape w (at_place p (take n (h p)) h)
    taken_off shape v w h p n l is back past =
        back shape (at_place p (take n (h p)) h)
        (same_past shape v h _ (λ q. again shape v h p n past q ∙ ap (λ (x : List Op). with_ops place (at_place p (take n (h p)) h) x q) (sym is)) past)

    -- and applied again
    pub put_on : (shape : Shape) (u v w : Past State Op Undo) (h : ℕ → List Op) (p n : ℕ) (l : List Op) → l ≡ drop n (h p) → AllAreDone o place v l w → IsPast o place shape u h
        → IsPast o place shape v (at_place p (take n (h p)) h) → IsPast o place shape w h
    put_on shape u v w h p n l is done past first =
        same_past shape w _ h (λ q. ap (λ (x : List Op). with_ops place (at_place p (take n (h p)) h) x q) is ∙ sym (again shape u h p n past q))
        (done shape (at_place p (take n (h p)) h) first)
