-- Proof machinery: what was applied at each place, and one operation more or less there.
use Rattle.std.proofs.Common.{◌≡◌, ◌≢◌, ◌+◌, ◌<◌, ◌≤◌, ℕ, Bool, cond, IsTrue, List, [], ◌∷◌, ◌++◌, length}
use Rattle.std.proofs.Common.{refl, sym, ap, subst, ◌∙◌, inl, inr, arith, append-nil}
use Rattle.std.proofs.lemmas.Bool.{eq-eqb}
use Rattle.std.proofs.lemmas.List.{length-append}
use Rattle.pp_kind.specs.Object.{AllElsewhere, AllRanged, IsAllowed, IsLawful, IsLegal, IsPlaced, IsReached, IsUndoneBehind, Object, state_after, state_from}
use Rattle.pp_kind.specs.Calls.{WasApplied}
use Rattle.pp_kind.proofs.Lists.{allowed-first, one_more, last_is_legal, state_one_more, ranged-append, ranged-first, ranged-second}
use Rattle.pp_kind.proofs.Places.{reached_shape, undone_behind}
use Rattle.pp_laws_summary.specs.Places.{ops_at}
use Rattle.pp_laws_summary.proofs.Entries.{same_or_not}
use Rattle.pp_laws_summary.proofs.Parts.{at-append, not_eq}
use Rattle.pp_laws_summary.proofs.Placed.{next_at, next_off, parts_of}
use Rattle.pp_snapshots.specs.declared.past.Made.{Made}
use Rattle.pp_snapshots.specs.declared.past.Past.{Past}
use Rattle.pp_snapshots.proofs.Kept.{head_is, tail_is}
use Rattle.pp_snapshots.specs.Past.{IsPast, at_place, made_along, made_at, with_ops}

module _ {Op : Type 0} (place : Op → ℕ) where
  -- An operation at a place comes first among the operations there.
  pub here : (p : ℕ) (a : Op) (x : List Op) → place a ≡ p → ops_at place p (a ∷ x) ≡ a ∷ ops_at place p x
  here p a x e = ap (λ (b : Bool). cond b (a ∷ ops_at place p x) (ops_at place p x)) (eq-eqb (place a) p e)

  -- An operation at another place adds none to those at this one.
  pub elsewhere : (p : ℕ) (a : Op) (x : List Op) → place a ≢ p → ops_at place p (a ∷ x) ≡ ops_at place p x
  elsewhere p a x n = ap (λ (b : Bool). cond b (a ∷ ops_at place p x) (ops_at place p x)) (not_eq (place a) p n)

  -- none is at a place where the list has none there
  pub all_elsewhere : (p : ℕ) (l : List Op) → ops_at place p l ≡ [] → AllElsewhere place p l
  all_elsewhere p [] e = tt
  all_elsewhere p (b ∷ l) e = elim (same_or_not (place b) p) [
    | inl i ↦ absurd (not_none (sym (here p b l i) ∙ e))
    | inr n ↦ ((λ q. n (sym q)), all_elsewhere p l (sym (elsewhere p b l n) ∙ e))
  ]
    where
      not_none : {a : Op} {x : List Op} → a ∷ x ≡ [] → ⊥
      not_none h = absurd (cc)

  -- A list whose operations at p end with a, cut there.
  pub record IsCut (p : ℕ) (l x : List Op) (a : Op) : Type 0 where
    pub front : List Op
    pub rest : List Op
    pub is : l ≡ front ++ a ∷ rest
    pub before : ops_at place p front ≡ x
    pub others : AllElsewhere place p rest

  longer : (b : Op) (l x : List Op) (a : Op) (p : ℕ) → place b ≢ p → IsCut p l x a → IsCut p (b ∷ l) x a
  longer b l x a p n c =
      record {
        front = b ∷ c.front;
        rest = c.rest;
        is = ap (λ (w : List Op). b ∷ w) c.is;
        before = elsewhere p b c.front n ∙ c.before;
        others = c.others;
      }

  longer_here : (b : Op) (l x : List Op) (a : Op) (p : ℕ) → place b ≡ p → IsCut p l x a → IsCut p (b ∷ l) (b ∷ x) a
  longer_here b l x a p e c =
      record {
        front = b ∷ c.front;
        rest = c.rest;
        is = ap (λ (w : List Op). b ∷ w) c.is;
        before = here p b c.front e ∙ ap (λ (w : List Op). b ∷ w) c.before;
        others = c.others;
      }

  first_cut : (l : List Op) (a b : Op) (p : ℕ) → b ≡ a → ops_at place p l ≡ [] → IsCut p (b ∷ l) [] a
  first_cut l a b p e none =
      record {
        front = [];
        rest = l;
        is = ap (λ (c : Op). c ∷ l) e;
        before = refl;
        others = all_elsewhere p l none;
      }

  -- A list whose operations at a place end with one can be cut at that one.
  pub cut : (p : ℕ) (l x : List Op) (a : Op) → ops_at place p l ≡ x ++ a ∷ [] → IsCut p l x a
  cut p [] [] a e = absurd (cc)
  cut p [] (c ∷ x) a e = absurd (cc)
  cut p (b ∷ l) x a e = elim (same_or_not (place b) p) [
    | inr n ↦ longer b l x a p n (cut p l x a (sym (elsewhere p b l n) ∙ e))
    | inl i ↦ at x (sym (here p b l i) ∙ e) i (λ y f. cut p l y a f)
  ]
    where
      at : (x : List Op) → b ∷ ops_at place p l ≡ x ++ a ∷ [] → place b ≡ p → ((y : List Op) → ops_at place p l ≡ y ++ a ∷ [] → IsCut p l y a) → IsCut p (b ∷ l) x a
      at [] f i more = first_cut l a b p (head_is f) (tail_is f)
      at (c ∷ x) f i more = subst (λ (d : Op). IsCut p (b ∷ l) (d ∷ x) a) (head_is f) (longer_here b l x a p i (more x (tail_is f)))

  -- Without the operation the other places have what they had.
  pub cut_others : (p q : ℕ) (front rest : List Op) (a : Op) → place a ≡ p → p ≢ q → ops_at place q (front ++ a ∷ rest) ≡ ops_at place q (front ++ rest)
  cut_others p q front rest a e n =
      at-append place q front (a ∷ rest)
      ∙ ap (λ (w : List Op). ops_at place q front ++ w) (elsewhere q a rest (λ f. n (sym e ∙ f)))
      ∙ sym (at-append place q front rest)

  -- and it has one less
  pub elsewhere_none : (p : ℕ) (l : List Op) → AllElsewhere place p l → ops_at place p l ≡ []
  elsewhere_none p [] h = refl
  elsewhere_none p (b ∷ l) h = elsewhere p b l (λ e. h.0 (sym e)) ∙ elsewhere_none p l h.1

  -- the last of the operations at a place is there
  pub last_is_at : (p : ℕ) (l x : List Op) (a : Op) → ops_at place p l ≡ x ++ a ∷ [] → place a ≡ p
  last_is_at p [] [] a e = absurd (cc)
  last_is_at p [] (c ∷ x) a e = absurd (cc)
  last_is_at p (b ∷ l) x a e = elim (same_or_not (place b) p) [
    | inr n ↦ last_is_at p l x a (sym (elsewhere p b l n) ∙ e)
    | inl i ↦ at x (sym (here p b l i) ∙ e) i (λ y f. last_is_at p l y a f)
  ]
    where
      at : (x : List Op) → b ∷ ops_at place p l ≡ x ++ a ∷ [] → place b ≡ p → ((y : List Op) → ops_at place p l ≡ y ++ a ∷ [] → place a ≡ p) → place a ≡ p
      at [] f i more = ap place (sym (head_is f)) ∙ i
      at (c ∷ x) f i more = more x (tail_is f)

module _ {Shape State Op Undo : Type 0} (o : Object Shape State Op Undo) where
  -- What is kept of two lists is that of the first, and that of the second from the state after the first.
  pub made-append : (s : State) (x y : List Op) → made_along o s (x ++ y) ≡ made_along o s x ++ made_along o (state_from o s x) y
  made-append s [] y = refl
  made-append s (a ∷ x) y = ap (λ (w : List (Made Op Undo)). record { op = a; undo = o.upkeep.kept s a } ∷ w) (made-append (o.next s a) x y)

module _ {Shape State Op Undo : Type 0} (o : Object Shape State Op Undo) (place : Op → ℕ) (SameAt : ℕ → State → State → Type 0) (laws : IsLawful o) (places : IsPlaced o place SameAt) where
  -- a place depends on the operations there alone
  pub same_run : (p : ℕ) (s t : State) (x : List Op) → SameAt p s t → SameAt p (state_from o s x) (state_from o t (ops_at place p x))
  same_run p s t [] h = h
  same_run p s t (a ∷ x) h =
      let P : List Op → Type 0 = λ z. SameAt p (state_from o (o.next s a) x) (state_from o t z) in
      elim (same_or_not (place a) p) [
        | inl e ↦ subst P (sym (here place p a x e)) (same_run p (o.next s a) (o.next t a) x (next_at o place SameAt laws places p s t a e h))
        | inr n ↦ subst P (sym (elsewhere place p a x n)) (same_run p (o.next s a) t x (next_off o place SameAt laws places p s t a n h))
      ]

  module _ (shape : Shape) (v : Past State Op Undo) (h : ℕ → List Op) (past : IsPast o place shape v h) where
    -- The shape of the state is the shape of the run.
    pub shape_is : o.shape v.state ≡ shape
    shape_is = ap o.shape past.is ∙ reached_shape o laws shape past.log past.allowed

    -- At each place the state is that after the operations of the place alone.
    pub same_there : (p : ℕ) → SameAt p v.state (state_after o shape (h p))
    same_there p =
        subst (λ (s : State). SameAt p s (state_after o shape (h p))) (sym past.is)
        (subst (λ (x : List Op). SameAt p (state_after o shape past.log) (state_after o shape x)) (past.at_places p)
        (same_run p (o.start shape) (o.start shape) past.log (places.same p (o.start shape))))

    -- The operations of each place are allowed.
    pub allowed_there : (p : ℕ) → IsAllowed o shape (h p)
    allowed_there p = subst (IsAllowed o shape) (past.at_places p) (((parts_of o place SameAt laws places shape).parts past.log).0 past.allowed p)

    there_shape : (p : ℕ) → o.shape (state_after o shape (h p)) ≡ shape
    there_shape p = reached_shape o laws shape (h p) (allowed_there p)

    -- An operation is legal exactly if it is allowed behind those at its place.
    pub allowed_if_legal : (a : Op) → IsLegal o v.state a → IsAllowed o shape (h (place a) ++ a ∷ [])
    allowed_if_legal a k =
        let t = state_after o shape (h (place a)) in
        one_more o shape t (h (place a)) a refl (allowed_there (place a)) (
          subst (λ (sh : Shape). IsTrue (o.fits sh a)) (shape_is ∙ sym (there_shape (place a))) k.0,
          sym (places.gives_there v.state t a (same_there (place a))) ∙ k.1,
        )

    -- An operation that is allowed after those at its place is legal.
    pub legal_if_allowed : (a : Op) → IsAllowed o shape (h (place a) ++ a ∷ []) → IsLegal o v.state a
    legal_if_allowed a k =
        let t = state_after o shape (h (place a)) in
        let l = last_is_legal o shape t (h (place a)) a refl k in (
          subst (λ (sh : Shape). IsTrue (o.fits sh a)) (there_shape (place a) ∙ sym shape_is) l.0,
          places.gives_there v.state t a (same_there (place a)) ∙ l.1,
        )

    -- If fewer operations were applied than a log may have, the state is reached.
    pub reached : v.size < 4_294_967_552 → IsReached o v.state
    reached few =
        let sh = shape_is in
        record {
          ops = past.log;
          log = record {
            allowed = subst (λ (s : Shape). IsAllowed o s past.log) (sym sh) past.allowed;
            is = past.is ∙ ap (λ (s : Shape). state_after o s past.log) (sym sh);
            ranged = past.ranged;
          };
          few = subst (λ (n : ℕ). n < 4_294_967_552) past.size few;
        }

    -- One operation more.
    pub grown : (w : Past State Op Undo) (a : Op) → IsLegal o v.state a → IsTrue (o.ranged a) → w.state ≡ o.next v.state a → w.size ≡ v.size + 1
        → made_at (place a) w.places.items ≡ made_at (place a) v.places.items ++ record { op = a; undo = o.upkeep.kept v.state a } ∷ []
        → ((q : ℕ) → place a ≢ q → made_at q w.places.items ≡ made_at q v.places.items)
        → IsPast o place shape w (with_ops place h (a ∷ []))
    grown w a legal ranged state size made others =
        record {
          log = past.log ++ a ∷ [];
          allowed = one_more o shape v.state past.log a past.is past.allowed legal;
          is = state ∙ state_one_more o shape v.state past.log a past.is;
          ranged = ranged-append o past.log (a ∷ []) past.ranged (ranged, tt);
          size = size ∙ ap (λ (n : ℕ). n + 1) past.size ∙ sym (length-append past.log (a ∷ []));
          at_places = λ q. at-append place q past.log (a ∷ []) ∙ ap (λ (x : List Op). x ++ ops_at place q (a ∷ [])) (past.at_places q);
          made = λ q. elim (same_or_not (place a) q) [
            | inl e ↦ subst (λ (q : ℕ). made_at q w.places.items ≡ made_along o (o.start shape) (with_ops place h (a ∷ []) q)) e there
            | inr n ↦
                others q n ∙ past.made q
                ∙ ap (made_along o (o.start shape)) (sym (append-nil (h q)) ∙ ap (λ (x : List Op). h q ++ x) (sym (elsewhere place q a [] n)))
          ];
        }
      where
        p : ℕ
        p = place a

        kept : o.upkeep.kept v.state a ≡ o.upkeep.kept (state_after o shape (h (place a))) a
        kept = places.kept_there v.state (state_after o shape (h (place a))) a (same_there (place a))

        there : made_at (place a) w.places.items ≡ made_along o (o.start shape) (with_ops place h (a ∷ []) (place a))
        there =
            made
            ∙ ap (λ (x : List (Made Op Undo)). x ++ record { op = a; undo = o.upkeep.kept v.state a } ∷ []) (past.made (place a))
            ∙ ap (λ (u : Undo). made_along o (o.start shape) (h (place a)) ++ record { op = a; undo = u } ∷ []) kept
            ∙ sym (made-append o (o.start shape) (h (place a)) (a ∷ []))
            ∙ ap (λ (x : List Op). made_along o (o.start shape) (h (place a) ++ x)) (sym (here place (place a) a [] refl))

    -- The last operation at a place.
    module _ (p : ℕ) (x : List Op) (a : Op) (ends : h p ≡ x ++ a ∷ []) where
      -- The operations of the log at the place end with this one.
      pub ends_log : ops_at place p past.log ≡ x ++ a ∷ []
      ends_log = past.at_places p ∙ ends

      -- The last operation of the place is at the place.
      pub is_at : place a ≡ p
      is_at = last_is_at place p past.log x a ends_log

      -- the log is cut at the last operation of the place
      abbrev pub there : IsCut place p past.log x a
      there = cut place p past.log x a ends_log

      undone : IsUndoneBehind o shape there.front there.rest a
      undone =
          undone_behind o place SameAt laws places shape there.front there.rest a
          (subst (λ (q : ℕ). AllElsewhere place q there.rest) (sym is_at) there.others)
          (subst (IsAllowed o shape) there.is past.allowed)

      -- What takes the operation back is the same in the log as at its place.
      pub kept_there : o.upkeep.kept (state_after o shape there.front) a ≡ o.upkeep.kept (state_after o shape x) a
      kept_there =
          places.kept_there (state_after o shape there.front) (state_after o shape x) a
          (subst (λ (q : ℕ). SameAt q (state_after o shape there.front) (state_after o shape x)) (sym is_at)
          (subst (λ (y : List Op). SameAt p (state_after o shape there.front) (state_after o shape y)) there.before
          (same_run p (o.start shape) (o.start shape) there.front (places.same p (o.start shape)))))

      -- What is kept of the place ends with the operation and what takes it back.
      pub last_made : made_at p v.places.items ≡ made_along o (o.start shape) x ++ record { op = a; undo = o.upkeep.kept (state_after o shape x) a } ∷ []
      last_made = past.made p ∙ ap (made_along o (o.start shape)) ends ∙ made-append o (o.start shape) x (a ∷ [])

      -- the log without the last operation of the place
      abbrev pub both : List Op
      both = there.front ++ there.rest

      both_ranged : AllRanged o both
      both_ranged =
          let all = subst (AllRanged o) there.is past.ranged in
          ranged-append o there.front there.rest (ranged-first o there.front (a ∷ there.rest) all) (ranged-second o there.front (a ∷ there.rest) all).1

      both_allowed : IsAllowed o shape both
      both_allowed = allowed-first o (o.start shape) both (a ∷ []) undone.allowed

      size_is : length both + 1 ≡ length past.log
      size_is = omega (arith, length-append there.front there.rest, length-append there.front (a ∷ there.rest), ap (λ (l : List Op). length l) there.is)

      -- Some operation was applied.
      pub is_positive : 0 < v.size
      is_positive = omega (arith, past.size, size_is)

      both_shape : o.shape (state_after o shape both) ≡ shape
      both_shape = reached_shape o laws shape both both_allowed

      -- It was applied to a state that was reached.
      pub was_applied : v.size ≤ 4_294_967_552 → WasApplied o a (o.upkeep.kept (state_after o shape x) a) v.state
      was_applied few = (
        state_after o shape both,
        record {
          ops = both;
          log = record {
            allowed = subst (λ (s : Shape). IsAllowed o s both) (sym both_shape) both_allowed;
            is = ap (λ (s : Shape). state_after o s both) (sym both_shape);
            ranged = both_ranged;
          };
          few = omega (arith, few, past.size, size_is);
        },
        (ranged-second o there.front (a ∷ there.rest) (subst (AllRanged o) there.is past.ranged)).0,
        last_is_legal o shape (state_after o shape both) both a refl undone.allowed,
        past.is ∙ ap (state_after o shape) there.is ∙ undone.left,
        sym kept_there ∙ undone.kept,
      )

      -- And it can be taken back.
      pub taken_back : (w : Past State Op Undo) → w.state ≡ o.upkeep.back v.state a (o.upkeep.kept (state_after o shape x) a) → w.size + 1 ≡ v.size
          → made_at p w.places.items ≡ made_along o (o.start shape) x
          → ((q : ℕ) → p ≢ q → made_at q w.places.items ≡ made_at q v.places.items)
          → IsPast o place shape w (at_place p x h)
      taken_back w state size made others =
          record {
            log = both;
            allowed = both_allowed;
            is =
                state
                ∙ ap (λ (u : Undo). o.upkeep.back v.state a u) (sym kept_there)
                ∙ ap (λ (s : State). o.upkeep.back s a (o.upkeep.kept (state_after o shape there.front) a)) (past.is ∙ ap (state_after o shape) there.is)
                ∙ undone.undone;
            ranged = both_ranged;
            size = omega (arith, size, past.size, size_is);
            at_places = λ q. elim (same_or_not p q) [
              | inl e ↦ subst (λ (r : ℕ). ops_at place r both ≡ at_place p x h r) e (at_p ∙ sym (chosen p refl))
              | inr n ↦
                  sym (cut_others place p q there.front there.rest a is_at n)
                  ∙ ap (ops_at place q) (sym there.is) ∙ past.at_places q ∙ sym (left q n)
            ];
            made = λ q. elim (same_or_not p q) [
              | inl e ↦ subst (λ (r : ℕ). made_at r w.places.items ≡ made_along o (o.start shape) (at_place p x h r)) e (made ∙ ap (made_along o (o.start shape)) (sym (chosen p refl)))
              | inr n ↦ others q n ∙ past.made q ∙ ap (made_along o (o.start shape)) (sym (left q n))
            ];
          }
        where
          chosen : (q : ℕ) → p ≡ q → at_place p x h q ≡ x
          chosen q e = ap (λ (b : Bool). cond b x (h q)) (eq-eqb p q e)

          left : (q : ℕ) → p ≢ q → at_place p x h q ≡ h q
          left q n = ap (λ (b : Bool). cond b x (h q)) (not_eq p q n)

          at_p : ops_at place p both ≡ x
          at_p =
              at-append place p there.front there.rest
              ∙ ap (λ (y : List Op). ops_at place p there.front ++ y) (elsewhere_none place p there.rest there.others)
              ∙ append-nil (ops_at place p there.front) ∙ there.before
