-- Proof machinery: operations of one part that are asked alone, on new objects.
use Rattle.std.proofs.Common.{◌≡◌, ◌≢◌, ◌↔◌, ◌≤◌, ◌-◌, ◌==◌, ℕ, Bool, true, false, IsTrue, List, [], ◌∷◌, ◌++◌, drop, filter, take, length}
use Rattle.std.proofs.Common.{refl, sym, ap, subst, ◌∙◌, inl, inr, arith, append_assoc}
use Rattle.std.proofs.lemmas.List.{length-drop, length-map, length-take, take-append-drop}
use Rattle.std.proofs.lemmas.List.Elements.{filter-append}
use Rattle.pp_model.specs.Lists.{In}
use Rattle.pp_model.proofs.Lists.{from_filter, in_cases, in_left}
use Rattle.pp_kind.specs.Object.{IsAllowed, IsLawful, IsPlaced, Object}
use Rattle.pp_kind.specs.Parts.{PartsSwap}
use Rattle.pp_kind.specs.declared.part.Part.{Part}
use Rattle.pp_kind_parts.specs.Alone.{PartsStandAlone, same_part}
use Rattle.pp_kind_parts.proofs.Alone.{allowed_after, allowed_passing, parts_told, same_part_own}
use Rattle.pp_laws_summary.specs.Places.{ops_at}
use Rattle.pp_summary.specs.Held.{IsOpAsked}
use Rattle.pp_snapshots.specs.declared.past.Made.{Made}
use Rattle.pp_snapshots.specs.declared.past.Past.{Past}
use Rattle.pp_snapshots.specs.Costs.{ops_of_part}
use Rattle.pp_snapshots.specs.Many.{AllFollow, AreAsked, AreOf, AreThere, MayFollow, TellsBehind, ops_made}
use Rattle.pp_snapshots.specs.Ops.{MayHave, made_first, made_from}
use Rattle.pp_snapshots.specs.Past.{IsPast, IsSomePast, made_at}
use Rattle.pp_snapshots.proofs.Apart.{filter_all, part_there, parts_there}
use Rattle.pp_snapshots.proofs.Asking.{count_is, filter_short, joined_there, one_there}
use Rattle.pp_snapshots.proofs.Manies.{asked_there, follow_there, ops_there, with_there}
use Rattle.pp_snapshots.proofs.Pasts.{shape_is}

-- What is among the first elements of a list is in the list.
pub in_taken : {A : Type 0} (l : List A) (n : ℕ) (a : A) → In a (take n l) → In a l
in_taken {A} l n a i = subst (λ (w : List A). In a w) (take-append-drop n l) (in_left a (take n l) (drop n l) i)

module _ {Shape State Op Undo : Type 0} (o : Object Shape State Op Undo) (place : Op → ℕ) where
  -- As many operations are later at a place as there are, but for the first ones.
  pub later_is : (v : Past State Op Undo) (p n : ℕ) → length (made_from v p n) ≡ length (made_at p v.places.items) - n
  later_is v p n =
      length-drop n (ops_made (made_at p v.places.items))
      ∙ ap (λ (m : ℕ). m - n) (length-map (made_at p v.places.items) (λ (m : Made Op Undo). m.op))

  -- No place has more operations than there are.
  pub there_few : (v : Past State Op Undo) → IsSomePast o place v → (p : ℕ) → length (made_at p v.places.items) ≤ v.size
  there_few v s p =
      let past = s.1.1 in
      let count = count_is o place s.0 v s.1.0 past p in
      let at = ap (λ (l : List Op). length l) (past.at_places p) in
      let short = filter_short (λ (a : Op). place a == p) past.log in
      omega (arith, count, at, short, past.size)

  -- The first operations of a part at a place are no more than all operations.
  pub first_few : (part : Op → Part) (v : Past State Op Undo) → IsSomePast o place v → (p n : ℕ) (op : Op) → length (ops_of_part part op (made_first v p n)) ≤ v.size
  first_few part v s p n op =
      let short = filter_short (λ (a : Op). same_part (part a) (part op)) (made_first v p n) in
      let taken = length-take n (ops_made (made_at p v.places.items)) in
      let same = length-map (made_at p v.places.items) (λ (m : Made Op Undo). m.op) in
      let few = there_few v s p in
      omega (arith, short, taken, same, few)

  module _ (SameAt : ℕ → State → State → Type 0) (laws : IsLawful o) (places : IsPlaced o place SameAt) where
    -- Operations of one place may follow on new objects exactly if they are allowed.
    pub alone_tells : (shape : Shape) (w : Past State Op Undo) (p : ℕ) (l : List Op) → AreThere place p l → IsPast o place shape w (λ q. []) → MayFollow o place shape (λ q. []) l ↔ IsAllowed o shape l
    alone_tells shape w p l t past = (
      (λ may. subst (IsAllowed o shape) (with_there place (λ q. []) p l t) (may p)),
      (λ k. follow_there o place SameAt laws places shape w (λ q. []) p l t past k),
    )

    -- What is returned of operations that are applied to new objects, all at one place.
    pub alone_follow : (shape : Shape) (v w : Past State Op Undo) (p : ℕ) (l : List Op) (good : Bool) → AreThere place p l → IsPast o place shape v (λ q. []) → AllFollow o place v l good w → IsTrue good ↔ IsAllowed o shape l
    alone_follow shape v w p l true t past follow = let r = follow shape (λ q. []) past in ((λ e. (alone_tells shape v p l t past).0 r.0), (λ k. refl))
    alone_follow shape v w p l false t past follow = let r = follow shape (λ q. []) past in ((λ e. absurd (cc)), (λ k. absurd (r.0 ((alone_tells shape v p l t past).1 k))))

    -- The operations of new objects fit them.
    pub new_asked : (shape : Shape) (v : Past State Op Undo) (h : ℕ → List Op) (l : List Op) → IsPast o place shape v h → AreOf o shape l → AreAsked o v l
    new_asked shape v h l past k a i =
        (subst (λ (sh : Shape). IsTrue (o.fits sh a)) (sym (shape_is o place SameAt laws places shape v h past)) (k a i).0, (k a i).1)

    module _ (part : Op → Part) (swap : PartsSwap o part) (alone : PartsStandAlone o place part) where
      -- of the part of op
      abbrev of_part : Op → Op → Bool
      of_part op a = same_part (part a) (part op)

      -- The first ones of a part, the own ones of it, and one more, are all at its place.
      pub anew_there : (op : Op) (first own asked : List Op) → asked ≡ ops_of_part part op first ++ (ops_of_part part op own ++ op ∷ []) → AreThere place (place op) asked
      anew_there op first own asked is =
          let there : (l : List Op) → AreThere place (place op) (ops_of_part part op l) = λ l a i. part_there o place SameAt laws places part swap alone op a (from_filter (of_part op) a l i).1 in
          subst (AreThere place (place op)) (sym is)
          (joined_there place (place op) (ops_of_part part op first) (ops_of_part part op own ++ op ∷ []) (there first)
          (joined_there place (place op) (ops_of_part part op own) (op ∷ []) (there own) (one_there place (place op) op refl)))

      -- They are of the objects, and in range.
      pub anew_of : (v : Past State Op Undo) (sh : Shape) (op : Op) (n : ℕ) (own asked : List Op) → IsSomePast o place v → o.shape v.state ≡ sh
          → asked ≡ ops_of_part part op (made_first v (place op) n) ++ (ops_of_part part op own ++ op ∷ []) → AreAsked o v own → IsOpAsked o (o.shape v.state) op → AreOf o sh asked
      anew_of v sh op n own asked s same is mine this = subst (AreOf o sh) (sym is) all
        where
          first : List Op
          first = made_first v (place op) n

          firsts : (a : Op) → In a (ops_of_part part op first) → IsTrue (o.fits sh a) × IsTrue (o.ranged a)
          firsts a i =
              let past = s.1.1 in
              let j = in_taken _ n a (from_filter (of_part op) a first i).0 in
              let k = asked_there o place SameAt laws places s.0 v s.1.0 past (place op) a (subst (λ (l : List Op). In a l) (ops_there o place s.0 v s.1.0 past (place op)) j) in
              (subst (λ (z : Shape). IsTrue (o.fits z a)) (sym (shape_is o place SameAt laws places s.0 v s.1.0 past) ∙ same) k.0, k.1)

          owns : (a : Op) → In a (ops_of_part part op own) → IsTrue (o.fits sh a) × IsTrue (o.ranged a)
          owns a i =
              let k = mine a (from_filter (of_part op) a own i).0 in
              (subst (λ (z : Shape). IsTrue (o.fits z a)) same k.0, k.1)

          last : (a : Op) → In a (op ∷ []) → IsTrue (o.fits sh a) × IsTrue (o.ranged a)
          last a (inl e) = subst (λ (b : Op). IsTrue (o.fits sh b) × IsTrue (o.ranged b)) (sym e) (subst (λ (z : Shape). IsTrue (o.fits z op)) same this.0, this.1)
          last a (inr e) = absurd e

          all : AreOf o sh (ops_of_part part op first ++ (ops_of_part part op own ++ op ∷ []))
          all a i = elim (in_cases a (ops_of_part part op first) (ops_of_part part op own ++ op ∷ []) i) [
            | inl j ↦ firsts a j
            | inr j ↦ elim (in_cases a (ops_of_part part op own) (op ∷ []) j) [ inl k ↦ owns a k | inr k ↦ last a k ]
          ]

      module _ (shape : Shape) (first : List Op) (op : Op) (own : List Op) where
        abbrev P : List Op → Type 0
        P = IsAllowed o shape

        -- An operation is allowed after others and the own ones at its place exactly if it is after those
        -- of its part alone.
        pub anew_decides : P (first ++ ops_at place (place op) own) → P (ops_of_part part op first ++ (ops_of_part part op own ++ op ∷ [])) ↔ P (first ++ (ops_at place (place op) own ++ op ∷ []))
        anew_decides have = (there, back)
          where
            tells : (a b : Op) → same_part (part a) (part op) ≡ false → same_part (part b) (part op) ≡ true → part a ≢ part b
            tells a b e f = parts_told part op a b e f

            one_passes : (b : Op) → In b (op ∷ []) → same_part (part b) (part op) ≡ true
            one_passes b (inl e) = ap (λ (c : Op). same_part (part c) (part op)) e ∙ same_part_own (part op)
            one_passes b (inr e) = absurd e

            of_both : filter (of_part op) (first ++ ops_at place (place op) own) ≡ ops_of_part part op first ++ ops_of_part part op own
            of_both =
                filter-append (of_part op) first (ops_at place (place op) own)
                ∙ ap (λ (w : List Op). ops_of_part part op first ++ w) (parts_there o place SameAt laws places part swap alone op own)

            of_all : filter (of_part op) (first ++ (ops_at place (place op) own ++ op ∷ [])) ≡ ops_of_part part op first ++ (ops_of_part part op own ++ op ∷ [])
            of_all =
                filter-append (of_part op) first (ops_at place (place op) own ++ op ∷ [])
                ∙ ap (λ (w : List Op). ops_of_part part op first ++ w)
                (filter-append (of_part op) (ops_at place (place op) own) (op ∷ [])
                ∙ ap (λ (w : List Op). w ++ filter (of_part op) (op ∷ [])) (parts_there o place SameAt laws places part swap alone op own)
                ∙ ap (λ (w : List Op). ops_of_part part op own ++ w) (filter_all (of_part op) (op ∷ []) one_passes))

            there : P (ops_of_part part op first ++ (ops_of_part part op own ++ op ∷ [])) → P (first ++ (ops_at place (place op) own ++ op ∷ []))
            there k =
                subst P (append_assoc first (ops_at place (place op) own) (op ∷ []))
                (allowed_after o place part swap alone shape (of_part op) tells [] (first ++ ops_at place (place op) own) (op ∷ []) one_passes have
                (subst P (sym (append_assoc (ops_of_part part op first) (ops_of_part part op own) (op ∷ [])) ∙ ap (λ (w : List Op). w ++ op ∷ []) (sym of_both)) k))

            back : P (first ++ (ops_at place (place op) own ++ op ∷ [])) → P (ops_of_part part op first ++ (ops_of_part part op own ++ op ∷ []))
            back k = subst P of_all (allowed_passing o place part swap alone shape (of_part op) tells [] (first ++ (ops_at place (place op) own ++ op ∷ [])) k)

      -- What the question on new objects says of the one after the first ones and the own ones.
      pub anew_tells : (v : Past State Op Undo) (sh : Shape) (op : Op) (n : ℕ) (own asked : List Op) (good : Bool) → o.shape v.state ≡ sh
          → asked ≡ ops_of_part part op (made_first v (place op) n) ++ (ops_of_part part op own ++ op ∷ []) → MayHave o place v (place op) n own → IsTrue good ↔ IsAllowed o sh asked
          → TellsBehind o place v (place op) n (ops_at place (place op) own ++ op ∷ []) good v
      anew_tells v sh op n own asked good same is have told shape h past =
          let shapes : sh ≡ shape = sym same ∙ shape_is o place SameAt laws places shape v h past in
          let first : made_first v (place op) n ≡ take n (h (place op)) = ap (take n) (ops_there o place shape v h past (place op)) in
          let all : asked ≡ ops_of_part part op (take n (h (place op))) ++ (ops_of_part part op own ++ op ∷ []) =
          is ∙ ap (λ (l : List Op). ops_of_part part op l ++ (ops_of_part part op own ++ op ∷ [])) first in
          let both = anew_decides shape (take n (h (place op))) op own (have shape h past) in (
            (
              (λ g. both.0 (subst (IsAllowed o shape) all (subst (λ (z : Shape). IsAllowed o z asked) shapes (told.0 g)))),
              (λ g. told.1 (subst (λ (z : Shape). IsAllowed o z asked) (sym shapes) (subst (IsAllowed o shape) (sym all) (both.1 g)))),
            ),
            past,
          )
