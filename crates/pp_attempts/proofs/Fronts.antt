-- Proof machinery: a list at the element that a loop is at.
use Rattle.std.proofs.Common.{◌≡◌, ◌<◌, ◌+◌, ℕ, suc, zero, List, [], ◌∷◌, ◌++◌, length, take, drop, get_or}
use Rattle.std.proofs.Common.{sym, ap, subst, ◌∙◌, arith, take-append-drop, inl, inr, refl}
use Rattle.std.proofs.lemmas.List.{take_more, drop_more, get_or-map}
use Rattle.pp_model.specs.Lists.{In}
use Rattle.pp_model.specs.Object.{Item, ops}
use Rattle.pp_model.proofs.Lists.{in_right}

module _ {A : Type 0} (xs : List A) (i : ℕ) (x : A) (there : i < length xs) (is : x ≡ get_or xs i x) where
  -- The elements from a position on are the one there and those after it.
  pub drop_there : drop i xs ≡ x ∷ drop (i + 1) xs
  drop_there = drop_more xs i x there ∙ ap (λ (y : A). y ∷ drop (i + 1) xs) (sym is)

  -- The elements up to and with a position are those before it and the one there.
  pub take_there : take (i + 1) xs ≡ take i xs ++ x ∷ []
  take_there = take_more xs i x there ∙ ap (λ (y : A). take i xs ++ y ∷ []) (sym is)

  -- A list is its part before a position, the element there, and the part after it.
  pub cut_there : xs ≡ take i xs ++ x ∷ drop (i + 1) xs
  cut_there = sym (take-append-drop i xs) ∙ ap (λ (w : List A). take i xs ++ w) drop_there

  -- The element at a position is in the list.
  pub in_there : In x xs
  in_there = subst (λ (w : List A). In x w) (sym cut_there)
      (in_right x (take i xs) (x ∷ drop (i + 1) xs) (inl refl))

-- The element that is read at a position below the length is in the list.
pub in_default : {A : Type 0} (xs : List A) (i : ℕ) (d : A) → i < length xs → In (get_or xs i d) xs
in_default [] i d there = absurd (omega (arith, there))
in_default (x ∷ xs) zero d there = inl refl
in_default (x ∷ xs) (suc i) d there = inr (in_default xs i d (omega (arith, there)))

-- The operation of the item at a position is the operation at this position.
pub op_at : {Op : Type 0} (l : List (Item Op)) (i : ℕ) (p : Item Op) → i < length l
    → p ≡ get_or l i p → p.op ≡ get_or (ops l) i p.op
op_at {Op} l i p h e = ap (λ (w : Item Op). w.op) e
    ∙ sym (get_or-map (λ (w : Item Op). w.op) l i p p.op h)
