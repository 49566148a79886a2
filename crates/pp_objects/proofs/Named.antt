-- Searching by a word.
use Rattle.std.proofs.Common.{◌≡◌, ◌<◌, ◌+◌, ℕ, Bool, true, false, cond, List, [], ◌∷◌, length}
use Rattle.std.proofs.Common.{drop, get_or, Option, Some, None, IfSome, refl, sym, ◌∙◌, ap, inl}
use Rattle.std.proofs.Common.{inr}
use Rattle.std.specs.Str.{bytes_eq}
use Rattle.std.proofs.lemmas.List.{drop_more}
use Rattle.std.proofs.lemmas.Slice.Eq.{bytes_eq-Decides}
use Rattle.pp_core.specs.Words.{named}
use Rattle.pp_model.specs.Lists.{In}

module _ {X : Type 0} (word_of : X → List ℕ) (word : List ℕ) where
  -- it is among these, and this is its word
  abbrev pub IsOneNamed : List X → X → Type 0
  IsOneNamed xs x = In x xs × (word_of x ≡ word)

  one_more : (x : X) (xs : List X) (r : Option X) → IfSome r (IsOneNamed xs) → IfSome r (IsOneNamed (x ∷ xs))
  one_more x xs None h = tt
  one_more x xs (Some y) h = (inr h.0, h.1)

  first_or_later : (x : X) (xs : List X) (b : Bool) → bytes_eq word (word_of x) ≡ b → IfSome (named word_of xs word) (IsOneNamed xs)
      → IfSome (cond b (Some x) (named word_of xs word)) (IsOneNamed (x ∷ xs))
  first_or_later x xs true e later = (inl refl, sym ((bytes_eq-Decides word (word_of x)).0 e))
  first_or_later x xs false e later = one_more x xs (named word_of xs word) later

  -- An item that `named` finds by a word is in the list and has the word.
  pub found : (xs : List X) → IfSome (named word_of xs word) (IsOneNamed xs)
  found [] = tt
  found (x ∷ xs) = first_or_later x xs (bytes_eq word (word_of x)) refl (found xs)

  not_first : (x y : X) → bytes_eq word (word_of y) ≡ false → word_of x ≡ word → x ≡ y → ⊥
  not_first x y e its_word same =
      let yes = (bytes_eq-Decides word (word_of y)).1 (sym its_word ∙ ap word_of same) in
      absurd (cc)

  neither : (x y : X) (ys : List X) (b : Bool) → bytes_eq word (word_of y) ≡ b → (named word_of ys word ≡ None → ¬ (IsOneNamed ys x))
      → cond b (Some y) (named word_of ys word) ≡ None → ¬ (IsOneNamed (y ∷ ys) x)
  neither x y ys true e later h m = absurd (cc)
  neither x y ys false e later h m =
      elim m.0 [
        | inl same ↦ not_first x y e m.1 same
        | inr is_later ↦ later h (is_later, m.1)
      ]

  -- If `named` finds none by a word, no item of the list has the word.
  pub none : (xs : List X) (x : X) → named word_of xs word ≡ None → ¬ (IsOneNamed xs x)
  none [] x h m = m.0
  none (y ∷ ys) x h m = neither x y ys (bytes_eq word (word_of y)) refl (none ys x) h m

  -- The search ends at the first item with this word, and goes on after any other.
  pub ends : (xs : List X) (i : ℕ) (x : X) (total : Option X) → i < length xs → bytes_eq word (word_of (get_or xs i x)) ≡ true
      → named word_of (drop i xs) word ≡ total → Some (get_or xs i x) ≡ total
  ends xs i x total lt is so_far =
      let here : named word_of (drop i xs) word ≡ Some (get_or xs i x) = rw (drop_more xs i x lt, is) refl in
      sym here ∙ so_far

  -- A search by a word goes on after an item with another word.
  pub goes_on : (xs : List X) (i : ℕ) (x : X) (total : Option X) → i < length xs → bytes_eq word (word_of (get_or xs i x)) ≡ false
      → named word_of (drop i xs) word ≡ total → named word_of (drop (i + 1) xs) word ≡ total
  goes_on xs i x total lt is so_far =
      let later : named word_of (drop i xs) word ≡ named word_of (drop (i + 1) xs) word = rw (drop_more xs i x lt, is) refl in
      sym later ∙ so_far
