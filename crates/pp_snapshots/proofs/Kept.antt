-- Proof machinery: the lists of the places, with one more or less in one of them.
use Rattle.std.proofs.Common.{◌≡◌, ◌≢◌, ◌+◌, ◌<◌, ℕ, List, [], ◌∷◌, ◌++◌, length, get_or, Option, Some, refl, sym, ap, subst, ◌∙◌, inl, inr}
use Rattle.std.specs.List.{slice_set}
use Rattle.std.proofs.lemmas.Bool.{cases_lt}
use Rattle.std.proofs.lemmas.List.{length-append}
use Rattle.std.proofs.lemmas.Option.{slice_get-get_or, slice_get_past}
use Rattle.pp_log.proofs.Lists.{set_other, set_same}
use Rattle.pp_snapshots.specs.declared.past.Done.{Done}
use Rattle.pp_snapshots.specs.declared.past.Made.{Made}
use Rattle.pp_snapshots.specs.Past.{made_at, made_in}

-- Lists that are equal have the same first element.
pub head_is : {A : Type 0} {a b : A} {x y : List A} → a ∷ x ≡ b ∷ y → a ≡ b
head_is h = cc

-- Lists that are equal have the same elements after the first.
pub tail_is : {A : Type 0} {a b : A} {x y : List A} → a ∷ x ≡ b ∷ y → x ≡ y
tail_is h = cc

-- A list with one element more is not empty.
pub some_not_none : {A : Type 0} (x : List A) (a : A) → x ++ a ∷ [] ≡ [] → ⊥
some_not_none [] a h = absurd (cc)
some_not_none (b ∷ x) a h = absurd (cc)

-- lists that end with one element each
pub last_of : {A : Type 0} (x y : List A) (a b : A) → x ++ a ∷ [] ≡ y ++ b ∷ [] → (x ≡ y) × (a ≡ b)
last_of [] [] a b h = (refl, head_is h)
last_of [] (c ∷ y) a b h = absurd (some_not_none y b (sym (tail_is h)))
last_of (c ∷ x) [] a b h = absurd (some_not_none x a (tail_is h))
last_of {A} (c ∷ x) (d ∷ y) a b h =
    let r = last_of x y a b (tail_is h) in
    (ap (λ (e : A). e ∷ x) (head_is h) ∙ ap (λ (z : List A). d ∷ z) r.0, r.1)

module _ {Op Undo : Type 0} where
  -- what is kept of a place that is there
  pub made_here : (ps : List (Done Op Undo)) (p : ℕ) (d : Done Op Undo) → p < length ps → d ≡ get_or ps p d → made_at p ps ≡ d.made.items
  made_here ps p d h e = ap (λ (x : Option (Done Op Undo)). made_in x) (slice_get-get_or ps p d h ∙ ap Some (sym e))

  -- What is kept of a place is what was set there.
  pub made_set : (ps : List (Done Op Undo)) (p : ℕ) (d : Done Op Undo) → p < length ps → made_at p (slice_set ps p d) ≡ d.made.items
  made_set ps p d h = ap (λ (x : Option (Done Op Undo)). made_in x) (set_same ps p d h)

  -- Setting one place leaves what is kept of the others.
  pub made_others : (ps : List (Done Op Undo)) (p q : ℕ) (d : Done Op Undo) → p ≢ q → made_at q (slice_set ps p d) ≡ made_at q ps
  made_others ps p q d n = ap (λ (x : Option (Done Op Undo)). made_in x) (set_other ps p q d n)

  -- a place where something is kept is there
  pub place_in : (ps : List (Done Op Undo)) (p : ℕ) (x : List (Made Op Undo)) (m : Made Op Undo) → made_at p ps ≡ x ++ m ∷ [] → p < length ps
  place_in ps p x m h = elim (cases_lt p (length ps)) [
    | inl k ↦ k
    | inr k ↦ absurd (some_not_none x m (sym h ∙ ap (λ (y : Option (Done Op Undo)). made_in y) (slice_get_past ps p k)))
  ]

  -- One is kept more in a place.
  pub pushed : (ps qs : List (Done Op Undo)) (p q : ℕ) (d r : Done Op Undo) (m n : Made Op Undo) → q ≡ p → p < length qs → d ≡ get_or qs p d → ((j : ℕ) → made_at j qs ≡ made_at j ps)
      → r.made.items ≡ d.made.items ++ m ∷ [] → m ≡ n → made_at q (slice_set qs p r) ≡ made_at q ps ++ n ∷ []
  pushed ps qs p q d r m n same there value old items is =
      ap (λ (j : ℕ). made_at j (slice_set qs p r)) same ∙ made_set qs p r there ∙ items
      ∙ ap (λ (x : List (Made Op Undo)). x ++ m ∷ []) (sym (made_here qs p d there value) ∙ ap (λ (j : ℕ). made_at j qs) (sym same) ∙ old q)
      ∙ ap (λ (e : Made Op Undo). made_at q ps ++ e ∷ []) is

  -- What a place ends with, and what is before it.
  pub popped : (ps : List (Done Op Undo)) (p i : ℕ) (d : Done Op Undo) (y x : List (Made Op Undo)) (m n : Made Op Undo) → i ≡ p → d ≡ get_or ps i d
      → d.made.items ≡ y ++ m ∷ [] → made_at p ps ≡ x ++ n ∷ [] → (y ≡ x) × (m ≡ n)
  popped ps p i d y x m n same value items made =
      let there = place_in ps p x n made in
      let at = subst (λ (j : ℕ). d ≡ get_or ps j d) same value in
      last_of y x m n (sym items ∙ sym (made_here ps p d there at) ∙ made)

  -- If a place keeps a list and one more, it keeps one more than the list has.
  pub some_length : (ps : List (Done Op Undo)) (p i : ℕ) (d : Done Op Undo) (x : List (Made Op Undo)) (n : Made Op Undo) → i ≡ p → d ≡ get_or ps i d
      → made_at p ps ≡ x ++ n ∷ [] → length d.made.items ≡ length x + 1
  some_length ps p i d x n same value made =
      let there = place_in ps p x n made in
      let at = subst (λ (j : ℕ). d ≡ get_or ps j d) same value in
      ap (λ (y : List (Made Op Undo)). length y) (sym (made_here ps p d there at) ∙ made) ∙ length-append x (n ∷ [])

  -- What is kept of a place that has another list now.
  pub set_there : (ps : List (Done Op Undo)) (p i : ℕ) (d : Done Op Undo) (x : List (Made Op Undo)) → i ≡ p → p < length ps → d.made.items ≡ x → made_at p (slice_set ps i d) ≡ x
  set_there ps p i d x same there is =
      ap (λ (j : ℕ). made_at j (slice_set ps i d)) (sym same) ∙ made_set ps i d (subst (λ (j : ℕ). j < length ps) (sym same) there) ∙ is
