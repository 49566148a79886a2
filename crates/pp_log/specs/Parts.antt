-- Proof machinery: the parts of a list of items by their places.
use Rattle.std.specs.Prelude.{◌≡◌, ℕ, nat_eq, List, [], ◌∷◌, cond, map}
use Rattle.pp_core.specs.declared.entry.Item.{Item}

-- The items of a place, in their order.
abbrev pub there : {Op : Type 0} → (Op → ℕ) → ℕ → List (Item Op) → List (Item Op)
there place p [] = []
there place p (e ∷ x) = cond (nat_eq (place e.op) p) (e ∷ there place p x) (there place p x)

-- The items of the entries that have a place.
abbrev pub items_on : {Op E : Type 0} → (Op → ℕ) → (E → Item Op) → ℕ → List E → List (Item Op)
items_on place item_of p entries = there place p (map item_of entries)

-- The items of all other places.
abbrev pub elsewhere : {Op : Type 0} → (Op → ℕ) → ℕ → List (Item Op) → List (Item Op)
elsewhere place p [] = []
elsewhere place p (e ∷ x) =
    cond (nat_eq (place e.op) p) (elsewhere place p x) (e ∷ elsewhere place p x)

-- The items among these entries that have the place of the first one.
abbrev pub with_first : {Op E : Type 0} → (Op → ℕ) → (E → Item Op) → List E → List (Item Op)
with_first place item_of [] = []
with_first place item_of (e ∷ x) = there place (place (item_of e).op) (map item_of (e ∷ x))

-- Each of the operations has this place.
abbrev pub AllAt : {Op : Type 0} → (Op → ℕ) → ℕ → List Op → Type 0
AllAt place p [] = Unit {0}
AllAt place p (c ∷ z) = (p ≡ place c) × AllAt place p z
