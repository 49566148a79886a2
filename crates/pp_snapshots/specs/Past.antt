-- Proof machinery: what was applied at each place, and one operation more or less there.
use Rattle.std.specs.Prelude.{◌≡◌, ◌+◌, ℕ, Bool, true, false, cond, nat_eq, List, []}
use Rattle.std.specs.Prelude.{◌∷◌, ◌++◌, length, slice_get, Option, None, Some}
use Rattle.pp_kind.specs.Object.{AllRanged, IsAllowed, Object, state_after}
use Rattle.pp_laws_summary.specs.Places.{ops_at}
use Rattle.pp_snapshots.specs.declared.past.Done.{Done}
use Rattle.pp_snapshots.specs.declared.past.Made.{Made}
use Rattle.pp_snapshots.specs.declared.past.Past.{Past}

-- What is kept of operations that are applied one after another, from a state on.
abbrev pub made_along : {Shape State Op Undo : Type 0} → Object Shape State Op Undo → State →
    List Op → List (Made Op Undo)
made_along o s [] = []
made_along o s (a ∷ x) =
    record { op = a; undo = o.upkeep.kept s a } ∷ made_along o (o.next s a) x

abbrev pub made_in : {Op Undo : Type 0} → Option (Done Op Undo) → List (Made Op Undo)
made_in None = []
made_in (Some d) = d.made.items

-- what is kept of a place
abbrev pub made_at : {Op Undo : Type 0} → ℕ → List (Done Op Undo) → List (Made Op Undo)
made_at q places = made_in (slice_get places q)

-- the operations of each place, with those of this list that are there after them
abbrev pub with_ops : {Op : Type 0} → (Op → ℕ) → (ℕ → List Op) → List Op → ℕ → List Op
with_ops place h l q = h q ++ ops_at place q l

-- the operations of each place, and these at the place p
abbrev pub at_place : {Op : Type 0} → ℕ → List Op → (ℕ → List Op) → ℕ → List Op
at_place p x h q = cond (nat_eq p q) x (h q)

module _ {Shape State Op Undo : Type 0} (o : Object Shape State Op Undo) (place : Op → ℕ) where
  -- These operations were applied at the places, in whichever order of places.
  pub record IsPast (shape : Shape) (v : Past State Op Undo) (h : ℕ → List Op) : Type 0 where
    pub log : List Op
    pub allowed : IsAllowed o shape log
    pub is : v.state ≡ state_after o shape log
    pub ranged : AllRanged o log
    pub size : v.size ≡ length log
    pub at_places : (q : ℕ) → ops_at place q log ≡ h q
    pub made : (q : ℕ) → made_at q v.places.items ≡ made_along o (o.start shape) (h q)

  -- some operations were
  abbrev pub IsSomePast : Past State Op Undo → Type 0
  IsSomePast v = (shape : Shape) × ((h : ℕ → List Op) × IsPast shape v h)

  -- What applying an operation returns. True says that it may follow those at its place.
  abbrev pub Follows : Past State Op Undo → Op → Bool → Past State Op Undo → Type 0
  Follows v op true w =
      ((shape : Shape) (h : ℕ → List Op) → IsPast shape v h →
      IsAllowed o shape (h (place op) ++ op ∷ []) × IsPast shape w (with_ops place h (op ∷ [])))
      × (w.size ≡ v.size + 1)
  Follows v op false w =
      ((shape : Shape) (h : ℕ → List Op) → IsPast shape v h →
      IsAllowed o shape (h (place op) ++ op ∷ []) → ⊥) × (w ≡ v)

  -- something was applied at the place
  pub record EndsWith (v : Past State Op Undo) (p : ℕ) : Type 0 where
    pub shape : Shape
    pub ops : ℕ → List Op
    pub past : IsPast shape v ops
    pub before : List Op
    pub last : Op
    pub is : ops p ≡ before ++ last ∷ []

  -- what it is to take the last operation at a place back
  abbrev pub GoesBack : Past State Op Undo → ℕ → Past State Op Undo → Type 0
  GoesBack v p w =
      (shape : Shape) (h : ℕ → List Op) (x : List Op) (a : Op) → IsPast shape v h →
      h p ≡ x ++ a ∷ [] → IsPast shape w (at_place p x h)
