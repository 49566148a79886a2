-- Meaning: two objects for which the laws are false without their premises.
use Rattle.std.specs.Prelude.{◌≡◌, ℕ, zero, suc, Bool, true, false}
use Rattle.pp_core.specs.declared.call.Style.TheVariants.{Optimistic}
use Rattle.pp_model.specs.Body.{Call}
use Rattle.pp_model.specs.Object.{Object}
use Rattle.pp_laws_summary.specs.Laws.{LocalLogsDecide, SummariesDecide}
use Rattle.pp_laws_summary.specs.Places.{PlacesPart, PlacesSwap}

-- An object that allows one operation in all, whichever it is.
abbrev pub once : Call → Object ℕ ℕ
once k = record { start = zero; Legal = λ s a. s ≡ zero; next = λ s a. suc s; call = λ a. k }

-- Its operations swap, each at a place of its own. But an operation that is allowed at its place may
-- have a step that violates a criterion.
abbrev pub SwapsDoNotSuffice : Type 0
SwapsDoNotSuffice =
    (k : Call) →
    PlacesSwap (once k) (λ a. a) × (LocalLogsDecide Optimistic (once k) (λ a. a) → ⊥)

-- the operations of the second object
pub data Three : Type 0 where
  First : Three
  Second : Three
  Tell : Three

-- Tell is allowed right after First alone.
abbrev pub IsToldBy : Bool → Three → Type 0
IsToldBy s First = Unit {0}
IsToldBy s Second = Unit {0}
IsToldBy s Tell = s ≡ true

-- the state after an operation: whether it is First
abbrev pub is_first : Three → Bool
is_first First = true
is_first Second = false
is_first Tell = false

-- First, Second may be replaced by Second, First, and then more may follow.
abbrev pub turning : Call → Object Three Bool
turning k =
    record { start = false; Legal = IsToldBy; next = λ s a. is_first a; call = λ a. k }

-- It is made of one object at one place. But what may follow does not show its state, and two
-- configurations with one summary differ in what may follow.
abbrev pub SummariesDoNotSuffice : Type 0
SummariesDoNotSuffice =
    (k : Call) →
    PlacesPart (turning k) (λ a. zero) × (SummariesDecide Optimistic (turning k) (λ a. zero) → ⊥)
