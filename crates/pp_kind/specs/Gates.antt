-- Meaning: which numbers pass a gate, and which gates let only those pass for which a condition is
-- true.
use Rattle.std.specs.Prelude.{◌≡◌, ℕ, ℤ, pos, Bool, true, false, not, int_le, IsTrue}
use Rattle.std.specs.Ordering.{int_eq}
use Rattle.pp_kind.specs.declared.gate.Gate.{Gate}
use Rattle.pp_kind.specs.declared.gate.Gate.TheVariants.{Open, Shut, Only, Unless, AtMost, AtLeast}
use Rattle.pp_kind.specs.declared.gate.Reading.{Reading}
use Rattle.pp_kind.specs.declared.gate.Reading.TheVariants.{To, From, Still}
use Rattle.pp_kind.specs.declared.table.Condition.{Condition}
use Rattle.pp_kind.specs.declared.table.Figures.{Figures}
use Rattle.pp_kind.specs.Table.{condition_holds}

-- whether a number passes
abbrev pub passes : Gate → ℤ → Bool
passes Open number = true
passes Shut number = false
passes (Only bound) number = int_eq number bound
passes (Unless bound) number = not (int_eq number bound)
passes (AtMost bound) number = int_le number bound
passes (AtLeast bound) number = int_le bound number

-- this is the number that is read of a first operation with the figures x
abbrev pub IsRead : Reading → Figures → ℤ → Type 0
IsRead To x number = x.to ≡ number
IsRead From x number = x.from ≡ number
IsRead Still x number = (x.from ≡ number) × (x.to ≡ number) × (x.shift ≡ pos 0)

-- the condition is true for each first operation whose number passes, and a second one with the
-- figures y
abbrev pub IsGateOf : Condition → Reading → Figures → Gate → Type 0
IsGateOf condition reading y gate = (x : Figures) (number : ℤ) → IsRead reading x number →
    IsTrue (passes gate number) → IsTrue (condition_holds condition x y)

-- the relation R is true for each first operation of a form whose number passes, and the second one
abbrev pub IsGateBefore : {Op : Type 0} → (Op → ℕ) → (Op → ℤ) → (Op → Op → Type 0) → ℕ → Op →
    Gate → Type 0
IsGateBefore {Op} form_of number_of R form b gate =
    (a : Op) → form_of a ≡ form → IsTrue (passes gate (number_of a)) → R a b
