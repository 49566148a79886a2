-- Proof machinery: which step of a record is the first to violate a criterion, by the summary.
use Rattle.std.specs.Prelude.{◌≡◌, ℕ, zero, suc, List, [], ◌∷◌, Option, None, Some, slice_get}
use Rattle.pp_core.specs.declared.step.Rule.{Rule}
use Rattle.pp_core.specs.Steps.{rule_of}
use Rattle.pp_model.specs.Config.{Step}
use Rattle.pp_model.specs.Rules.{FirstFalse}
use Rattle.pp_machine.specs.declared.detail.Detail.{Detail}
use Rattle.pp_machine.specs.Evidence.{at_number}
use Rattle.pp_laws_summary.specs.Failures.{Asked}
use Rattle.pp_violations.specs.declared.violation.Broken.{Broken}
use Rattle.pp_violations.specs.declared.violation.Violation.{Violation}

-- Each criterion of these steps is true.
abbrev pub AllTrue : {Op : Type 0} → List (Asked Op) → Type 0
AllTrue [] = Unit {0}
AllTrue (a ∷ qs) = FirstFalse a.asks 0 × AllTrue qs

-- Step number k is the first that violates a criterion, and the first such criterion has the
-- number n, from 0.
abbrev pub FalseAt : {Op : Type 0} → List (Asked Op) → ℕ → ℕ → Type 0
FalseAt [] k n = ⊥
FalseAt (a ∷ qs) zero n = FirstFalse a.asks (suc n)
FalseAt (a ∷ qs) (suc k) n = FirstFalse a.asks 0 × FalseAt qs k n

-- The rule is that of this step.
abbrev pub IsRule : {Op : Type 0} → Option (Step Op) → Rule → Type 0
IsRule None rule = ⊥
IsRule (Some s) rule = rule ≡ rule_of s

-- The rule is that of step number k.
abbrev pub HasRuleAt : {Op : Type 0} → List (Asked Op) → ℕ → Rule → Type 0
HasRuleAt [] k rule = ⊥
HasRuleAt (a ∷ qs) zero rule = IsRule a.step rule
HasRuleAt (a ∷ qs) (suc k) rule = HasRuleAt qs k rule

-- This is the first of these criteria that is violated, with its evidence.
pub record Breaks {Op : Type 0} (asks : List (Type 0)) (details : List (Detail Op))
    (x : Broken Op) : Type 0 where
  pub number : ℕ
  pub is_false : FirstFalse asks (suc number)
  pub criterion : x.criterion ≡ suc number
  pub detail : x.detail ≡ at_number details (suc number)

-- The first violated criterion, or none if all of them are true.
abbrev pub Judges : {Op : Type 0} → List (Type 0) → List (Detail Op) → Option (Broken Op) → Type 0
Judges asks details None = FirstFalse asks 0
Judges asks details (Some x) = Breaks asks details x

-- This is the evidence of criterion n, from 0, of step number k.
abbrev pub HasDetailAt : {Op : Type 0} → List (List (Detail Op)) → ℕ → ℕ → Detail Op → Type 0
HasDetailAt {Op} ds k n d =
    (l : List (Detail Op)) × (slice_get ds k ≡ Some l) × (d ≡ at_number l (suc n))

-- This is the first of these steps that violates a criterion, with that criterion and its evidence.
pub record Fails {Op : Type 0} (qs : List (Asked Op)) (ds : List (List (Detail Op)))
    (x : Violation Op) : Type 0 where
  pub number : ℕ
  pub is_false : FalseAt qs x.offset number
  pub rule : HasRuleAt qs x.offset x.rule
  pub criterion : x.criterion ≡ suc number
  pub detail : HasDetailAt ds x.offset number x.detail

-- The first step that violates a criterion is found, or none if there is none.
abbrev pub Finds : {Op : Type 0} → List (Asked Op) → List (List (Detail Op)) →
    Option (Violation Op) → Type 0
Finds qs ds None = AllTrue qs
Finds qs ds (Some x) = Fails qs ds x
