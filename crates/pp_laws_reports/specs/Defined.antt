-- Meaning: every input has an output.
use Rattle.std.specs.Prelude.{ℕ, ◌≤◌, List}
use Rattle.pp_core.specs.declared.status.Status.{Status}
use Rattle.pp_certificate_lines.specs.Rechecked.{IsRecheck}
use Rattle.pp_judge.specs.Reports.{IsCertified, IsExpanded}
use Rattle.pp_cmd_views.specs.Outputs.{IsViews}
use Rattle.pp_cmd_opaque.specs.Outputs.{IsOpaqueOutput}
use Rattle.pp_cmd_quick.specs.Decisions.{IsQuick}
use Rattle.pp_cmd_judge.specs.Judgements.{IsJudgeOutput}
use Rattle.pp_cmd_drill.specs.Reports.{IsDrilled}
use Rattle.pp_cmd_swaps.specs.Swaps.{IsSwaps}

-- A status and a text are defined: it is impossible that none are. This does not compute them. The
-- criteria are statements, not tests, so the first step that fails cannot be computed from them.
abbrev pub IsDefined : (Status → List ℕ → Type 0) → Type 0
IsDefined Output = ((status : Status) (text : List ℕ) → Output status text → ⊥) → ⊥

-- Each command has an output for every input, and `drill` for each number that it takes.
pub record DefinedLaws : Type 0 where
  pub certify : (bytes : List ℕ) → IsDefined (IsCertified bytes)
  pub expand : (bytes : List ℕ) → IsDefined (IsExpanded bytes)
  pub judge : (bytes : List ℕ) → IsDefined (IsJudgeOutput bytes)
  pub quick : (bytes : List ℕ) → IsDefined (IsQuick bytes)
  pub swaps : (bytes : List ℕ) → IsDefined (IsSwaps bytes)
  pub recheck : (bytes : List ℕ) → IsDefined (IsRecheck bytes)
  pub views : (bytes : List ℕ) → IsDefined (IsViews bytes)
  pub opaque : (bytes : List ℕ) → IsDefined (IsOpaqueOutput bytes)
  pub drill : (n : ℕ) → 1 ≤ n → n ≤ 20_000 → IsDefined (IsDrilled n)
