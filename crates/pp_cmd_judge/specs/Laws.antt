-- Meaning: the laws of how `judge` reports an input.
use Rattle.std.specs.Prelude.{◌≡◌, ◌↔◌, ◌⊎◌, ℕ, List, Some}
use Rattle.pp_core.specs.declared.status.Status.{Status}
use Rattle.pp_records.specs.Inputs.{Faulty, IsReport}
use Rattle.pp_input_reader.specs.declared.cause.Cause.{Cause}
use Rattle.pp_input_reader.specs.declared.cause.Cause.TheVariants.{TooLong, TooManySteps}
use Rattle.pp_input_reader.specs.declared.cause.Cause.TheVariants.{TooManyTransactions}
use Rattle.pp_judge.specs.Inputs.{scan}
use Rattle.pp_judge.specs.Objects.{setting_of}
use Rattle.pp_judge.specs.Reports.{IsCertified}
use Rattle.pp_judge.specs.Scans.{InputScan}
use Rattle.pp_judge.specs.WiderLimits.{IsSizeLimit}
use Rattle.pp_cmd_judge.specs.Inputs.{judge_scan}
use Rattle.pp_cmd_judge.specs.Judgements.{HasAnySteps, IsJudgeFault, IsJudgeOutput}
use Rattle.pp_cmd_judge.specs.Judgements.{PassesStepsOn}

-- `judge` allows more than this limit of `certify`: on steps, transactions, lines or bytes
abbrev pub IsRaisedLimit : Cause → Type 0
IsRaisedLimit cause =
    (cause ≡ TooManySteps) ⊎ ((cause ≡ TooManyTransactions) ⊎ IsSizeLimit cause)

-- `certify` reports no such limit
abbrev pub IsWithinCertify : InputScan → Type 0
IsWithinCertify sc = (line : ℕ) (cause : Cause) → IsRaisedLimit cause →
    IsReport setting_of TooManySteps sc (Faulty line cause) → ⊥

pub record JudgementLaw : Type 0 where
  -- An input has too many steps on a line exactly if its style is hardware or dependent, the start
  -- and 4,294,967,295 steps meet their criteria, and the record on this line has one more.
  pub many_steps : (bytes : List ℕ) (line : ℕ) →
      IsJudgeFault (judge_scan bytes) (Some (line, TooManySteps))
      ↔ PassesStepsOn (judge_scan bytes).header (judge_scan bytes).records line
  -- no input of another style has too many steps
  pub any_steps : (bytes : List ℕ) (line : ℕ) → HasAnySteps (judge_scan bytes).header →
      IsJudgeFault (judge_scan bytes) (Some (line, TooManySteps)) → ⊥
  -- no input has too many bytes
  pub any_length : (bytes : List ℕ) (line : ℕ) →
      IsJudgeFault (judge_scan bytes) (Some (line, TooLong)) → ⊥
  -- no input has too many transactions
  pub any_begins : (bytes : List ℕ) (line : ℕ) →
      IsJudgeFault (judge_scan bytes) (Some (line, TooManyTransactions)) → ⊥
  -- an input has one status and one text at most
  pub one : (bytes : List ℕ) (s s' : Status) (t t' : List ℕ) → IsJudgeOutput bytes s t →
      IsJudgeOutput bytes s' t' → (s ≡ s') × (t ≡ t')
  -- These are those of `certify`, unless `certify` reports TooManySteps, TooManyTransactions,
  -- TooManyLines or TooLong.
  pub same : (bytes : List ℕ) (s : Status) (t : List ℕ) → IsWithinCertify (scan bytes) →
      IsJudgeOutput bytes s t ↔ IsCertified bytes s t
