-- Meaning: inputs that are the same under wider limits.
use Rattle.std.specs.Prelude.{◌≡◌, ◌≤◌, ◌⊎◌, ℕ, List, Some}
use Rattle.pp_input.specs.declared.limits.Limits.{Limits}
use Rattle.pp_input_reader.specs.declared.cause.Cause.{Cause}
use Rattle.pp_input_reader.specs.declared.cause.Cause.TheVariants.{TooLong, TooManyLines}
use Rattle.pp_input_reader.specs.declared.cause.Cause.TheVariants.{TooManyTransactions}
use Rattle.pp_judge.specs.Inputs.{early_scan_within, scan_within}
use Rattle.pp_judge.specs.Scans.{InputScan}

-- The second limits allow at least as much as the first, and the same bytes of a line.
pub record AreWider (narrow wide : Limits) : Type 0 where
  pub bytes : narrow.bytes ≤ wide.bytes
  pub lines : narrow.lines ≤ wide.lines
  pub line_bytes : narrow.line_bytes ≡ wide.line_bytes
  pub transactions : narrow.transactions ≤ wide.transactions

-- the input has more lines or more bytes than its limits allow
abbrev pub IsSizeLimit : Cause → Type 0
IsSizeLimit cause = (cause ≡ TooManyLines) ⊎ (cause ≡ TooLong)

-- that is not the fault of the scan
abbrev pub HasAllowedSize : InputScan → Type 0
HasAllowedSize sc =
    (line : ℕ) (cause : Cause) → IsSizeLimit cause → sc.fault ≡ Some (line, cause) → ⊥

-- both limits allow as many transactions, or that they are too many is not the fault of the scan
abbrev pub HasAllowedBegins : (narrow wide : Limits) → InputScan → Type 0
HasAllowedBegins narrow wide sc =
    (narrow.transactions ≡ wide.transactions)
    ⊎ ((line : ℕ) → sc.fault ≡ Some (line, TooManyTransactions) → ⊥)

-- An input that has not too many lines, bytes or transactions is the same under wider limits.
pub record WiderLimitsLaw : Type 0 where
  pub scan : (narrow wide : Limits) (bytes : List ℕ) → AreWider narrow wide →
      HasAllowedSize (scan_within narrow bytes) →
      HasAllowedBegins narrow wide (scan_within narrow bytes) →
      scan_within wide bytes ≡ scan_within narrow bytes
  pub early : (narrow wide : Limits) (bytes : List ℕ) → AreWider narrow wide →
      HasAllowedSize (early_scan_within narrow bytes) →
      HasAllowedBegins narrow wide (early_scan_within narrow bytes) →
      early_scan_within wide bytes ≡ early_scan_within narrow bytes
