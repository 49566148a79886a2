-- Meaning: what an input is to `judge`.
use Rattle.std.specs.Prelude.{ℕ, List}
use Rattle.pp_core.specs.declared.limits.TheConstants.{LONGEST_LINE}
use Rattle.pp_input.specs.declared.limits.Limits.{Limits}
use Rattle.pp_judge.specs.Inputs.{early_scan_within, scan_within}
use Rattle.pp_judge.specs.Scans.{InputScan}

-- The limits of `judge`. Those on the bytes and the transactions are the greatest numbers of 64 and
-- of 32 bits. No input passes them, since so many lines have fewer.
abbrev pub judge_limits : Limits
judge_limits = record {
  bytes = 18_446_744_073_709_551_615;
  lines = 2_147_483_647;
  line_bytes = LONGEST_LINE;
  transactions = 4_294_967_295;
}

-- what an input is within them
abbrev pub judge_scan : List ℕ → InputScan
judge_scan bytes = scan_within judge_limits bytes

-- what no further byte can change of it
abbrev pub early_judge_scan : List ℕ → InputScan
early_judge_scan bytes = early_scan_within judge_limits bytes
