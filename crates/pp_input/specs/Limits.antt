-- Meaning: the limits of an input.
use Rattle.std.specs.Prelude.{ℕ, ◌<◌}
use Rattle.pp_core.specs.declared.limits.TheConstants.{LONGEST_LINE, MOST_BYTES, MOST_LINES}
use Rattle.pp_core.specs.declared.limits.TheConstants.{MOST_TRANSACTIONS}
use Rattle.pp_input.specs.declared.limits.Limits.{Limits}

-- the usual limits
abbrev pub usual_limits : Limits
usual_limits =
    record {
      bytes = MOST_BYTES;
      lines = MOST_LINES;
      line_bytes = LONGEST_LINE;
      transactions = MOST_TRANSACTIONS;
    }

-- the line after the one of this number has a number, which is a `u32`
abbrev pub HasNext : ℕ → Type 0
HasNext line = line < 4_294_967_295

-- so has the line after the last that may be
abbrev pub CanCount : Limits → Type 0
CanCount limits = HasNext limits.lines
