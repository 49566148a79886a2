-- Proof machinery: what was fed to `Lines`, what it handed out, and what it holds.
use Rattle.std.specs.Prelude.{◌≡◌, ℕ, ◌+◌, List, ◌++◌, length, false}
use Rattle.pp_input.specs.declared.limits.Limits.{Limits}
use Rattle.pp_input.specs.Held.{Held}
use Rattle.pp_input.specs.Lines.{NumberedLine, rest, numbered_from}
use Rattle.pp_input.specs.Overruns.{overrun, within, reach_of, early_lines}

-- the lines that were handed out, followed by those that are held, are these
pub record Hands (lines out : List NumberedLine) (held : Held) : Type 0 where
  pub handed : held.handed ≡ length out
  pub order : out ++ numbered_from (held.handed + 1) held.whole ≡ lines

-- these bytes were fed, no piece after one that passed a limit, and these lines were handed out
pub record Took (limits : Limits) (bytes : List ℕ) (out : List NumberedLine) (held : Held) :
    Type 0 where
  pub hands : Hands (early_lines limits bytes) out held
  pub rest : held.rest ≡ rest (within limits bytes)
  pub reach : held.reach ≡ reach_of limits (within limits bytes)
  pub fault : held.fault ≡ overrun limits bytes
  pub unclosed : held.closed ≡ false
