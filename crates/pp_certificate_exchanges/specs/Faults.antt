-- Meaning: when there is no route.
use Rattle.std.specs.Prelude.{◌≡◌, ◌<◌, ℕ}
use Rattle.pp_certificate_exchanges.specs.declared.exchange.SwapFault.{SwapFault}
use Rattle.pp_certificate_exchanges.specs.declared.exchange.SwapFault.TheVariants.{TooMany, OutOfMemory}

-- Too many are reported exactly if there are more inverted pairs than the limit, and with their
-- number.
abbrev pub IsSwapFault : ℕ → ℕ → SwapFault → Type 0
IsSwapFault n most (TooMany count) = (count ≡ n) × (most < n)
IsSwapFault n most OutOfMemory = Unit {0}
