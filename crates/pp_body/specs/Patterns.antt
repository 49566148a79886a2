-- Proof machinery: the test of a pattern.
use Rattle.std.specs.Prelude.{◌==◌, ℤ, Bool, true, ◌&&◌, Option, None, Some}
use Rattle.std.specs.Ordering.{int_eq}
use denote.Enum.Bare.{sameb}
use Rattle.pp_core.specs.contracts.call.Method.{the_type}
use Rattle.pp_model.specs.Body.{Pattern, Call}

-- a pattern without a number allows any number
abbrev pub is_allowed : Option ℤ → ℤ → Bool
is_allowed None z = true
is_allowed (Some y) z = int_eq y z

-- the same object and method, and arguments that are allowed
abbrev pub matches : Pattern → Call → Bool
matches p c =
    p.object == c.object && sameb the_type p.method c.method
    && is_allowed p.first c.first && is_allowed p.second c.second && is_allowed p.third c.third
