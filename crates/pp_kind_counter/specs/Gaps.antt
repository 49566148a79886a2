-- Meaning: how a counter differs from the one that would be there without one of its operations.
use Rattle.std.specs.Prelude.{◌≡◌, ℤ, ◌+ℤ◌}
use Rattle.pp_kind_counter.specs.declared.gap.CounterGap.{CounterGap}

-- there is no condition on the number
abbrev pub Bears : CounterGap → ℤ → Type 0
Bears g n = Unit {0}

-- the first number is the second with what the gap adds
abbrev pub Differ : CounterGap → ℤ → ℤ → Type 0
Differ g n m = n ≡ m +ℤ g.by
