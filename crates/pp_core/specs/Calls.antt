-- Meaning: the parts of a call.
use Rattle.std.specs.Prelude.{ℤ, List, [], ◌∷◌}
use Rattle.pp_core.specs.declared.call.Call.{Call}

-- the arguments in their order, also those that the method does not have
abbrev pub arguments : Call → List ℤ
arguments c = c.first ∷ c.second ∷ c.third ∷ []
