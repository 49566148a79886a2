-- Meaning: two states of a front that differ at most in the order of the sources.
use Rattle.std.specs.Prelude.{◌≡◌}
use Rattle.pp_model.specs.Names.{Name}
use Rattle.pp_records.specs.Fronts.{Front, has_name}

-- The kinds and the sections are the same, and so are the sources of each transaction, in any order.
pub record SameFront (f g : Front) : Type 0 where
  pub kinds : f.kinds ≡ g.kinds
  pub section : (t : Name) → f.section t ≡ g.section t
  pub sources : (t u : Name) → has_name u (f.sources t) ≡ has_name u (g.sources t)
