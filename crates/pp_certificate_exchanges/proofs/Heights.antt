-- Proof machinery: how many levels a tower has.
use Rattle.std.proofs.Common.{ℕ, suc}
use Rattle.pp_certificate_exchanges.specs.declared.tower.Tower.{Tower}
use Rattle.pp_certificate_exchanges.specs.declared.tower.Tower.TheVariants.{Top, Level'}

-- The number of levels above the lowest row.
abbrev pub height : Tower → ℕ
height (Top n) = 0
height (Level' counts p above) = suc (height above)
