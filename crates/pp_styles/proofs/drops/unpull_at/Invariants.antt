use Rattle.std.proofs.Common.{◌≡◌, ◌++◌, drop}
use Rattle.pp_records.specs.Expansions.{unpulls}
use Rattle.pp_styles.specs.Meanings.{meanings}
use Rattle.pp_styles.proofs.Dropping.{Rest}
use Rattle.pp_styles.proofs.drops.unpull_at.Given as goal

abbrev pub decreases-walk : goal.decreases-walk
decreases-walk g l = l.rest

abbrev pub invariant-walk : goal.invariant-walk
invariant-walk g l =
    Rest l.tx l.source l.entries l.at l.rest l.from
    × (meanings l.list ≡ meanings l.fn.list ++ unpulls l.tx l.source (drop l.from l.entries))
