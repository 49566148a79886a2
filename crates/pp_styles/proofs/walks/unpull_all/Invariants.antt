use Rattle.std.proofs.Common.{◌≡◌, ◌≤◌, ◌++◌, length, drop}
use Rattle.pp_records.specs.Expansions.{unpulls}
use Rattle.pp_styles.specs.Meanings.{meanings}
use Rattle.pp_styles.proofs.walks.unpull_all.Given as goal

abbrev pub decreases-walk : goal.decreases-walk
decreases-walk g l = l.at

abbrev pub invariant-walk : goal.invariant-walk
invariant-walk g l =
    (l.at ≤ length l.entries)
    × (meanings l.list ≡ meanings l.fn.list ++ unpulls l.tx l.source (drop l.at l.entries))
