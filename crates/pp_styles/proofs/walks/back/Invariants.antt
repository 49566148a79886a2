use Rattle.std.proofs.Common.{◌≡◌, ◌≤◌, ◌++◌, length, drop}
use Rattle.pp_records.specs.Expansions.{taken_out}
use Rattle.pp_styles.specs.Meanings.{meanings}
use Rattle.pp_styles.proofs.walks.back.Given as goal

abbrev pub decreases-walk : goal.decreases-walk
decreases-walk g l = l.at

abbrev pub invariant-walk : goal.invariant-walk
invariant-walk g l =
    (l.at ≤ length l.entries) × (l.to ≤ l.at)
    × (meanings l.list ≡ meanings l.fn.list ++ taken_out l.tx (drop l.at l.entries))
