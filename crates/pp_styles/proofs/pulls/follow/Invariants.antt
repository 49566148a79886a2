use Rattle.std.proofs.Common.{◌≡◌, ◌≤◌, ◌-◌, ◌++◌, length, take}
use Rattle.std.specs.Option.{option_copied}
use Rattle.pp_records.specs.Expansions.{follow}
use Rattle.pp_styles.specs.Meanings.{meanings}
use Rattle.pp_styles.specs.Sources.{kept_sources}
use Rattle.pp_styles.proofs.pulls.follow.Given as goal

abbrev pub decreases-pulls : goal.decreases-pulls
decreases-pulls g l = length l.entries - l.from

abbrev pub invariant-pulls : goal.invariant-pulls
invariant-pulls g l =
    (l.from ≤ length l.entries)
    × (meanings l.list
    ≡ meanings l.fn.list
    ++ follow g.S.Placed.place_of l.tx l.object (kept_sources (option_copied l.sources)) (take l.from l.shared.1) l.local.1)
