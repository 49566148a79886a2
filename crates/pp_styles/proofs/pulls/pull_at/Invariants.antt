use Rattle.std.proofs.Common.{◌≡◌, ◌++◌, take}
use Rattle.std.specs.Option.{option_copied}
use Rattle.pp_records.specs.Expansions.{follow}
use Rattle.pp_styles.specs.Meanings.{meanings}
use Rattle.pp_styles.specs.Sources.{kept_sources}
use Rattle.pp_styles.proofs.Taking.{Left}
use Rattle.pp_styles.proofs.pulls.pull_at.Given as goal

abbrev pub invariant-loop-position : goal.invariant-loop-position
invariant-loop-position g l =
    Left g.S.Placed.place_of l.tx l.object (kept_sources (option_copied l.sources)) l.shared.1 l.local.1 l.at l.position-index l.from
    × (meanings l.list
    ≡ meanings l.fn.list
    ++ follow g.S.Placed.place_of l.tx l.object (kept_sources (option_copied l.sources)) (take l.from l.shared.1) l.local.1)
