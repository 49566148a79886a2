use Rattle.std.proofs.Common.{◌≡◌, ◌++◌, take}
use Rattle.pp_records.specs.Expansions.{pushall}
use Rattle.pp_styles.specs.Meanings.{meanings}
use Rattle.pp_styles.proofs.walks.pushall.Given as goal

abbrev pub invariant-loop-entry : goal.invariant-loop-entry
invariant-loop-entry g l =
    meanings l.list ≡ meanings l.fn.list ++ pushall l.tx (take l.entry-index l.entries)
