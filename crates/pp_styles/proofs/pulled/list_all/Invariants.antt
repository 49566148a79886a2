use Rattle.std.proofs.Common.{take}
use Rattle.pp_styles.specs.Dropping.{HasPulled, ids_from}
use Rattle.pp_styles.proofs.pulled.list_all.Given as goal

abbrev pub invariant-loop-entry : goal.invariant-loop-entry
invariant-loop-entry g l = HasPulled (λ v. ids_from v l.owners.entries) (take l.entry-index l.entries)
