use Rattle.std.proofs.Common.{take}
use Rattle.pp_styles.specs.Dropping.{KeepsThere}
use Rattle.pp_styles.proofs.pulled.ids_there.Given as goal

abbrev pub invariant-loop-id : goal.invariant-loop-id
invariant-loop-id g l = KeepsThere l.local.1 (take l.id-index l.ids) l.there.keys
