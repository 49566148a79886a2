use Rattle.std.proofs.Common.{take}
use Rattle.pp_log.specs.Index.{IsTableOf, StandOnce}
use Rattle.pp_log.proofs.id_table.IdTable.of.Given as goal

abbrev pub invariant-each : goal.invariant-each
invariant-each l = StandOnce l.fn.ids → IsTableOf l.table (take l.id-index l.fn.ids)
