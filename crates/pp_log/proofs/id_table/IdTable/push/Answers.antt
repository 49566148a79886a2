use Rattle.std.proofs.Common.{◌+◌, refl}
use Rattle.pp_log.proofs.Numbers.{table_pushed}
use Rattle.pp_log.proofs.id_table.IdTable.push.Goals as goal

pub returns : goal.returns
returns c = λ ids h new.
    table_pushed c.args.self.now (record { serials = c.push.new.self; serial_of = c.set.new.self; next = c.args.self.now.next + 1 }) ids c.args.id h new c.in-Ok.ensures.items refl c.set.ensures
