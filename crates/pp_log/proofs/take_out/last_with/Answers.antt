use Rattle.std.proofs.Common.{arith}
use Rattle.pp_log.proofs.Edits.{not_among}
use Rattle.pp_log.proofs.take_out.last_with.Goals as goal

pub returns-clause-none : goal.returns-clause-none
returns-clause-none c = not_among c.args.ids.now c.args.id (λ j h. c.loop-k.invariant j (omega arith) h)
