use Rattle.std.proofs.Common.{sym}
use Rattle.std.specs.Str.{bytes_eq}
use Rattle.pp_summary.proofs.Lent.{empty_before}
use Rattle.pp_summary.proofs.slots.take_out.Goals as goal

pub returns-clause-same : goal.returns-clause-same
returns-clause-same g c =
    empty_before _ (bytes_eq c.args.tx.now) c.args.slots.now _ c.in_ok-slot.slot.now c.take.new.self c.take.result (sym c.in_ok-slot.ensures.value) c.take.ensures.value c.take.ensures.after (c.get_mut.follows.holds c.take.new.self)
