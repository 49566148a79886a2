use Rattle.std.proofs.Common.{w64, to_z, of_z}
use Rattle.pp_kind_priority.proofs.Copies.{copy_pushed}
use Rattle.pp_kind_priority.proofs.bag.push_copies.Goals as goal

pub loop-preserved : goal.loop-preserved
loop-preserved c =
    copy_pushed (to_z w64 (of_z w64 c.args.value)) c.loop.counter c.args.values.now c.loop.values
    c.push.new.self c.loop.invariant c.in_ok-push.ensures.ok
