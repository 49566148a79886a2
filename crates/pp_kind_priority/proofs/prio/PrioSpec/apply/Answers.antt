use Rattle.std.proofs.Common.{arith}
use Rattle.pp_kind_priority.proofs.Reached.{reached_length}
use Rattle.pp_kind_priority.proofs.prio.PrioSpec.apply.Goals as goal

pub add-requires : goal.add-requires
add-requires g c = let few = reached_length c.args.state.now c.requires.reached in
    record { room = omega arith }
