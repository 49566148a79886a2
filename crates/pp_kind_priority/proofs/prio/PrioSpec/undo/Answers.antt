use Rattle.std.proofs.Common.{◌≡◌, length, ap, arith}
use Rattle.pp_kind_priority.specs.Operations.{values_after}
use Rattle.pp_kind_priority.proofs.Reached.{reached_length, after_length}
use Rattle.pp_kind_priority.proofs.prio.PrioSpec.undo.Goals as goal

pub add-requires : goal.add-requires
add-requires g c =
    let before = c.requires.0 in
    let few = reached_length before c.requires.1 in
    let more = after_length before c.args.op.now in
    let here : length c.args.state.now ≡ length (values_after before c.args.op.now) =
    ap length c.requires.4 in
    record { room = omega arith }
