use Rattle.std.proofs.Common.{◌≡◌, ◌+◌, ◌++◌, length, drop, ap, subst, arith}
use Rattle.std.proofs.lemmas.List.{length-append, length-map}
use Rattle.pp_model.specs.Object.{ops}
use Rattle.pp_model.specs.Sound.{serial_ops}
use Rattle.pp_kind.specs.Object.{state_after}
use Rattle.pp_kind.proofs.Rests.{serial_left}
use Rattle.pp_kind.proofs.Replays.{IsReplaying, allowed_front, ranged_front, goes_on_by}
use Rattle.pp_kind.proofs.serial_run.serial_state.Goals as goal

pub replay-requires-clause-allowed : goal.replay-requires-clause-allowed
replay-requires-clause-allowed g c =
    let l = c.args.committed.now in
    let i = c.loop-transaction.transaction-index in
    let entries = c.as_slice.result.now in
    allowed_front g.S.Spec.object c.loop-transaction.state (ops entries)
    (serial_ops (drop (i + 1) l)) (serial_ops (drop i l))
    (serial_left l c.as_slice-transaction-items.result.now i c.transaction-item.result entries
    c.as_slice-transaction-items.ensures c.loop-transaction-test.true c.transaction-item.is
    c.as_slice.ensures)
    c.loop-transaction.invariant.replaying.allowed

pub replay-requires-clause-ranged : goal.replay-requires-clause-ranged
replay-requires-clause-ranged g c =
    let l = c.args.committed.now in
    let i = c.loop-transaction.transaction-index in
    let entries = c.as_slice.result.now in
    ranged_front g.S.Spec.object (ops entries) (serial_ops (drop (i + 1) l)) (serial_ops (drop i l))
    (serial_left l c.as_slice-transaction-items.result.now i c.transaction-item.result entries
    c.as_slice-transaction-items.ensures c.loop-transaction-test.true c.transaction-item.is
    c.as_slice.ensures)
    c.loop-transaction.invariant.replaying.ranged

pub loop-transaction-preserved : goal.loop-transaction-preserved
loop-transaction-preserved g c =
    let o = g.S.Spec.object in
    let l = c.args.committed.now in
    let i = c.loop-transaction.transaction-index in
    let entries = c.as_slice.result.now in
    let rest = serial_ops (drop (i + 1) l) in
    let s = c.loop-transaction.state in
    let so = c.loop-transaction.invariant in
    let done = c.in_ok-replay.ensures in
    let t = state_after o c.args.shape.now (serial_ops l) in
    let left : serial_ops (drop i l) ≡ ops entries ++ rest =
    serial_left l c.as_slice-transaction-items.result.now i c.transaction-item.result entries
    c.as_slice-transaction-items.ensures c.loop-transaction-test.true c.transaction-item.is
    c.as_slice.ensures in
    let sizes : length (serial_ops (drop i l)) ≡ length (ops entries ++ rest) =
    ap (λ w. length w) left in
    let sum = length-append (ops entries) rest in
    let size = length-map entries (λ p. p.op) in
    record {
      replaying = goes_on_by o g.met.S.Spec.lawful t s c.replay.new.state (ops entries) rest
          (subst (λ w. IsReplaying o t s w) left so.replaying) done.state;
      cost = omega (arith, sizes, sum, size, done.cost, so.cost);
      rises = omega (arith, done.rises, so.rises);
    }
