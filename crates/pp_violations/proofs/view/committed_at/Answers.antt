use Rattle.pp_violations.proofs.Views.{serial_read}
use Rattle.pp_violations.proofs.view.committed_at.Goals as goal

pub loop-transaction-preserved : goal.loop-transaction-preserved
loop-transaction-preserved g c =
    serial_read g.S.Placed.place_of c.args.place c.args.committed.now c.as_slice-transaction-items.result.now c.loop-transaction.transaction-index c.transaction-item.result c.as_slice.result.now
    c.as_slice-transaction-items.ensures c.loop-transaction-test.true c.transaction-item.is c.as_slice.ensures c.loop-transaction.list.items c.add_items.new.list.items c.loop-transaction.invariant c.in_ok-add_items.ensures
