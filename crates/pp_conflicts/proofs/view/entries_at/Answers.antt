use Rattle.pp_conflicts.proofs.Entries.{shared_read}
use Rattle.pp_conflicts.proofs.view.entries_at.Goals as goal

pub loop-transaction-preserved : goal.loop-transaction-preserved
loop-transaction-preserved g c =
    shared_read g.S.Placed.place_of c.args.place c.args.committed.now c.as_slice-transaction-items.result.now c.loop-transaction.transaction-index c.transaction-item.result c.as_slice-entries.result.now
    c.as_slice-transaction-items.ensures c.loop-transaction-test.true c.transaction-item.is c.as_slice-entries.ensures c.loop-transaction.list.items c.add_entries.new.list.items c.loop-transaction.invariant c.in_ok-add_entries.ensures
