use Rattle.pp_machine.proofs.Keeping.{start_holds}
use Rattle.pp_machine.proofs.Lent.{lent_holds}
use Rattle.pp_machine.proofs.machine.Machine.new.Goals as goal

pub invariant_of-result : goal.invariant_of-result
invariant_of-result g c = lent_holds g.S.Spec.object c.in_ok-parts.ensures.ok (start_holds g.S.Spec.object c.args.shape c.new-2.result c.new-3.result c.in_ok-shared.shared c.new-4.result c.new-2.ensures c.new-3.ensures c.in_ok-shared.ensures c.new-4.ensures)
