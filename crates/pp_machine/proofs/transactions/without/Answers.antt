use Rattle.std.proofs.Common.{subst, sym}
use Rattle.std.proofs.lemmas.Result.{err_from_is_err_and}
use Rattle.pp_log.specs.Logs.{from_place, removal_ticks}
use Rattle.pp_model.specs.Config.{local_ops}
use Rattle.pp_machine.specs.Removals.{CostsRemoval, answer_of}
use Rattle.pp_machine.proofs.Removing.{within_bound}
use Rattle.pp_machine.proofs.transactions.without.Goals as goal

pub returns-in_err-left-clause-cost : goal.returns-in_err-left-clause-cost
returns-in_err-left-clause-cost g c =
    let ops = local_ops c.args.begun.value.course.local.1 in
    let p = err_from_is_err_and c.from_residual-in_err-left.result c.from_residual-in_err-left.ensures.1 in
    subst (λ z. CostsRemoval g.S.Placed.place_of ops c.args.i (answer_of z) c.args.ticks.now c.without.new.ticks) (sym p.1)
    (within_bound g.S.Placed.place_of ops c.args.i c.in_ok-course.removed c.args.ticks.now c.without.new.ticks
    (subst (λ z. removal_ticks c.in_ok-course.removed (from_place g.S.Placed.place_of (local_ops z.course.local.1) c.args.i) c.args.ticks.now c.without.new.ticks) c.into_inner-thread.ensures c.in_ok-course.ensures.cost))
