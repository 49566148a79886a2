use Rattle.std.proofs.Common.{◌≤◌, ◌<◌, length, subst, sym, ap, arith}
use Rattle.pp_model.specs.Config.{shared_ops}
use Rattle.pp_log.specs.Logs.{RemovalBound, from_place, removal_ticks}
use Rattle.pp_log_shared.specs.Blocking.{IsSettled}
use Rattle.pp_log_shared.specs.Uncommitted.{LeavesOut}
use Rattle.pp_log_shared.proofs.Settled.{settled_remove}
use Rattle.pp_log_shared.proofs.Uncommitted.{leaves_removed}
use Rattle.pp_log_shared.proofs.shared.Shared.remove.Goals as goal

pub returns-in_default-removed-clause-cost : goal.returns-in_default-removed-clause-cost
returns-in_default-removed-clause-cost g c =
    subst (λ z. removal_ticks c.in_ok-log.removed (from_place g.S.Placed.place_of (shared_ops z.1) c.args.i) c.args.ticks.now c.remove.new.ticks) c.self.view_is c.in_ok-log.ensures.cost

pub invariant_of-result-2 : goal.invariant_of-result-2
invariant_of-result-2 g c =
    let h = c.min-settled.ensures in
    let less : c.min-settled.result ≤ c.self.inside.settled = omega arith in
    let before : c.min-settled.result ≤ c.args.i = omega arith in
    let inside : c.args.i < length c.self.inside.log.1 = subst (λ z. c.args.i < length z.1) (sym c.self.view_is) c.requires in
    let out = rw c.in-Done.is at c.in_ok-log.ensures.removes in
    let list = ap (λ z. z.1) out.0 in
    record {
      settles = subst (λ z. IsSettled z c.min-settled.result) (sym list) (settled_remove c.self.inside.log.1 c.self.inside.settled c.min-settled.result c.args.i less before inside c.self.invariant.settles);
      opens = c.take.ensures c.self.inside.log.1 c.in_ok-log.log.1 c.self.invariant.opens (subst (λ z. LeavesOut g.S.Parted.part_of c.in-Some.field-0.now c.self.inside.log.1 z) (sym list) (leaves_removed g.S.Parted.part_of c.self.inside.log.1 c.args.i c.in-Some.field-0.now (sym c.in-Some.ensures)));
    }

pub returns-in_err-log-clause-bound : goal.returns-in_err-log-clause-bound
returns-in_err-log-clause-bound g c =
    subst (λ z. RemovalBound g.S.Placed.place_of (shared_ops z.1) c.args.i c.args.ticks.now c.remove.new.ticks) c.self.view_is c.in_err-log.ensures.bound

pub returns-in_default-removed-clause-bound : goal.returns-in_default-removed-clause-bound
returns-in_default-removed-clause-bound g c =
    subst (λ z. RemovalBound g.S.Placed.place_of (shared_ops z.1) c.args.i c.args.ticks.now c.remove.new.ticks) c.self.view_is c.in_ok-log.ensures.bound

pub returns-clause-cost : goal.returns-clause-cost
returns-clause-cost g c =
    subst (λ z. removal_ticks c.in_ok-log.removed (from_place g.S.Placed.place_of (shared_ops z.1) c.args.i) c.args.ticks.now c.remove.new.ticks) c.self.view_is c.in_ok-log.ensures.cost

pub returns-clause-bound : goal.returns-clause-bound
returns-clause-bound g c =
    subst (λ z. RemovalBound g.S.Placed.place_of (shared_ops z.1) c.args.i c.args.ticks.now c.remove.new.ticks) c.self.view_is c.in_ok-log.ensures.bound
