use Rattle.std.proofs.Common.{remove}
use Rattle.std.proofs.Common.{subst}
use Rattle.pp_model.specs.Config.{local_ops}
use Rattle.pp_log.specs.Logs.{RemovalBound, from_place, removal_ticks}
use Rattle.pp_kind.specs.Parts.{Covers}
use Rattle.pp_log_local.proofs.Known.{known_moved, known_removed, own_counted, removed_done}
use Rattle.pp_log_local.proofs.Known.{removed_not}
use Rattle.pp_log_local.proofs.local.Local.remove.Goals.{in-Done, in_default-removed}
use Rattle.pp_log_local.proofs.local.Local.remove.Goals as goal

pub without-own_count-requires : goal.without-own_count-requires
without-own_count-requires g c =
    own_counted c.self.inside.log.1 (Covers g.S.Spec.object c.self.inside.samples) c.args.i c.in-Some.field-0.now c.self.inside.own_count c.self.inside.unpushed_from c.self.inside.pushed_to c.in-Some.ensures c.self.invariant

pub invariant_of-local : goal.invariant_of-local
invariant_of-local g c =
    let o = g.S.Spec.object in
    let x = c.self.inside.log.1 in
    elim c.match-removed.branch [
      | in-Done w ↦
          known_moved o (remove x c.args.i) c.in_ok-log.log.1 w.without-own_count.new.samples c.match-removed.samples w.without-own_count.result c.match-removed.own_count w.without-unpushed_from.result c.match-removed.unpushed_from w.without-pushed_to.result c.match-removed.pushed_to
          (removed_done o c.self.inside.log c.in_ok-log.log c.args.i c.in_ok-log.removed w.in-Done.is c.in_ok-log.ensures.removes)
          w.samples-is w.own_count-is w.unpushed_from-is w.pushed_to-is
          (known_removed x (Covers o c.self.inside.samples) (Covers o w.without-own_count.new.samples) c.args.i c.in-Some.field-0.now c.self.inside.own_count w.without-own_count.result c.self.inside.unpushed_from w.without-unpushed_from.result c.self.inside.pushed_to w.without-pushed_to.result
          c.in-Some.ensures w.without-own_count.ensures.keeps w.without-own_count.ensures.count
          w.without-unpushed_from.ensures.behind w.without-unpushed_from.ensures.before
          w.without-pushed_to.ensures.behind w.without-pushed_to.ensures.before c.self.invariant)
      | in_default-removed w ↦
          known_moved o x c.in_ok-log.log.1 c.self.inside.samples c.match-removed.samples c.self.inside.own_count c.match-removed.own_count c.self.inside.unpushed_from c.match-removed.unpushed_from c.self.inside.pushed_to c.match-removed.pushed_to
          (removed_not o c.self.inside.log c.in_ok-log.log c.args.i c.in_ok-log.removed w.in_default-removed.not-Done c.in_ok-log.ensures.removes)
          w.samples-is w.own_count-is w.unpushed_from-is w.pushed_to-is c.self.invariant
    ]

pub returns-clause-cost : goal.returns-clause-cost
returns-clause-cost g c = subst (λ z. removal_ticks c.in_ok-log.removed (from_place g.S.Placed.place_of (local_ops z.1) c.args.i) c.args.ticks.now c.remove.new.ticks) c.self.view_is c.in_ok-log.ensures.cost

pub returns-clause-bound : goal.returns-clause-bound
returns-clause-bound g c = subst (λ z. RemovalBound g.S.Placed.place_of (local_ops z.1) c.args.i c.args.ticks.now c.remove.new.ticks) c.self.view_is c.remove.ensures.bound
