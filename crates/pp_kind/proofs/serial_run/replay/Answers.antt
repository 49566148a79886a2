use Rattle.std.proofs.Common.{◌≡◌, ◌+◌, ◌∷◌, drop, subst, arith}
use Rattle.pp_model.specs.Object.{ops}
use Rattle.pp_kind.specs.Object.{state_from}
use Rattle.pp_kind.proofs.Rests.{ops_left}
use Rattle.pp_kind.proofs.Replays.{IsReplaying, goes_on}
use Rattle.pp_kind.proofs.serial_run.replay.Goals as goal

pub loop-entry-preserved : goal.loop-entry-preserved
loop-entry-preserved g c =
    let o = g.S.Spec.object in
    let l = c.args.entries.now in
    let i = c.loop-entry.entry-index in
    let p = c.entry-item.result in
    let applied = rw c.in-Done.is at c.in_ok-apply.ensures.applied in
    let t = state_from o c.args.state.now (ops l) in
    let left : ops (drop i l) ≡ p.op ∷ ops (drop (i + 1) l) =
    ops_left l i p c.loop-entry-test.true c.entry-item.is in
    record {
      replaying = goes_on o g.met.S.Spec.lawful t c.loop-entry.state c.apply.new.state p.op
          (ops (drop (i + 1) l))
          (subst (λ rest. IsReplaying o t c.loop-entry.state rest) left
          c.loop-entry.invariant.replaying)
          applied.2;
      cost = omega (arith, c.in_ok-apply.ensures.cost, c.loop-entry.invariant.cost);
    }
