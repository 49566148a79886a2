use Rattle.std.proofs.Common.{◌<◌, ◌+◌, drop, length, arith, subst, sym, take}
use Rattle.std.proofs.lemmas.List.{take-append-drop}
use Rattle.pp_model.specs.Object.{ops}
use Rattle.pp_model.proofs.Lengths.{length-ops}
use Rattle.pp_attempts.proofs.Fronts.{op_at}
use Rattle.pp_attempts.specs.Trying.{MayFollow}
use Rattle.pp_attempts.proofs.Fronts.{cut_there}
use Rattle.pp_attempts.proofs.Trails.{next_ranged, reached_there, would_be_legal}
use Rattle.pp_attempts.proofs.Viewing.{trail_of, state_next, state_whole}
use Rattle.pp_attempts.proofs.view.apply_committed.Goals as goal

pub apply-requires-clause-fits : goal.apply-requires-clause-fits
apply-requires-clause-fits g c =
    let l = c.args.entries.now in
    let i = c.loop-entry.entry-index in
    let p = c.entry-item.result in
    let there : i < length (ops l) = omega (arith, length-ops l, c.loop-entry-test.true) in
    (would_be_legal g.S.Spec.object c.args.state.now c.loop-entry.state (ops l) i p.op c.requires.allowed there
    (op_at l i p c.loop-entry-test.true c.entry-item.is) c.loop-entry.invariant.leads).0

pub apply-requires-clause-ranged : goal.apply-requires-clause-ranged
apply-requires-clause-ranged g c =
    let l = c.args.entries.now in
    let i = c.loop-entry.entry-index in
    let p = c.entry-item.result in
    let there : i < length (ops l) = omega (arith, length-ops l, c.loop-entry-test.true) in
    let a = p.op in
    let trail = trail_of g.S.Spec.object c.args.state.now c.loop-entry.state (ops l) i c.requires.allowed c.loop-entry.invariant.leads in
    next_ranged g.S.Spec.object g.met.S.Spec.lawful c.args.state.now c.loop-entry.state (take i (ops l)) (drop (i + 1) (ops l)) a _
    (subst (λ w. MayFollow g.S.Spec.object c.args.state.now w) (cut_there (ops l) i a there (op_at l i p c.loop-entry-test.true c.entry-item.is)) c.requires.may) trail

pub apply-requires-clause-reached : goal.apply-requires-clause-reached
apply-requires-clause-reached g c =
    let l = c.args.entries.now in
    let i = c.loop-entry.entry-index in
    reached_there g.S.Spec.object g.met.S.Spec.lawful c.args.state.now c.loop-entry.state (take i (ops l)) (drop i (ops l)) _
    (subst (λ w. MayFollow g.S.Spec.object c.args.state.now w) (sym (take-append-drop i (ops l))) c.requires.may)
    (trail_of g.S.Spec.object c.args.state.now c.loop-entry.state (ops l) i c.requires.allowed c.loop-entry.invariant.leads)

pub unreachable-requires : goal.unreachable-requires
unreachable-requires g c =
    let l = c.args.entries.now in
    let i = c.loop-entry.entry-index in
    let p = c.entry-item.result in
    let there : i < length (ops l) = omega (arith, length-ops l, c.loop-entry-test.true) in
    let applied = rw c.in-Differs.is at c.in_ok-apply.ensures.applied in
    applied.0 (would_be_legal g.S.Spec.object c.args.state.now c.loop-entry.state (ops l) i p.op c.requires.allowed there
    (op_at l i p c.loop-entry-test.true c.entry-item.is) c.loop-entry.invariant.leads).1

pub loop-entry-preserved : goal.loop-entry-preserved
loop-entry-preserved g c =
    let l = c.args.entries.now in
    let i = c.loop-entry.entry-index in
    let p = c.entry-item.result in
    let there : i < length (ops l) = omega (arith, length-ops l, c.loop-entry-test.true) in
    let applied = rw c.in-Done.is at c.in_ok-apply.ensures.applied in
    let cost = c.in_ok-apply.ensures.cost in
    let so = c.loop-entry.invariant.cost in
    record {
      leads = state_next g.S.Spec.object c.args.state.now c.loop-entry.state _ (ops l) i p.op there
          (op_at l i p c.loop-entry-test.true c.entry-item.is) c.loop-entry.invariant.leads applied.2;
      cost = omega (arith, cost, so);
    }

pub returns-clause-state : goal.returns-clause-state
returns-clause-state g c =
    let l = c.args.entries.now in
    state_whole g.S.Spec.object c.args.state.now c.loop-entry.state (ops l) c.loop-entry.entry-index
    (omega (arith, length-ops l, c.loop-entry-test.false)) c.loop-entry.invariant.leads
