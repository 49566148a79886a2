use Rattle.std.proofs.Common.{◌≡◌, ◌<◌, ◌≤◌, ◌++◌, ◌∷◌, [], List, length, arith, ap, ◌∙◌}
use Rattle.std.proofs.lemmas.List.{length_push}
use Rattle.pp_model.specs.Object.{ops}
use Rattle.pp_model.proofs.Lengths.{length-ops}
use Rattle.pp_attempts.proofs.Fronts.{op_at}
use Rattle.pp_opacity.proofs.Trials.{all_tried, here_differs, here_fits, here_more, here_ranged, here_reached}
use Rattle.pp_opacity.proofs.trial.apply_list.Goals as goal

pub apply-requires-clause-fits : goal.apply-requires-clause-fits
apply-requires-clause-fits g c =
    let l = c.args.items.now in
    let i = c.loop-item.item-index in
    let p = c.item-item.result in
    let r = c.requires in
    let there : i < length (ops l) = omega (arith, length-ops l, c.loop-item-test.true) in
    here_fits g.S.Spec.object g.met.S.Spec.lawful r.0 c.loop-item.state r.1 (ops l) i p.op c.loop-item.undos.items there
    (op_at l i p c.loop-item-test.true c.item-item.is) r.2 (c.loop-item.invariant.trail r.0 r.1 r.2 r.3)

pub apply-requires-clause-ranged : goal.apply-requires-clause-ranged
apply-requires-clause-ranged g c =
    let l = c.args.items.now in
    let i = c.loop-item.item-index in
    let p = c.item-item.result in
    let r = c.requires in
    let there : i < length (ops l) = omega (arith, length-ops l, c.loop-item-test.true) in
    here_ranged g.S.Spec.object g.met.S.Spec.lawful r.0 c.loop-item.state r.1 (ops l) i p.op c.loop-item.undos.items there
    (op_at l i p c.loop-item-test.true c.item-item.is) r.2 (c.loop-item.invariant.trail r.0 r.1 r.2 r.3)

pub apply-requires-clause-reached : goal.apply-requires-clause-reached
apply-requires-clause-reached g c =
    let l = c.args.items.now in
    let i = c.loop-item.item-index in
    let p = c.item-item.result in
    let r = c.requires in
    let there : i < length (ops l) = omega (arith, length-ops l, c.loop-item-test.true) in
    here_reached g.S.Spec.object g.met.S.Spec.lawful r.0 c.loop-item.state r.1 (ops l) i p.op c.loop-item.undos.items there
    (op_at l i p c.loop-item-test.true c.item-item.is) r.2 (c.loop-item.invariant.trail r.0 r.1 r.2 r.3)

pub returns-in-Differs-clause-tried : goal.returns-in-Differs-clause-tried
returns-in-Differs-clause-tried g c = λ s x may first.
    let l = c.args.items.now in
    let i = c.loop-item.item-index in
    let p = c.item-item.result in
    let there : i < length (ops l) = omega (arith, length-ops l, c.loop-item-test.true) in
    let differs = rw c.in-Differs.is at c.in_ok-undo.ensures.applied in
    here_differs g.S.Spec.object g.met.S.Spec.lawful s c.loop-item.state x (ops l) i p.op c.loop-item.undos.items there
    (op_at l i p c.loop-item-test.true c.item-item.is) may (c.loop-item.invariant.trail s x may first) c.apply.new.state differs.1 differs.0

pub loop-item-preserved : goal.loop-item-preserved
loop-item-preserved g c =
    let l = c.args.items.now in
    let i = c.loop-item.item-index in
    let p = c.item-item.result in
    let there : i < length (ops l) = omega (arith, length-ops l, c.loop-item-test.true) in
    let effect = rw c.in-Done.is at c.in_ok-undo.ensures.applied in
    let us = c.loop-item.undos.items in
    let vs = c.push.new.self.items in
    let pushed : vs ≡ us ++ c.in-Done.undo ∷ [] = c.in_ok-push-in-Done.ensures.items in
    let longer = ap (λ (w : List _). length w) pushed ∙ length_push us c.in-Done.undo in
    let long = c.loop-item.invariant.long in
    let cost = c.loop-item.invariant.cost in
    let more = c.in_ok-undo.ensures.cost in
    record {
      trail = λ s x may first.
          here_more g.S.Spec.object g.met.S.Spec.lawful s c.loop-item.state x (ops l) i p.op us there
          (op_at l i p c.loop-item-test.true c.item-item.is) may (c.loop-item.invariant.trail s x may first) c.apply.new.state vs c.in-Done.undo effect.0 effect.1 effect.2 pushed;
      within = omega (arith, c.loop-item-test.true);
      long = omega (arith, long, longer);
      cost = omega (arith, cost, more);
    }

pub returns-clause-tried : goal.returns-clause-tried
returns-clause-tried g c = λ s x may first.
    let l = c.args.items.now in
    let i = c.loop-item.item-index in
    let size = length-ops l in
    let within = c.loop-item.invariant.within in
    let all : length (ops l) ≤ i = omega (arith, size, c.loop-item-test.false) in
    let some : i ≤ length (ops l) = omega (arith, size, within) in
    all_tried g.S.Spec.object s c.loop-item.state x (ops l) i c.loop-item.undos.items all some (c.loop-item.invariant.trail s x may first)
