use Rattle.std.proofs.Common.{◌≡◌, ◌+◌, ◌++◌, ◌∷◌, [], List, length, take, drop, arith, subst, sym, ap, ◌∙◌}
use Rattle.std.proofs.lemmas.List.{append_assoc, length_push, map_push, take_all}
use Rattle.pp_attempts.specs.Trying.{AppliedOp, MayFollow, Stands, applied}
use Rattle.pp_attempts.proofs.Fronts.{take_there}
use Rattle.pp_attempts.proofs.Trails.{furthest_stopped, furthest_whole, next_fits, next_ranged, next_there, reached_there, stands_more}
use Rattle.pp_attempts.proofs.trial.apply_all.Goals as goal

pub apply-requires-clause-fits : goal.apply-requires-clause-fits
apply-requires-clause-fits g c =
    let o = g.S.Spec.object in
    let l = c.args.ops.now in
    let i = c.loop-op.op-index in
    let a = c.op-item.result in
    let x = applied c.loop-op.done.items in
    let s = c.requires in
    next_fits o g.met.S.Spec.lawful s.0 c.loop-op.state x (drop (i + 1) l) a _
    (subst (λ (w : List _). MayFollow o s.0 w) (next_there (applied c.args.done.now.items) x l i a c.loop-op.invariant.front c.loop-op-test.true c.op-item.is) s.1)
    (c.loop-op.invariant.stands s.0 s.1 s.2)

pub apply-requires-clause-ranged : goal.apply-requires-clause-ranged
apply-requires-clause-ranged g c =
    let o = g.S.Spec.object in
    let l = c.args.ops.now in
    let i = c.loop-op.op-index in
    let a = c.op-item.result in
    let x = applied c.loop-op.done.items in
    let s = c.requires in
    next_ranged o g.met.S.Spec.lawful s.0 c.loop-op.state x (drop (i + 1) l) a _
    (subst (λ (w : List _). MayFollow o s.0 w) (next_there (applied c.args.done.now.items) x l i a c.loop-op.invariant.front c.loop-op-test.true c.op-item.is) s.1)
    (c.loop-op.invariant.stands s.0 s.1 s.2)

pub apply-requires-clause-reached : goal.apply-requires-clause-reached
apply-requires-clause-reached g c =
    let o = g.S.Spec.object in
    let l = c.args.ops.now in
    let i = c.loop-op.op-index in
    let a = c.op-item.result in
    let x = applied c.loop-op.done.items in
    let s = c.requires in
    reached_there o g.met.S.Spec.lawful s.0 c.loop-op.state x (a ∷ drop (i + 1) l) _
    (subst (λ (w : List _). MayFollow o s.0 w) (next_there (applied c.args.done.now.items) x l i a c.loop-op.invariant.front c.loop-op-test.true c.op-item.is) s.1)
    (c.loop-op.invariant.stands s.0 s.1 s.2)

pub returns-in-Differs-clause-furthest : goal.returns-in-Differs-clause-furthest
returns-in-Differs-clause-furthest g c = λ s may first.
    let o = g.S.Spec.object in
    let l = c.args.ops.now in
    let i = c.loop-op.op-index in
    let a = c.op-item.result in
    let done = c.loop-op.done.items in
    let differs = rw c.in-Differs.is at c.in_ok-undo.ensures.applied in
    furthest_stopped o s c.apply.new.state (applied c.args.done.now.items ++ l) (drop (i + 1) l) a done
    (subst (λ t. Stands o s done t) (sym differs.1) (c.loop-op.invariant.stands s may first))
    (next_there (applied c.args.done.now.items) (applied done) l i a c.loop-op.invariant.front c.loop-op-test.true c.op-item.is)
    (λ legal. differs.0 (subst (λ t. o.gives t a ≡ o.recorded a) differs.1 legal.1))

pub loop-op-preserved : goal.loop-op-preserved
loop-op-preserved g c =
    let o = g.S.Spec.object in
    let l = c.args.ops.now in
    let i = c.loop-op.op-index in
    let a = c.op-item.result in
    let done = c.loop-op.done.items in
    let x = applied done in
    let old = applied c.args.done.now.items in
    let d : AppliedOp _ _ = record { op = a; undo = c.in-Done.undo } in
    let effect = rw c.in-Done.is at c.in_ok-undo.ensures.applied in
    let pushed : c.push.new.self.items ≡ done ++ d ∷ [] = c.in_ok-push-in-Done.ensures.items in
    let so_far = c.loop-op.invariant.front in
    let whole = next_there old x l i a so_far c.loop-op-test.true c.op-item.is in
    let long = c.loop-op.invariant.long in
    let cost = c.loop-op.invariant.cost in
    let more = c.in_ok-undo.ensures.cost in
    record {
      stands = λ s may first.
          let now = c.loop-op.invariant.stands s may first in
          let fits = next_fits o g.met.S.Spec.lawful s c.loop-op.state x (drop (i + 1) l) a _ (subst (λ (w : List _). MayFollow o s w) whole may) now in
          stands_more o s c.loop-op.state c.apply.new.state done c.push.new.self.items d now (fits, effect.0) effect.1 effect.2 pushed;
      front = ap (λ (w : List (AppliedOp _ _)). applied w) pushed ∙ map_push (λ (w : AppliedOp _ _). w.op) done d ∙ ap (λ (w : List _). w ++ a ∷ []) so_far
          ∙ append_assoc old (take i l) (a ∷ []) ∙ ap (λ (w : List _). old ++ w) (sym (take_there l i a c.loop-op-test.true c.op-item.is));
      within = omega (arith, c.loop-op-test.true);
      long = let longer = ap (λ (w : List (AppliedOp _ _)). length w) pushed ∙ length_push done d in omega (arith, long, longer);
      cost = omega (arith, cost, more);
    }

pub returns-clause-furthest : goal.returns-clause-furthest
returns-clause-furthest g c = λ s may first.
    let l = c.args.ops.now in
    let old = applied c.args.done.now.items in
    let done = c.loop-op.done.items in
    furthest_whole g.S.Spec.object s c.loop-op.state (old ++ l) done (c.loop-op.invariant.stands s may first)
    (sym (c.loop-op.invariant.front ∙ ap (λ (w : List _). old ++ w) (take_all c.loop-op.op-index l (omega (arith, c.loop-op-test.false)))))
