use Rattle.std.proofs.Common.{sym, ◌∙◌, ap, subst, arith}
use Rattle.std.specs.List.{remove}
use Rattle.pp_log.specs.Runs.{IsRun}
use Rattle.pp_log.proofs.Grown.{ids-remove}
use Rattle.pp_log.proofs.Carried.{part_first, part_last}
use Rattle.pp_log.proofs.Passed.{all_out, applied_out, run_out, way_last}
use Rattle.pp_log.proofs.take_out.take_last.Goals as goal

pub undo-requires : goal.undo-requires
undo-requires g c =
    let o = g.S.Spec.object in
    let laws = g.met.S.Spec.lawful in
    let h = c.requires.there in
    let b = h.start in
    let s = c.args.state.now in
    let us = c.args.place.now.undos.items in
    let i = c.args.from in
    let a = c.args.op.now in
    let vs = c.pop.new.self.items in
    let out = part_last o g.S.Placed.place_of a i us i us vs c.in-Some.undo (let last = c.requires.last in omega arith) (part_first o g.S.Placed.place_of a i us (let last = c.requires.last in omega arith)) c.in-Some.ensures.items in
    let carried = way_last o laws b s h.items h.behind us i a h.whole.run h.whole.all h.passes g.S.Placed.place_of vs c.in-Some.undo h.one_place out in
    applied_out o laws b s h.items h.behind us i a h.whole.run h.whole.all h.passes vs c.in-Some.undo carried

pub returns-clause-takes : goal.returns-clause-takes
returns-clause-takes g c = λ b x z passes one_place whole.
    let o = g.S.Spec.object in
    let laws = g.met.S.Spec.lawful in
    let s = c.args.state.now in
    let us = c.args.place.now.undos.items in
    let i = c.args.from in
    let a = c.args.op.now in
    let vs = c.pop.new.self.items in
    let out = part_last o g.S.Placed.place_of a i us i us vs c.in-Some.undo (let last = c.requires.last in omega arith) (part_first o g.S.Placed.place_of a i us (let last = c.requires.last in omega arith)) c.in-Some.ensures.items in
    let carried = way_last o laws b s x z us i a whole.run whole.all passes g.S.Placed.place_of vs c.in-Some.undo one_place out in
    let run = run_out o laws b s x z us i a whole.run whole.all passes vs c.in-Some.undo carried in
    record {
      run = subst (IsRun o b (remove x i) vs) (sym c.in_ok-undo.ensures.ok) run;
      all = all_out o laws b s x z us i a whole.run whole.all passes vs c.in-Some.undo carried;
      ids = c.remove.ensures.items ∙ ap (λ l. remove l i) whole.ids ∙ ids-remove x i;
    }
