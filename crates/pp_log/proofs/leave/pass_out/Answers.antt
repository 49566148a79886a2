use Rattle.std.proofs.Common.{sym, ◌∙◌, ap, subst}
use Rattle.std.specs.List.{remove}
use Rattle.pp_log.specs.Runs.{IsRun}
use Rattle.pp_log.proofs.Grown.{ids-remove}
use Rattle.pp_log.proofs.Passed.{all_out, applied_out, run_out, way_last}
use Rattle.pp_log.proofs.leave.pass_out.Goals as goal

pub undo-requires : goal.undo-requires
undo-requires g c =
    let o = g.S.Spec.object in
    let laws = g.met.S.Spec.lawful in
    let h = c.requires in
    let b = h.start in
    let s = c.args.state.now in
    let us = c.args.place.now.undos.items in
    let i = c.args.from in
    let a = c.args.op.now in
    let vs = c.carry_out-undo.new.undos.items in
    let carried = way_last o laws b s h.items h.behind us i a h.whole.run h.whole.all h.passes g.S.Placed.place_of vs c.carry_out-undo.result h.one_place c.carry_out-undo.ensures in
    applied_out o laws b s h.items h.behind us i a h.whole.run h.whole.all h.passes vs c.carry_out-undo.result carried

pub returns-clause-takes : goal.returns-clause-takes
returns-clause-takes g c = λ b x z passes one_place whole.
    let o = g.S.Spec.object in
    let laws = g.met.S.Spec.lawful in
    let s = c.args.state.now in
    let us = c.args.place.now.undos.items in
    let i = c.args.from in
    let a = c.args.op.now in
    let vs = c.carry_out-undo.new.undos.items in
    let carried = way_last o laws b s x z us i a whole.run whole.all passes g.S.Placed.place_of vs c.carry_out-undo.result one_place c.carry_out-undo.ensures in
    let run = run_out o laws b s x z us i a whole.run whole.all passes vs c.carry_out-undo.result carried in
    record {
      run = subst (IsRun o b (remove x i) vs) (sym c.in_ok-undo.ensures.ok) run;
      all = all_out o laws b s x z us i a whole.run whole.all passes vs c.carry_out-undo.result carried;
      ids = c.remove.ensures.items ∙ ap (λ l. remove l i) whole.ids ∙ ids-remove x i;
    }
