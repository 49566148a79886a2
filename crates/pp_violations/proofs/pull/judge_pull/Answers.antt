use Rattle.std.proofs.Common.{◌∙◌, ap}
use Rattle.pp_violations.specs.Searches.{own_swap}
use Rattle.pp_violations.proofs.Judging.{pull_differs, pull_passes, pull_stopped}
use Rattle.pp_violations.proofs.pull.judge_pull.Goals as goal

pub returns-in-Differs-clause-judges : goal.returns-in-Differs-clause-judges
returns-in-Differs-clause-judges g c = λ before s.
    let a = rw c.in-Differs.is at c.in_ok-apply.ensures.applied in
    pull_differs g.S.Spec.object g.met.S.Spec.lawful g.S.Placed.place_of c.args.own.now c.args.entry.now c.args.state.now c.apply.new.state c.requires.asked before s a.0 a.1 c.gives-answer.result c.gives-answer.ensures

pub returns-then-let_pass-clause-judges : goal.returns-then-let_pass-clause-judges
returns-then-let_pass-clause-judges g c = λ before s.
    let a = rw c.in-Done.is at c.in_ok-apply.ensures.applied in
    pull_passes g.S.Spec.object g.met.S.Spec.lawful g.S.Placed.place_of c.args.own.now c.args.entry.now c.args.state.now c.apply.new.state c.requires.asked before s a.0 a.2 (c.let_pass.ensures.yes c.if-let_pass.true)

pub returns-clause-judges : goal.returns-clause-judges
returns-clause-judges g c = λ before s.
    let a = rw c.in-Done.is at c.in_ok-apply.ensures.applied in
    pull_stopped g.S.Spec.object g.met.S.Spec.lawful g.S.Placed.place_of c.args.own.now c.args.entry.now c.args.state.now c.apply.new.state c.requires.asked before s a.0 c.requires.own (c.let_pass.ensures.no c.if-let_pass.false) c.in_ok-detail.detail
    (c.in_ok-detail.ensures ∙ ap (λ l. own_swap g.S.Spec.object l c.args.entry.now.op) c.as_slice.ensures)
