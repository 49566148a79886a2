use Rattle.std.proofs.Common.{◌∙◌, sym, subst}
use Rattle.pp_body.specs.Walks.{TellsBegins}
use Rattle.pp_violations.proofs.Judging.{app_fine, app_illegal, app_unbegun, app_used}
use Rattle.pp_conflicts.proofs.op.judge_app.Goals as goal

pub returns-then-contains : goal.returns-then-contains
returns-then-contains g c = λ before s.
    app_used g.S.Spec.object g.met.S.Spec.lawful g.S.Placed.place_of c.args.ids.now c.args.id c.args.op.now c.args.it.now.walk c.args.it.now.own c.requires.taken c.args.state.now c.requires.fits before s
    (sym c.contains.ensures ∙ c.if-contains.true) c.bare.result c.bare.ensures

pub returns-then-not-can : goal.returns-then-not-can
returns-then-not-can g c = λ before s.
    app_unbegun g.S.Spec.object g.met.S.Spec.lawful g.S.Placed.place_of c.args.ids.now c.args.id c.args.op.now c.args.it.now.walk c.args.it.now.own c.requires.taken c.args.state.now c.requires.fits before s
    (sym c.contains.ensures ∙ c.if-contains.false) c.can.result (subst (λ z. TellsBegins c.args.it.now.walk z c.can.result) c.call.ensures c.can.ensures) c.if-not-can.true c.bare-then-not-can.result c.bare-then-not-can.ensures

pub returns-then-not-legal : goal.returns-then-not-legal
returns-then-not-legal g c = λ before s.
    app_illegal g.S.Spec.object g.met.S.Spec.lawful g.S.Placed.place_of c.args.ids.now c.args.id c.args.op.now c.args.it.now.walk c.args.it.now.own c.requires.taken c.args.state.now c.requires.fits before s
    (sym c.contains.ensures ∙ c.if-contains.false) c.can.result (subst (λ z. TellsBegins c.args.it.now.walk z c.can.result) c.call.ensures c.can.ensures) c.if-not-can.false
    c.legal.result c.legal.ensures c.if-not-legal.true c.gives-answer.result c.gives-answer.ensures

pub returns : goal.returns
returns g c = λ before s.
    app_fine g.S.Spec.object g.met.S.Spec.lawful g.S.Placed.place_of c.args.ids.now c.args.id c.args.op.now c.args.it.now.walk c.args.it.now.own c.requires.taken c.args.state.now c.requires.fits before s
    (sym c.contains.ensures ∙ c.if-contains.false) c.can.result (subst (λ z. TellsBegins c.args.it.now.walk z c.can.result) c.call.ensures c.can.ensures) c.if-not-can.false
    c.legal.result c.legal.ensures c.if-not-legal.false
