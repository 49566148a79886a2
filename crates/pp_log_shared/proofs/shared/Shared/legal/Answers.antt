use Rattle.std.proofs.Common.{IsTrue, ◌∙◌, ap, subst, sym}
use Rattle.pp_model.specs.Config.{shared_item}
use Rattle.pp_kind.specs.Object.{IsLog}
use Rattle.pp_log.specs.Logs.{entry_ops}
use Rattle.pp_log.proofs.Behind.{legal_behind}
use Rattle.pp_log_shared.proofs.shared.Shared.legal.Goals as goal

pub legal-requires : goal.legal-requires
legal-requires g c =
    let shape = c.state.ensures.shape ∙ ap (λ z. z.0) c.self.view_is in
    subst (λ sh. IsTrue (g.S.Spec.object.fits sh c.args.op.now)) (sym shape) c.requires

pub returns : goal.returns
returns g c =
    let o = g.S.Spec.object in
    let s = c.state.result.now in
    let shape = c.state.ensures.shape ∙ ap (λ z. z.0) c.self.view_is in
    let is = subst (λ z. IsLog o s (entry_ops shared_item z.1)) c.self.view_is c.state.ensures.log in
    legal_behind o shared_item s c.args.self.now shape is c.args.op.now c.legal.result c.requires c.legal.ensures
