use Rattle.std.proofs.Common.{◌∙◌, ap, subst}
use Rattle.pp_model.specs.Config.{start_with}
use Rattle.pp_summary.specs.Held.{Starts}
use Rattle.pp_summary.specs.Shown.{as_held}
use Rattle.pp_summary.specs.Starting.{StartAnswers}
use Rattle.pp_summary.proofs.Taking.{starts_of}
use Rattle.pp_summary.proofs.quick.Quick.start.Goals as goal

pub returns-clause-starts : goal.returns-clause-starts
returns-clause-starts g c =
    let now = c.start.new.parts in
    let first_tx = start_with c.args.tx c.args.items.now in
    subst (λ q. Starts g.S.Spec.object g.S.Placed.place_of q first_tx c.in_ok-good.good (as_held g.S.Placed.place_of now)) c.self.view_is
    (starts_of g.S.Spec.object g.S.Placed.place_of c.self.inside.parts.value now first_tx c.in_ok-good.good (ap (λ q. q.count) (c.self.view_is ∙ c.requires.new))
    (subst (λ z. StartAnswers g.S.Spec.object g.S.Placed.place_of z first_tx c.in_ok-good.good now) c.deref_mut.ensures.value c.in_ok-good.ensures.answers))
