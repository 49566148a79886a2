use Rattle.std.proofs.Common.{inl, refl, subst, sym}
use Rattle.pp_model.specs.Lists.{In}
use Rattle.pp_model.proofs.Lists.{in_left, in_right}
use Rattle.pp_styles.proofs.published.add_name.Goals as goal

pub returns-then-is_among-clause-kept : goal.returns-then-is_among-clause-kept
returns-then-is_among-clause-kept c = λ v there.
    subst (λ w. In v w) (sym c.in_ok-push.ensures.items) (in_left v c.args.names.now.items _ there)

pub returns-then-is_among-clause-added : goal.returns-then-is_among-clause-added
returns-then-is_among-clause-added c = λ is.
    subst (λ w. In c.args.owner.now w) (sym c.in_ok-push.ensures.items) (in_right c.args.owner.now c.args.names.now.items _ (inl refl))
