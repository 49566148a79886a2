use Rattle.std.proofs.Common.{subst}
use Rattle.pp_kind.specs.Parts.{IsStoodForBy}
use Rattle.pp_kind.proofs.samples.Samples.has_one_for.Goals as goal

pub returns-then-first_stands_for : goal.returns-then-first_stands_for
returns-then-first_stands_for g c =
    λ yes. subst (λ v. IsStoodForBy g.S.Spec.object v.ops c.args.op.now) c.self.view_is
    (c.first_stands_for.ensures yes c.self.inside.others.items)
