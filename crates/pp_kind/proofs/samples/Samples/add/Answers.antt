use Rattle.std.proofs.Common.{sym, subst, arith}
use Rattle.std.proofs.lemmas.Grind.{common_steps}
use Rattle.pp_kind.specs.Parts.{Covers}
use Rattle.pp_kind.proofs.samples.Samples.add.Goals as goal

pub returns-clause-keeps : goal.returns-clause-keeps
returns-clause-keeps g c = λ b covered.
    let seen = subst (λ v. Covers g.S.Spec.object v b) (sym c.self.view_is) covered in
    c.keep.ensures.keeps b (seen.0, λ t. seen.1 (grind (arith, common_steps)))
