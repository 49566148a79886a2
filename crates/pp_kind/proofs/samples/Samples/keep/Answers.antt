use Rattle.std.proofs.Common.{◌≡◌, [], ◌∷◌, ◌++◌, inl, refl, sym, subst, arith}
use Rattle.pp_kind.specs.Parts.{Covers, KeepsClique, first_and}
use Rattle.pp_kind.proofs.Standing.{first_push, still_stood_for, stands_last}
use Rattle.pp_kind.proofs.samples.Samples.keep.Goals as goal

pub returns-then-is_none-clause-covers : goal.returns-then-is_none-clause-covers
returns-then-is_none-clause-covers g c = (
  λ whole. (c.args.op.now, inl refl, ((λ d h. h), (λ d h. h))),
  subst (λ v. KeepsClique g.S.Spec.object v c.args.op.now) (sym c.self.view_is) c.requires,
)

pub returns-else-is_err-clause-keeps : goal.returns-else-is_err-clause-keeps
returns-else-is_err-clause-keeps g c =
    let items = c.push.ensures.items in
    let failed = c.if-is_err.ensures.value in
    let first = c.self.inside.first in
    let grown : c.push.new.self.items ≡ c.self.inside.others.items ++ c.args.op.now ∷ [] =
    grind arith in
    λ b covered.
    let seen = subst (λ v. Covers g.S.Spec.object v b) (sym c.self.view_is) covered in (
      λ whole. still_stood_for g.S.Spec.object
          (first_and first c.self.inside.others.items) (first_and first c.push.new.self.items)
          c.args.op.now b
          (first_push first c.self.inside.others.items c.push.new.self.items c.args.op.now grown)
          (seen.0 whole),
      seen.1,
    )

pub returns-else-is_err-clause-covers : goal.returns-else-is_err-clause-covers
returns-else-is_err-clause-covers g c =
    let items = c.push.ensures.items in
    let failed = c.if-is_err.ensures.value in
    let first = c.self.inside.first in
    let grown : c.push.new.self.items ≡ c.self.inside.others.items ++ c.args.op.now ∷ [] =
    grind arith in (
      λ whole. stands_last g.S.Spec.object
          (first_and first c.self.inside.others.items) (first_and first c.push.new.self.items)
          c.args.op.now
          (first_push first c.self.inside.others.items c.push.new.self.items c.args.op.now grown),
      subst (λ v. KeepsClique g.S.Spec.object v c.args.op.now) (sym c.self.view_is) c.requires,
    )
