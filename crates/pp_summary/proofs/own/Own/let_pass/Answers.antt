use Rattle.std.proofs.Common.{◌∙◌, subst}
use Rattle.pp_summary.specs.Passing.{LetPass, Stops}
use Rattle.pp_summary.proofs.own.Own.let_pass.Goals as goal

pub returns-clause-yes : goal.returns-clause-yes
returns-clause-yes g c = λ yes. subst (λ l. LetPass g.S.Spec.object g.S.Placed.place_of l c.args.op.now) (c.as_slice.ensures ∙ c.self.view_is) (c.all_swap.ensures.yes yes)

pub returns-clause-no : goal.returns-clause-no
returns-clause-no g c = λ no. subst (λ l. Stops g.S.Spec.object g.S.Placed.place_of l c.args.op.now) (c.as_slice.ensures ∙ c.self.view_is) (c.all_swap.ensures.no no)
