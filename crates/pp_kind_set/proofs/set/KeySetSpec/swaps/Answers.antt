use Rattle.std.proofs.Common.{◌∙◌, sym}
use Rattle.pp_kind_set.specs.laws.Lawful.{may_swap_exact, may_not_swap}
use Rattle.pp_kind_set.proofs.set.KeySetSpec.swaps.Goals as goal

pub returns-clause-swaps : goal.returns-clause-swaps
returns-clause-swaps c = λ t. (may_swap_exact c.args.a.now c.args.b.now).0
    (sym c.may_swap.ensures ∙ t)

pub returns-clause-only : goal.returns-clause-only
returns-clause-only c = λ h. c.may_swap.ensures ∙ (may_swap_exact c.args.a.now c.args.b.now).1 h

pub returns-clause-never : goal.returns-clause-never
returns-clause-never c = λ f. may_not_swap c.args.a.now c.args.b.now (sym c.may_swap.ensures ∙ f)
