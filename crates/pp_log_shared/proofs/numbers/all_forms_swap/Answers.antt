use Rattle.std.proofs.Common.{subst, sym}
use Rattle.pp_log_shared.specs.Numbers.{AllFormsSwap}
use Rattle.pp_log_shared.proofs.numbers.all_forms_swap.Goals as goal

pub loop-holder-preserved : goal.loop-holder-preserved
loop-holder-preserved g c = λ rest.
    c.loop-holder.invariant
    (subst (AllFormsSwap g.S.Spec.object g.S.Parted.label_of c.args.owner.now c.args.op.now
    c.args.own.now) (sym c.in-Some.ensures.steps)
    (c.form_swaps.ensures c.if-not-form_swaps.false, rest))
