use Rattle.std.proofs.Common.{ℤ, w64, rules, sym, ◌∙◌, ap, FitsSigned}
use Rattle.std.proofs.lemmas.Int.{to_z-of_z}
use Rattle.pp_kind_stack.specs.declared.gap.StackGap.TheVariants as gap
use Rattle.pp_kind_stack.proofs.Gaps.{crosses_push, crosses_pop}
use Rattle.pp_kind_stack.proofs.gap.StackGapped.cross.Goals as goal

pub returns-in-Some : goal.returns-in-Some
returns-in-Some c =
    let v = c.in-Push.value in
    let d = c.in-Push.above in
    let fits : FitsSigned w64 v = search rules in
    crosses_push _ d c.in-Some.above c.args.op.now c.args.gap.now
    (ap (λ (x : ℤ). gap.Push x d) (to_z-of_z w64 v fits) ∙ sym c.in-Push.is) c.in-Some.ensures

pub returns-in-Some-above_behind : goal.returns-in-Some-above_behind
returns-in-Some-above_behind c =
    let v = c.in-Pop.value in
    let d = c.in-Pop.above in
    let fits : FitsSigned w64 v = search rules in
    crosses_pop _ d c.in-Some-above_behind.above c.args.op.now c.args.gap.now
    (ap (λ (x : ℤ). gap.Pop x d) (to_z-of_z w64 v fits) ∙ sym c.in-Pop.is)
    c.in-Some-above_behind.ensures
