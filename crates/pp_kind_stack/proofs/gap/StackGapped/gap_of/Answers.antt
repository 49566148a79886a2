use Rattle.std.proofs.Common.{ℤ, Some, w64, rules, sym, ◌∙◌, ap, FitsSigned}
use Rattle.std.proofs.lemmas.Int.{to_z-of_z}
use Rattle.pp_kind_stack.specs.declared.op.StackOp.TheVariants.{Pop}
use Rattle.pp_kind_stack.proofs.Gaps.{pop_leaves, none_leaves}
use Rattle.pp_kind_stack.proofs.gap.StackGapped.gap_of.Goals as goal

pub returns-in-Pop-Some : goal.returns-in-Pop-Some
returns-in-Pop-Some c =
    let fits : FitsSigned w64 c.in-Pop-Some.value = search rules in
    let found = rw c.in-Pop-Some.is at c.in-Pop-Some.value-is in
    pop_leaves _ c.args.op.now c.args._undo.now
    (ap (λ (x : ℤ). Pop (Some x)) (to_z-of_z w64 c.in-Pop-Some.value fits)
    ∙ (ap Pop (sym found) ∙ sym c.in-Pop-Some.is))

pub returns-in-Pop-None : goal.returns-in-Pop-None
returns-in-Pop-None c =
    let none = rw c.in-Pop-None.is at c.in-Pop-None.value-is in
    none_leaves c.args.op.now c.args._undo.now (ap Pop (sym none) ∙ sym c.in-Pop-None.is)
