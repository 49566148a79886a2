use Rattle.std.proofs.Common.{ℕ, ◌-◌, ◌∙◌, sym, ap, w64, arith}
use Rattle.std.proofs.lemmas.Int.{to_z-of_z}
use Rattle.pp_kind_stack.proofs.Gaps.{bears_found, same_item}
use Rattle.pp_kind_stack.proofs.gap.has_above.Goals as goal

pub returns-then-above-len : goal.returns-then-above-len
returns-then-above-len c = λ same.
    let v = c.args.value in
    let is = same_item _ _ v (to_z-of_z w64 v c.ranges.value) (sym c.eq.ensures ∙ same) in
    bears_found v c.args.above _ c.args.state.now (omega arith)
    (ap (λ (n : ℕ). n - 1 - c.args.above) c.len-len.ensures) (sym c.get.ensures ∙ is)
