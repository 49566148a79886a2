use Rattle.std.proofs.Common.{ℕ, ◌-◌, ◌∙◌, ap}
use Rattle.pp_kind_stack.proofs.Gaps.{push_closes}
use Rattle.pp_kind_stack.proofs.gap.StackGapped.close.Goals as goal

pub returns-in-Push-clause-ok : goal.returns-in-Push-clause-ok
returns-in-Push-clause-ok g c = λ t is differ. c.remove_at.ensures
    ∙ push_closes c.in-Push.value c.in-Push.above _ c.args.gap.now c.args.state.now t c.in-Push.is
    (ap (λ (n : ℕ). n - 1 - c.in-Push.above) c.len.ensures) differ
