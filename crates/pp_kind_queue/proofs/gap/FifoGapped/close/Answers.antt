use Rattle.std.proofs.Common.{ℕ, ◌-◌, ◌∙◌, ap}
use Rattle.pp_kind_queue.proofs.Gaps.{closes}
use Rattle.pp_kind_queue.proofs.gap.FifoGapped.close.Goals as goal

pub returns-in-Enq-clause-ok : goal.returns-in-Enq-clause-ok
returns-in-Enq-clause-ok g c = λ t is differ. c.remove_at.ensures
    ∙ closes c.in-Enq.value c.in-Enq.behind c.in-Enq.least _ c.args.gap.now c.args.state.now t
    c.in-Enq.is (ap (λ (n : ℕ). n - 1 - c.in-Enq.behind) c.len.ensures) differ
