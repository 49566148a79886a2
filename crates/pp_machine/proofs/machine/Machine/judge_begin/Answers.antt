use Rattle.pp_machine.proofs.Judging.{begin_1, begin_2, begin_0}
use Rattle.pp_machine.proofs.Lent.{lent_view}
use Rattle.pp_machine.proofs.Opened.{begun_in, not_begun, busy_in, not_busy}
use Rattle.pp_machine.proofs.machine.Machine.judge_begin.Goals as goal

pub returns-then-is_begun : goal.returns-then-is_begun
returns-then-is_begun g c = λ body. begin_1 g.S.Spec.object _ _ (lent_view c.deref-parts.ensures c.self.view_is) c.args.tx.now c.args.thread.now body (begun_in c.deref-parts.result.now.transactions c.args.tx.now c.if-is_begun.ensures) c.bare.result c.bare.ensures

pub returns-then-is_busy : goal.returns-then-is_busy
returns-then-is_busy g c = λ body.
    let x = busy_in c.deref-parts.result.now.transactions c.args.thread.now c.if-is_busy.ensures in
    begin_2 g.S.Spec.object _ _ (lent_view c.deref-parts.ensures c.self.view_is) c.args.tx.now c.args.thread.now body (not_begun c.deref-parts.result.now.transactions c.args.tx.now c.if-is_begun.ensures) x.0 x.1 x.2 c.bare-then-is_busy.result c.bare-then-is_busy.ensures

pub returns : goal.returns
returns g c = λ body.
    (begin_0 g.S.Spec.object _ _ (lent_view c.deref-parts.ensures c.self.view_is) c.args.tx.now c.args.thread.now body (not_begun c.deref-parts.result.now.transactions c.args.tx.now c.if-is_begun.ensures) (not_busy c.deref-parts.result.now.transactions c.args.thread.now c.if-is_busy.ensures), tt)
