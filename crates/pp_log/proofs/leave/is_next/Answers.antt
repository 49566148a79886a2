use Rattle.std.proofs.Common.{sym, subst}
use Rattle.pp_log.specs.Leaves.{HasIdAt}
use Rattle.pp_log.proofs.leave.is_next.Goals as goal

pub returns-clause-yes : goal.returns-clause-yes
returns-clause-yes g c = λ t. subst (λ d. HasIdAt c.args.own.now c.args.next d.id) c.item.ensures (c.has_id_at.ensures.yes t)

pub returns-clause-no : goal.returns-clause-no
returns-clause-no g c = λ f h. c.has_id_at.ensures.no f (subst (λ d. HasIdAt c.args.own.now c.args.next d.id) (sym c.item.ensures) h)
