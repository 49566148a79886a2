use Rattle.std.proofs.Common.{◌↔◌, IsSome, IfSome, sym, subst}
use Rattle.pp_objects.specs.Calls.{IsCallOf, IsOpOf}
use Rattle.pp_objects.proofs.Made.{called_exactly, made_is}
use Rattle.pp_objects.proofs.calls.make_op.Goals as goal

pub returns-clause-some : goal.returns-clause-some
returns-clause-some c =
    let kind = c.args.kind in
    let call = c.args.call.now in
    let answer = c.args.answer.now in
    subst (λ r. IsSome r ↔ IsCallOf kind call answer) (sym c.op_made.ensures) (called_exactly kind call answer)

pub returns-clause-made : goal.returns-clause-made
returns-clause-made c =
    let kind = c.args.kind in
    let call = c.args.call.now in
    let answer = c.args.answer.now in
    subst (λ r. IfSome r (IsOpOf kind call answer)) (sym c.op_made.ensures) (made_is kind call answer)
