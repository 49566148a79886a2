use Rattle.std.proofs.Common.{◌∙◌, length, ap, arith, w64, to_z, of_z, FitsSigned, rules}
use Rattle.std.proofs.lemmas.Int.{to_z-of_z}
use Rattle.pp_kind_priority.proofs.Gaps.{closed_without, closed_with}
use Rattle.pp_kind_priority.proofs.Reached.{reached_length, grown}
use Rattle.pp_kind_priority.proofs.gap.PrioGapped.close.Goals as goal

pub add-requires : goal.add-requires
add-requires g c =
    let other = c.requires.1 in
    let few = reached_length other.0 other.2 in
    let apart = rw c.in-Take.is at other.3 in
    let longer = ap length apart ∙ grown c.in-Take.value c.args.state.now in
    record { room = omega arith }

pub returns-in-Insert-clause-ok : goal.returns-in-Insert-clause-ok
returns-in-Insert-clause-ok g c =
    let fits : FitsSigned w64 c.in-Insert.value = search rules in
    closed_without c.in-Insert.value (to_z w64 (of_z w64 c.in-Insert.value)) c.in-Insert.copies
    c.args.gap.now c.args.state.now c.remove.new.self c.remove.result
    (to_z-of_z w64 c.in-Insert.value fits) c.in-Insert.is c.remove.ensures.ok

pub returns-in-Take-clause-ok : goal.returns-in-Take-clause-ok
returns-in-Take-clause-ok g c =
    let fits : FitsSigned w64 c.in-Take.value = search rules in
    closed_with c.in-Take.value (to_z w64 (of_z w64 c.in-Take.value)) c.args.gap.now
    c.args.state.now c.add.new.self c.add.result (to_z-of_z w64 c.in-Take.value fits)
    c.in-Take.is c.add.ensures.ok
