use Rattle.std.proofs.Common.{w64, rules, to_z, of_z, FitsSigned}
use Rattle.std.proofs.lemmas.Int.{to_z-of_z}
use Rattle.pp_kind_set.proofs.Gaps.{closes_in, closes_out}
use Rattle.pp_kind_set.proofs.gap.KeySetGapped.close.Goals as goal

pub returns-in_ok-insert-clause-ok : goal.returns-in_ok-insert-clause-ok
returns-in_ok-insert-clause-ok g c =
    let gap = c.args.gap.now in
    let fits : FitsSigned w64 gap.key = search rules in
    closes_in gap c.args.state.now c.insert.new.self (to_z w64 (of_z w64 gap.key))
    (to_z-of_z w64 gap.key fits) c.if-gap.true c.in_ok-insert.ensures.ok

pub returns-else-gap-clause-ok : goal.returns-else-gap-clause-ok
returns-else-gap-clause-ok g c =
    let gap = c.args.gap.now in
    let fits : FitsSigned w64 gap.key = search rules in
    closes_out gap c.args.state.now c.remove.new.self (to_z w64 (of_z w64 gap.key))
    (to_z-of_z w64 gap.key fits) c.if-gap.false c.remove.ensures
