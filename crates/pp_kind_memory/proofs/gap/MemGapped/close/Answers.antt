use Rattle.std.proofs.Common.{w64, rules, to_z, of_z, FitsSigned}
use Rattle.std.proofs.lemmas.Int.{to_z-of_z}
use Rattle.pp_kind_memory.proofs.Gaps.{closes}
use Rattle.pp_kind_memory.proofs.gap.MemGapped.close.Goals as goal

pub returns-clause-ok : goal.returns-clause-ok
returns-clause-ok g c =
    let gap = c.args.gap.now in
    let at_fits : FitsSigned w64 gap.at = search rules in
    let number_fits : FitsSigned w64 gap.number = search rules in
    closes gap c.args.state.now c.write.new.self (to_z w64 (of_z w64 gap.at))
    (to_z w64 (of_z w64 gap.number)) (to_z-of_z w64 gap.at at_fits)
    (to_z-of_z w64 gap.number number_fits) c.requires c.in_ok-write.ensures.ok
