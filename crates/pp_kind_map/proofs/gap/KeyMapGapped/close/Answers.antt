use Rattle.std.proofs.Common.{w64, rules, to_z, of_z, FitsSigned, refl}
use Rattle.std.proofs.lemmas.Int.{to_z-of_z}
use Rattle.std.proofs.lemmas.Result.{on_ok_weaker}
use Rattle.pp_kind_map.proofs.Gaps.{closes}
use Rattle.pp_kind_map.proofs.gap.KeyMapGapped.close.Goals as goal

pub returns-clause-ok : goal.returns-clause-ok
returns-clause-ok g c =
    let gap = c.args.gap.now in
    let fits : FitsSigned w64 gap.key = search rules in
    on_ok_weaker c.set_value.result
    (closes gap c.args.state.now c.set_value.new.values (to_z w64 (of_z w64 gap.key)) gap.value
    (to_z-of_z w64 gap.key fits) refl) c.set_value.ensures.ok
