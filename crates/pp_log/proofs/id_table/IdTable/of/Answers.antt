use Rattle.std.proofs.Common.{◌<◌, ◌≤◌, length, take, get_or, sym, subst, arith}
use Rattle.std.proofs.lemmas.List.{take_all, take_more}
use Rattle.std.proofs.lemmas.Option.{slice_get-get_or}
use Rattle.pp_log.specs.Index.{IsTableOf}
use Rattle.pp_log.proofs.Numbers.{new_before, table_same}
use Rattle.pp_log.proofs.id_table.IdTable.of.Goals as goal

pub each-preserved : goal.each-preserved
each-preserved c = λ once.
    let ids = c.args.ids.now in
    let i = c.each.id-index in
    let within : i < length ids = omega arith in
    let fresh = new_before ids i (get_or ids i 0) once (slice_get-get_or ids i 0 within) in
    let table = table_same c.each.table c.reserve.new.self (take i ids) (c.each.invariant once) c.in_ok-reserve.ensures.same in
    subst (IsTableOf c.push.new.self) (sym (take_more ids i 0 within)) (c.push.ensures (take i ids) table fresh)

pub returns : goal.returns
returns c = λ once.
    let ids = c.args.ids.now in
    let i = c.each.id-index in
    let past : length ids ≤ i = omega arith in
    subst (IsTableOf c.each.table) (take_all i ids past) (c.each.invariant once)
