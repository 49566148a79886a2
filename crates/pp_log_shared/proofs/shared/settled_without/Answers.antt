use Rattle.std.proofs.Common.{◌≤◌, sym, arith}
use Rattle.pp_model.proofs.Finding.{stands_in}
use Rattle.pp_log_shared.proofs.Leaving.{is_found, settled_before, settled_none}
use Rattle.pp_log_shared.proofs.shared.settled_without.Goals as goal

pub returns-in_default : goal.returns-in_default
returns-in_default g c = settled_none c.args.own.now c.args.log.now.1 c.args.settled (sym c.in_default.ensures.value) c.requires.settles

pub unreachable-requires : goal.unreachable-requires
unreachable-requires g c = is_found g.S.Spec.object c.args.own.now c.args.log.now.1 c.requires.distinct c.requires.leave c.in-Some.first.now (stands_in c.args.own.now 0 c.in-Some.first.now (sym c.in-Some.ensures.value)) (sym c.in_default-find.ensures)

pub returns : goal.returns
returns g c =
    let h = c.min.ensures in
    let low : c.min.result ≤ c.args.settled = omega arith in
    let front : c.min.result ≤ c.in-Some-find.position = omega arith in
    settled_before g.S.Spec.object c.args.own.now c.args.log.now.1 c.requires.distinct c.requires.leave c.in-Some.first.now (sym c.in-Some.ensures.value) c.in-Some-find.position (sym c.in-Some-find.ensures) c.args.settled c.min.result low front c.requires.settles
