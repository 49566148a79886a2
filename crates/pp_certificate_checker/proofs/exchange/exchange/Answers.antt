use Rattle.pp_certificate_checker.proofs.Moving.{row_kept}
use Rattle.pp_certificate_checker.proofs.exchange.exchange.Goals as goal

pub returns : goal.returns
returns g c =
    let k = rw c.in-Some.is at c.going_on.ensures in
    let t = c.in-Some.turned in
    let r = (rw c.in_ok-exchange_all.was at c.exchange_all.ensures) t.shape t.count in (
      k.1 c.args.positions.now _ r,
      row_kept g.S.Spec.object t.shape t.list.items c.exchange_all.new.list.items t.count
          c.args.lines
          c.args.positions.now k.0 c.requires.row r,
    )
