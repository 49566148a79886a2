use Rattle.pp_certificate_checker.proofs.Fronts.{front_allowed, front_ranged}
use Rattle.pp_certificate_checker.proofs.shown.show.Goals as goal

pub state_after-requires-clause-allowed : goal.state_after-requires-clause-allowed
state_after-requires-clause-allowed g c =
    rw (c.deref.ensures.value, c.truncate.ensures.items)
    (front_allowed g.S.Spec.object c.args.turned.shape c.args.serial c.args.turned.list.items
    c.requires.allowed)

pub state_after-requires-clause-ranged : goal.state_after-requires-clause-ranged
state_after-requires-clause-ranged g c =
    rw (c.deref.ensures.value, c.truncate.ensures.items)
    (front_ranged g.S.Spec.object c.args.serial c.args.turned.list.items c.requires.ranged)

pub returns-clause-allowed : goal.returns-clause-allowed
returns-clause-allowed g c =
    let allowed = front_allowed g.S.Spec.object c.args.turned.shape c.args.serial
    c.args.turned.list.items c.requires.allowed in (
      rw (c.from.ensures, c.truncate.ensures.items) allowed,
      rw (c.from.ensures, ← c.deref.ensures.value) c.in_ok-state.ensures.state,
    )
