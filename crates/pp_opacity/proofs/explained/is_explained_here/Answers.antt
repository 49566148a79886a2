use Rattle.std.proofs.Common.{take}
use Rattle.pp_model.specs.Sound.{serial_ops}
use Rattle.pp_opacity.proofs.Serials.{may_asked}
use Rattle.pp_opacity.proofs.explained.is_explained_here.Goals as goal

pub is_allowed_next-requires : goal.is_allowed_next-requires
is_allowed_next-requires g c =
    let o = g.S.Spec.object in
    let r = c.requires in
    let n = c.args.serial.now.count in (
      o.start r.0,
      serial_ops (take n r.1),
      may_asked o g.met.S.Spec.lawful r.0 r.1 r.2.run n c.args.items.now r.2.may,
      r.2.at.trail,
    )

pub returns-clause-decided : goal.returns-clause-decided
returns-clause-decided g c = λ shape committed ask.
    let o = g.S.Spec.object in
    let n = c.args.serial.now.count in
    (c.in_ok-yes.ensures.decided (o.start shape) (serial_ops (take n committed))
    (may_asked o g.met.S.Spec.lawful shape committed ask.run n c.args.items.now ask.may) ask.at.trail).decides

pub returns-clause-at : goal.returns-clause-at
returns-clause-at g c = λ shape committed ask.
    let o = g.S.Spec.object in
    let n = c.args.serial.now.count in
    record {
      within = ask.at.within;
      trail = (c.in_ok-yes.ensures.decided (o.start shape) (serial_ops (take n committed))
          (may_asked o g.met.S.Spec.lawful shape committed ask.run n c.args.items.now ask.may) ask.at.trail).trail;
    }
