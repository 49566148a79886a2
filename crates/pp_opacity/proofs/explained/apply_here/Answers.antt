use Rattle.std.proofs.Common.{◌++◌, Bool, List, cond, take, subst, sym}
use Rattle.std.proofs.lemmas.List.{append-nil}
use Rattle.pp_model.specs.Object.{Item, ops}
use Rattle.pp_model.specs.Sound.{serial_ops}
use Rattle.pp_attempts.specs.Trying.{IsTrail, MayFollow}
use Rattle.pp_opacity.specs.Trials.{IsWith}
use Rattle.pp_opacity.proofs.Serials.{may_begin}
use Rattle.pp_opacity.proofs.explained.apply_here.Goals as goal

pub take_back-requires : goal.take_back-requires
take_back-requires g c =
    let o = g.S.Spec.object in
    let r = c.requires.extend in
    let items = c.args.items.now in
    let first = c.args.first in
    let at = subst (λ (b : Bool). IsWith o r.0 r.1 (cond b items (take first items)) c.extend.new.serial) c.if-yes.false (c.in_ok-yes.ensures.applied r.0 r.1 r.2) in (
      o.start r.0,
      serial_ops (take c.args.serial.now.count r.1),
      may_begin o g.met.S.Spec.lawful r.0 r.1 first items c.args.excluded c.args.serial.now r.2,
      subst (λ n. IsTrail o (o.start r.0) (serial_ops (take n r.1) ++ ops (take first items)) c.extend.new.serial.undos.items c.extend.new.serial.state) c.in_ok-yes.ensures.count at.trail,
    )

pub returns-clause-applied : goal.returns-clause-applied
returns-clause-applied g c = λ shape committed m.
    let o = g.S.Spec.object in
    let items = c.args.items.now in
    let first = c.args.first in
    let at = subst (λ (b : Bool). IsWith o shape committed (cond b items (take first items)) c.extend.new.serial) c.if-yes.false (c.in_ok-yes.ensures.applied shape committed m) in
    let x = serial_ops (take c.extend.new.serial.count committed) in
    let may = subst (λ n. MayFollow o (o.start shape) (serial_ops (take n committed) ++ ops (take first items))) (sym c.in_ok-yes.ensures.count)
    (may_begin o g.met.S.Spec.lawful shape committed first items c.args.excluded c.args.serial.now m) in
    record {
      within = at.within;
      trail = subst (λ (w : List _). IsTrail o (o.start shape) w c.take_back.new.undos.items c.take_back.new.state) (sym (append-nil x)) (c.in_ok-take_back.ensures.back (o.start shape) x may at.trail);
    }
