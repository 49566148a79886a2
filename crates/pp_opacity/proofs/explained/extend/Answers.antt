use Rattle.std.proofs.Common.{◌≡◌, ◌++◌, ◌-◌, ℕ, List, length, take, drop, subst, sym, ap, arith}
use Rattle.std.proofs.lemmas.List.{length-drop, take_all}
use Rattle.pp_model.specs.Object.{Item, ops}
use Rattle.pp_model.specs.Sound.{serial_ops}
use Rattle.pp_attempts.specs.Trying.{MayFollow}
use Rattle.pp_opacity.specs.Trials.{IsAppliedIf}
use Rattle.pp_opacity.proofs.Serials.{extended, extends_explained, may_extend, rest_of}
use Rattle.pp_opacity.proofs.explained.extend.Goals as goal

pub apply_if_allowed-requires : goal.apply_if_allowed-requires
apply_if_allowed-requires g c =
    let o = g.S.Spec.object in
    let r = c.requires.extend in
    let items = c.args.items.now in
    let first = c.args.first in
    let x = serial_ops (take c.args.serial.now.count r.1) ++ ops (take first items) in (
      o.start r.0,
      x,
      subst (λ (w : List (Item _)). MayFollow o (o.start r.0) (x ++ ops w)) (sym (rest_of first items))
          (may_extend o g.met.S.Spec.lawful r.0 r.1 first items c.args.excluded c.args.serial.now r.2),
      r.2.applied.trail,
    )

pub returns-clause-decided : goal.returns-clause-decided
returns-clause-decided g c = λ shape committed m.
    let o = g.S.Spec.object in
    let items = c.args.items.now in
    let first = c.args.first in
    let x = serial_ops (take c.args.serial.now.count committed) ++ ops (take first items) in
    let may = subst (λ (w : List (Item _)). MayFollow o (o.start shape) (x ++ ops w)) (sym (rest_of first items))
    (may_extend o g.met.S.Spec.lawful shape committed first items c.args.excluded c.args.serial.now m) in
    let us = c.apply_if_allowed.new.undos.items in
    let t = c.apply_if_allowed.new.state in
    extends_explained o g.met.S.Spec.lawful shape committed first items c.args.excluded c.args.serial.now m c.in_ok-yes.yes us t
    (subst (λ (w : List (Item _)). IsAppliedIf o (o.start shape) x (ops w) c.in_ok-yes.yes us t) (rest_of first items) (c.in_ok-yes.ensures.applied (o.start shape) x may m.applied.trail))

pub returns-clause-applied : goal.returns-clause-applied
returns-clause-applied g c = λ shape committed m.
    let o = g.S.Spec.object in
    let items = c.args.items.now in
    let first = c.args.first in
    let before = serial_ops (take c.args.serial.now.count committed) in
    let x = before ++ ops (take first items) in
    let may = subst (λ (w : List (Item _)). MayFollow o (o.start shape) (x ++ ops w)) (sym (rest_of first items))
    (may_extend o g.met.S.Spec.lawful shape committed first items c.args.excluded c.args.serial.now m) in
    let us = c.apply_if_allowed.new.undos.items in
    let t = c.apply_if_allowed.new.state in
    record {
      within = m.applied.within;
      trail = extended o (o.start shape) t before first items c.in_ok-yes.yes us
          (subst (λ (w : List (Item _)). IsAppliedIf o (o.start shape) x (ops w) c.in_ok-yes.yes us t) (rest_of first items) (c.in_ok-yes.ensures.applied (o.start shape) x may m.applied.trail));
    }
