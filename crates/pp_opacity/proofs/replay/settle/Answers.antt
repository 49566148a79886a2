use Rattle.std.proofs.Common.{◌≡◌, ◌++◌, List, Option, length, take, subst, sym, ap, ◌∙◌, arith}
use Rattle.pp_model.specs.Names.{Name}
use Rattle.pp_model.specs.Object.{Item, ops}
use Rattle.pp_model.specs.Sound.{serial_ops}
use Rattle.pp_attempts.specs.Trying.{IsTrail, MayFollow}
use Rattle.pp_opacity.specs.Attempts.{own_in}
use Rattle.pp_opacity.specs.Replays.{applied_in}
use Rattle.pp_opacity.specs.Trials.{IsWith}
use Rattle.pp_opacity.proofs.Serials.{alone, may_asked}
use Rattle.pp_opacity.proofs.replay.settle.Goals as goal

pub returns-in_default-clause-at : goal.returns-in_default-clause-at
returns-in_default-clause-at g c = λ shape D m.
    let kept = c.args.attempts.now.entries in
    alone g.S.Spec.object shape D c.args.serial.now
    (subst (λ (a : Option Name). IsWith g.S.Spec.object shape D (applied_in a kept) c.args.serial.now) c.in_default.is m.applied)

pub take_back-requires : goal.take_back-requires
take_back-requires g c =
    let o = g.S.Spec.object in
    let r = c.requires in
    let kept = c.args.attempts.now.entries in
    let serial = c.args.serial.now in
    let x = serial_ops (take serial.count r.1) in
    let e = ap (λ (a : Option Name). applied_in a kept) c.in-Some.is ∙ sym c.own-items.ensures in (
      o.start r.0,
      x,
      subst (λ (w : List (Item _)). MayFollow o (o.start r.0) (x ++ ops w)) e (may_asked o g.met.S.Spec.lawful r.0 r.1 r.2.run serial.count (applied_in c.args.applied.now kept) r.2.may),
      subst (λ (w : List (Item _)). IsTrail o (o.start r.0) (x ++ ops w) serial.undos.items serial.state) e r.2.applied.trail,
    )

pub returns-in_err-take_back-clause-bound : goal.returns-in_err-take_back-clause-bound
returns-in_err-take_back-clause-bound g c =
    let kept = c.args.attempts.now.entries in
    let e = ap (λ (a : Option Name). length (applied_in a kept)) c.in-Some.is ∙ ap (λ (w : List (Item _)). length w) (sym c.own-items.ensures) in
    let bound = c.in_err-take_back.ensures.bound in
    omega (arith, e, bound)

pub returns-clause-bound : goal.returns-clause-bound
returns-clause-bound g c =
    let kept = c.args.attempts.now.entries in
    let e = ap (λ (a : Option Name). length (applied_in a kept)) c.in-Some.is ∙ ap (λ (w : List (Item _)). length w) (sym c.own-items.ensures) in
    let bound = c.in_ok-take_back.ensures.bound in
    omega (arith, e, bound)

pub returns-clause-at : goal.returns-clause-at
returns-clause-at g c = λ shape D m.
    let o = g.S.Spec.object in
    let kept = c.args.attempts.now.entries in
    let serial = c.args.serial.now in
    let x = serial_ops (take serial.count D) in
    let e = ap (λ (a : Option Name). applied_in a kept) c.in-Some.is ∙ sym c.own-items.ensures in
    let may = subst (λ (w : List (Item _)). MayFollow o (o.start shape) (x ++ ops w)) e (may_asked o g.met.S.Spec.lawful shape D m.run serial.count (applied_in c.args.applied.now kept) m.may) in
    record {
      within = m.applied.within;
      trail = c.in_ok-take_back.ensures.back (o.start shape) x may (subst (λ (w : List (Item _)). IsTrail o (o.start shape) (x ++ ops w) serial.undos.items serial.state) e m.applied.trail);
    }
