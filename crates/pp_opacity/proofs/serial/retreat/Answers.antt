use Rattle.std.proofs.Common.{◌≡◌, ◌+◌, ◌-◌, ◌<◌, ◌++◌, ℕ, List, length, take, arith, ap, subst, sym}
use Rattle.pp_model.specs.Object.{Item, ops}
use Rattle.pp_model.specs.Sound.{serial_ops}
use Rattle.pp_attempts.specs.Trying.{IsTrail, MayFollow}
use Rattle.pp_opacity.proofs.Serials.{longer_by, may_next, with_last}
use Rattle.pp_opacity.proofs.serial.retreat.Goals as goal

pub take_back-requires : goal.take_back-requires
take_back-requires g c =
    let o = g.S.Spec.object in
    let r = c.requires.at in
    let D = c.args.committed.now in
    let n = c.args.serial.now.count in
    let i = n - 1 in
    let x = serial_ops (take i D) in
    let d = c.index-committed-serial.result in
    let some = c.requires.some in
    let within = r.2.within in
    let there : i < length D = omega (arith, some, within) in
    let e : n ≡ i + 1 = omega (arith, some) in
    let us = c.args.serial.now.undos.items in
    let t = c.args.serial.now.state in
    let is = c.index-committed-serial.is in
    let back = sym c.as_slice-items.ensures in (
      o.start r.0,
      x,
      subst (λ (w : List (Item _)). MayFollow o (o.start r.0) (x ++ ops w)) back (may_next o g.met.S.Spec.lawful r.0 D r.1 i d there is),
      subst (λ (w : List (Item _)). IsTrail o (o.start r.0) (x ++ ops w) us t) back
          (with_last o g.met.S.Spec.lawful r.0 D r.1 i d there is us t (subst (λ (k : ℕ). IsTrail o (o.start r.0) (serial_ops (take k D)) us t) e r.2.trail)),
    )

pub returns-clause-at : goal.returns-clause-at
returns-clause-at g c = λ shape run at.
    let o = g.S.Spec.object in
    let D = c.args.committed.now in
    let n = c.args.serial.now.count in
    let i = n - 1 in
    let x = serial_ops (take i D) in
    let d = c.index-committed-serial.result in
    let some = c.requires.some in
    let within = at.within in
    let there : i < length D = omega (arith, some, within) in
    let e : n ≡ i + 1 = omega (arith, some) in
    let us = c.args.serial.now.undos.items in
    let t = c.args.serial.now.state in
    let is = c.index-committed-serial.is in
    let back = sym c.as_slice-items.ensures in
    let may = subst (λ (w : List (Item _)). MayFollow o (o.start shape) (x ++ ops w)) back (may_next o g.met.S.Spec.lawful shape D run i d there is) in
    let before = subst (λ (w : List (Item _)). IsTrail o (o.start shape) (x ++ ops w) us t) back
    (with_last o g.met.S.Spec.lawful shape D run i d there is us t (subst (λ (k : ℕ). IsTrail o (o.start shape) (serial_ops (take k D)) us t) e at.trail)) in
    record {
      within = omega (arith, within);
      trail = c.in_ok-take_back.ensures.back (o.start shape) x may before;
    }

pub returns-clause-cost : goal.returns-clause-cost
returns-clause-cost g c =
    let D = c.args.committed.now in
    let n = c.args.serial.now.count in
    let i = n - 1 in
    let some = c.requires.some in
    let within = c.requires.at.2.within in
    let there : i < length D = omega (arith, some, within) in
    let e : n ≡ i + 1 = omega (arith, some) in
    let longer = longer_by D i c.index-committed-serial.result there c.index-committed-serial.is in
    let same = ap (λ (k : ℕ). length (serial_ops (take k D))) e in
    let size = ap (λ (w : List (Item _)). length w) c.as_slice-items.ensures in
    let bound = c.in_ok-take_back.ensures.bound in
    omega (arith, longer, same, size, bound)

pub returns-in_err-take_back-clause-cost : goal.returns-in_err-take_back-clause-cost
returns-in_err-take_back-clause-cost g c =
    let D = c.args.committed.now in
    let n = c.args.serial.now.count in
    let i = n - 1 in
    let some = c.requires.some in
    let within = c.requires.at.2.within in
    let there : i < length D = omega (arith, some, within) in
    let e : n ≡ i + 1 = omega (arith, some) in
    let longer = longer_by D i c.index-committed-serial.result there c.index-committed-serial.is in
    let same = ap (λ (k : ℕ). length (serial_ops (take k D))) e in
    let size = ap (λ (w : List (Item _)). length w) c.as_slice-items.ensures in
    let bound = c.in_err-take_back.ensures.bound in
    omega (arith, longer, same, size, bound)
