use Rattle.std.proofs.Common.{◌++◌, List, length, take, arith, ap, subst, sym}
use Rattle.pp_model.specs.Object.{Item, ops}
use Rattle.pp_model.specs.Sound.{serial_ops}
use Rattle.pp_attempts.specs.Trying.{MayFollow}
use Rattle.pp_opacity.specs.Trials.{IsTried}
use Rattle.pp_opacity.proofs.Serials.{advanced, longer_by, may_next}
use Rattle.pp_opacity.proofs.serial.advance.Goals as goal

pub apply_list-requires : goal.apply_list-requires
apply_list-requires g c =
    let o = g.S.Spec.object in
    let r = c.requires.at in
    let D = c.args.committed.now in
    let i = c.args.serial.now.count in
    let x = serial_ops (take i D) in (
      o.start r.0,
      x,
      subst (λ (w : List (Item _)). MayFollow o (o.start r.0) (x ++ ops w)) (sym c.as_slice-items.ensures)
          (may_next o g.met.S.Spec.lawful r.0 D r.1 i c.index-committed-serial.result c.requires.there c.index-committed-serial.is),
      r.2.trail,
    )

pub returns-in_err-apply_list-clause-cost : goal.returns-in_err-apply_list-clause-cost
returns-in_err-apply_list-clause-cost g c =
    let longer = longer_by c.args.committed.now c.args.serial.now.count c.index-committed-serial.result c.requires.there c.index-committed-serial.is in
    let size = ap (λ (w : List (Item _)). length w) c.as_slice-items.ensures in
    let bound = c.in_err-apply_list.ensures.bound in
    omega (arith, longer, size, bound)

pub returns-clause-at : goal.returns-clause-at
returns-clause-at g c = λ shape run at.
    let o = g.S.Spec.object in
    let D = c.args.committed.now in
    let i = c.args.serial.now.count in
    let x = serial_ops (take i D) in
    let d = c.index-committed-serial.result in
    let there = c.requires.there in
    let is = c.index-committed-serial.is in
    let us = c.apply_list.new.undos.items in
    let t = c.apply_list.new.state in
    let all = c.in_ok-apply_list.field-0 in
    let may = subst (λ (w : List (Item _)). MayFollow o (o.start shape) (x ++ ops w)) (sym c.as_slice-items.ensures) (may_next o g.met.S.Spec.lawful shape D run i d there is) in
    let tried = c.in_ok-apply_list.ensures.tried (o.start shape) x may at.trail in
    record {
      within = omega (arith, there);
      trail = advanced o g.met.S.Spec.lawful shape D run i d there is all us t (subst (λ (w : List (Item _)). IsTried o (o.start shape) x (ops w) all us t) c.as_slice-items.ensures tried);
    }

pub returns-clause-cost : goal.returns-clause-cost
returns-clause-cost g c =
    let longer = longer_by c.args.committed.now c.args.serial.now.count c.index-committed-serial.result c.requires.there c.index-committed-serial.is in
    let size = ap (λ (w : List (Item _)). length w) c.as_slice-items.ensures in
    let bound = c.in_ok-apply_list.ensures.bound in
    omega (arith, longer, size, bound)
