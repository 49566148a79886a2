use Rattle.std.proofs.Common.{◌≡◌, ◌+◌, length, take, refl, sym, ◌∙◌, ap, subst, arith}
use Rattle.pp_model.specs.Object.{ops}
use Rattle.pp_kind.specs.Gaps.{Crosses}
use Rattle.pp_kind.specs.declared.gapped.Crossed.TheVariants as crossed
use Rattle.pp_log.specs.Gaps.{CrossesAll}
use Rattle.pp_log.specs.Parts.{items_on}
use Rattle.pp_log.specs.declared.gap.Crossing.TheVariants as crossing
use Rattle.pp_log.proofs.Gaps.{crossed_item, crossed_last, crossed_none, crossed_other}
use Rattle.pp_log.proofs.Parted.{none_more_there, one_more}
use Rattle.pp_log.proofs.gap.cross_all.Goals as goal
use Rattle.pp_log.proofs.gap.cross_all.Goals.{then-place+in-Apart, else-place}

pub loop-k-init : goal.loop-k-init
loop-k-init g c = record {
  crosses = crossed_none g.S.Spec.object g.met.S.Spec.lawful g.S.Gapped.Bears g.S.Gapped.Differ c.args.first;
  size = refl;
  few = omega arith;
}

pub loop-k-preserved : goal.loop-k-preserved
loop-k-preserved g c =
    let o = g.S.Spec.object in
    let place = g.S.Placed.place_of in
    let f = g.T.Side.item_of in
    let p = c.args.place in
    let y = c.args.entries.now in
    let d = c.index-entries-k.result in
    let k = c.loop-k.k in
    let h = c.loop-k.gap in
    let lt = c.loop-k-test.true in
    let is = c.index-entries-k.is in
    let op_is = c.op-op.ensures in
    let inv = c.loop-k.invariant in
    let size = inv.size in
    let few = inv.few in
    elim c.if-place.branch [
      | then-place+in-Apart w ↦
          let here : place (f d).op ≡ p = ap place (sym op_is) ∙ sym c.place.ensures ∙ w.if-place.true in
          let one : Crosses o g.S.Gapped.Bears g.S.Gapped.Differ h (f d).op (crossed.Apart w.in-Apart.next) =
          subst (λ a. Crosses o g.S.Gapped.Bears g.S.Gapped.Differ h a (crossed.Apart w.in-Apart.next)) op_is (rw w.in-Apart.is at w.cross.ensures) in
          let next = crossed_item o g.met.S.Spec.lawful g.S.Gapped.Bears g.S.Gapped.Differ place f p y k d lt is c.args.first h inv.crosses w.in-Apart.next here one in
          let more = one_more place f p y k d lt is here in
          let now = w.crossed-is in
          record {
            crosses = subst (λ q. CrossesAll o g.S.Gapped.Bears g.S.Gapped.Differ c.args.first (ops (items_on place f p (take (k + 1) y))) (crossing.Apart q)) (sym w.gap-is) next;
            size = omega arith;
            few = omega arith;
          }
      | else-place w ↦
          let off : place (f d).op ≡ p → ⊥ = λ e. w.if-place.false (c.place.ensures ∙ ap place op_is ∙ e) in
          let next = crossed_other o g.met.S.Spec.lawful g.S.Gapped.Bears g.S.Gapped.Differ place f p y k d lt is c.args.first h inv.crosses off in
          let none = ap length (none_more_there place f p y k d lt is off) in
          let now = w.crossed-is in
          record {
            crosses = subst (λ q. CrossesAll o g.S.Gapped.Bears g.S.Gapped.Differ c.args.first (ops (items_on place f p (take (k + 1) y))) (crossing.Apart q)) (sym w.gap-is) next;
            size = omega arith;
            few = omega arith;
          }
    ]

pub returns-in-Same : goal.returns-in-Same
returns-in-Same g c =
    let o = g.S.Spec.object in
    let place = g.S.Placed.place_of in
    let f = g.T.Side.item_of in
    let d = c.index-entries-k.result in
    let h = c.loop-k.gap in
    let op_is = c.op-op.ensures in
    let here : place (f d).op ≡ c.args.place = ap place (sym op_is) ∙ sym c.place.ensures ∙ c.if-place.true in
    let one : Crosses o g.S.Gapped.Bears g.S.Gapped.Differ h (f d).op (crossed.Same c.in-Same.undo) =
    subst (λ a. Crosses o g.S.Gapped.Bears g.S.Gapped.Differ h a (crossed.Same c.in-Same.undo)) op_is (rw c.in-Same.is at c.cross.ensures) in
    crossed_last o g.met.S.Spec.lawful g.S.Gapped.Bears g.S.Gapped.Differ place f c.args.place c.args.entries.now c.loop-k.k d c.loop-k-test.true c.index-entries-k.is
    c.args.first h c.loop-k.invariant.crosses c.loop-k.crossed c.in-Same.undo here c.loop-k.invariant.size one
