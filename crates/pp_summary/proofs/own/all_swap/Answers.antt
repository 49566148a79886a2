use Rattle.std.proofs.Common.{◌≡◌, sym, subst, inl, inr, arith, ◌<◌, length}
use Rattle.pp_kind.specs.Object.{Swaps}
use Rattle.pp_summary.proofs.Items.{in_next, in_there}
use Rattle.pp_summary.proofs.own.all_swap.Goals as goal

pub returns-then-stops-clause-no : goal.returns-then-stops-clause-no
returns-then-stops-clause-no g c = λ _.
    let lt : c.loop-item.item-index < length c.args.own.now = omega arith in
    let s = c.stops.ensures.yes c.if-stops.true in
    record {
      item = c.item-item.result;
      is = in_there c.args.own.now c.loop-item.item-index c.item-item.result lt c.item-item.is;
      there = s.0;
      stays = s.1;
    }

pub loop-item-preserved : goal.loop-item-preserved
loop-item-preserved g c = λ a i.
    let lt : c.loop-item.item-index < length c.args.own.now = omega arith in
    elim (in_next c.args.own.now c.loop-item.item-index c.item-item.result a lt c.item-item.is i) [
      | inl j ↦ c.loop-item.invariant a j
      | inr j ↦ subst (λ w. g.S.Placed.place_of w.op ≡ g.S.Placed.place_of c.args.op.now → Swaps g.S.Spec.object w.op c.args.op.now) (sym j) (c.stops.ensures.no c.if-stops.false)
    ]
