use Rattle.std.proofs.Common.{◌≡◌, ◌<◌, ◌+◌, ◌++◌, IsTrue, arith, length, refl, subst, sym, take}
use Rattle.std.proofs.lemmas.List.{length-append, length-map, length-take-le}
use Rattle.pp_model.specs.Object.{ops}
use Rattle.pp_summary.proofs.Items.{in_there}
use Rattle.pp_conflicts.proofs.Pushing.{push_fails, push_next, pushes_begin, pushes_end}
use Rattle.pp_conflicts.proofs.commit.search_pushes.Goals as goal

pub loop-k-init : goal.loop-k-init
loop-k-init g c = record {
  state = λ before at. pushes_begin g.S.Spec.object g.met.S.Spec.lawful g.S.Placed.place_of (g.S.Spec.object.shape c.args.state.now) before c.args.own.now c.args.state.now at;
  ticks = omega arith;
}

pub apply-requires-clause-fits : goal.apply-requires-clause-fits
apply-requires-clause-fits g c =
    let lt : c.loop-k.k < length c.args.own.now = omega arith in
    let p = c.index-own-k.result in
    let s = c.requires.state in
    let at = c.loop-k.invariant.state s.0 s.1 in
    subst (λ z. IsTrue (g.S.Spec.object.fits z p.op)) (sym at.shape_is) (c.requires.own p (in_there c.args.own.now c.loop-k.k p lt c.index-own-k.is)).0

pub apply-requires-clause-ranged : goal.apply-requires-clause-ranged
apply-requires-clause-ranged g c =
    let lt : c.loop-k.k < length c.args.own.now = omega arith in
    let p = c.index-own-k.result in
    (c.requires.own p (in_there c.args.own.now c.loop-k.k p lt c.index-own-k.is)).1

pub apply-requires-clause-reached : goal.apply-requires-clause-reached
apply-requires-clause-reached g c =
    let own = c.args.own.now in
    let k = c.loop-k.k in
    let lt : k < length own = omega arith in
    let s = c.requires.state in
    let at = c.loop-k.invariant.state s.0 s.1 in
    let joined = length-append s.0 (ops (take k own)) in
    let mapped = length-map (take k own) (λ p. p.op) in
    let first = length-take-le k own (omega (arith, lt)) in
    record { ops = s.0 ++ ops (take k own); log = at.log; few = omega (arith, joined, mapped, first, lt, s.2) }

pub gives-answer-requires : goal.gives-answer-requires
gives-answer-requires g c =
    let lt : c.loop-k.k < length c.args.own.now = omega arith in
    let p = c.index-own-k.result in
    let s = c.requires.state in
    let at = c.loop-k.invariant.state s.0 s.1 in
    let a = rw c.in-Differs.is at c.in_ok-apply.ensures.applied in
    subst (λ z. IsTrue (g.S.Spec.object.fits (g.S.Spec.object.shape z) p.op)) (sym a.1)
    (subst (λ z. IsTrue (g.S.Spec.object.fits z p.op)) (sym at.shape_is) (c.requires.own p (in_there c.args.own.now c.loop-k.k p lt c.index-own-k.is)).0)

pub returns-in-Differs-clause-searches : goal.returns-in-Differs-clause-searches
returns-in-Differs-clause-searches g c = λ before at.
    let lt : c.loop-k.k < length c.args.own.now = omega arith in
    let p = c.index-own-k.result in
    let asked = c.requires.own p (in_there c.args.own.now c.loop-k.k p lt c.index-own-k.is) in
    let a = rw c.in-Differs.is at c.in_ok-apply.ensures.applied in
    push_fails g.S.Spec.object g.met.S.Spec.lawful g.S.Placed.place_of (g.S.Spec.object.shape c.args.state.now) before c.args.own.now c.loop-k.k p lt c.index-own-k.is asked.0 asked.1 c.loop-k.state (c.loop-k.invariant.state before at)
    c.apply.new.state a.0 a.1 c.gives-answer.result c.gives-answer.ensures _ refl c.at_step.result c.at_step.ensures

pub loop-k-preserved : goal.loop-k-preserved
loop-k-preserved g c = record {
  state = λ before at.
      let lt : c.loop-k.k < length c.args.own.now = omega arith in
      let p = c.index-own-k.result in
      let asked = c.requires.own p (in_there c.args.own.now c.loop-k.k p lt c.index-own-k.is) in
      let a = rw c.in-Done.is at c.in_ok-apply.ensures.applied in
      push_next g.S.Spec.object g.met.S.Spec.lawful g.S.Placed.place_of (g.S.Spec.object.shape c.args.state.now) before c.args.own.now c.loop-k.k p lt c.index-own-k.is asked.0 asked.1 c.loop-k.state (c.loop-k.invariant.state before at) c.apply.new.state a.0 a.2;
  ticks = omega (arith, c.loop-k.invariant.ticks, c.apply.ensures.cost);
}

pub returns-clause-searches : goal.returns-clause-searches
returns-clause-searches g c = λ before at.
    let end : c.loop-k.k ≡ length c.args.own.now = omega arith in
    pushes_end g.S.Spec.object g.met.S.Spec.lawful g.S.Placed.place_of (g.S.Spec.object.shape c.args.state.now) before c.args.own.now c.loop-k.k end c.loop-k.state (c.loop-k.invariant.state before at)
