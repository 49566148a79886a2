use Rattle.std.proofs.Common.{◌≡◌, ◌<◌, ◌++◌, arith, length, subst, sym, take}
use Rattle.pp_model.specs.Config.{shared_ops}
use Rattle.pp_model.specs.Object.{ops}
use Rattle.pp_summary.specs.Held.{IsOpAsked}
use Rattle.pp_summary.proofs.Items.{in_there}
use Rattle.pp_violations.proofs.Searching.{begin_state, here, pulled_all, pulled_false, pulled_next}
use Rattle.pp_violations.proofs.pull.search_pulls.Goals as goal

pub loop-k-init : goal.loop-k-init
loop-k-init g c = record {
  pulled = λ j e l s. absurd (omega arith);
  state = begin_state g.S.Spec.object g.S.Placed.place_of g.met.S.Spec.lawful c.args.shape.now (ops c.args.view.now) c.requires.allowed c.requires.ranged c.in_ok-state.state c.in_ok-state.ensures.state c.args.entries.now;
  rises = omega (arith, c.state_after.ensures.rises);
  bound = omega (arith, c.state_after.ensures.bound);
}

pub judge_pull-requires-clause-asked : goal.judge_pull-requires-clause-asked
judge_pull-requires-clause-asked g c =
    let lt : c.loop-k.k < length c.args.entries.now = omega arith in
    let e = c.index-entries-k.result in
    subst (λ z. IsOpAsked g.S.Spec.object z e.op) (sym c.loop-k.invariant.state.shape_is) (c.requires.asked e (in_there c.args.entries.now c.loop-k.k e lt c.index-entries-k.is))

pub returns-in-Some-clause-searches : goal.returns-in-Some-clause-searches
returns-in-Some-clause-searches g c =
    let lt : c.loop-k.k < length c.args.entries.now = omega arith in
    let e = c.index-entries-k.result in
    let inv = c.loop-k.invariant in
    let at = here g.S.Spec.object g.S.Placed.place_of c.args.shape.now (ops c.args.view.now) c.args.own.now c.args.entries.now c.loop-k.k e lt c.index-entries-k.is inv.pulled c.loop-k.state inv.state in
    let j = rw c.in-Some.is at c.in_ok-broken.ensures.judges in
    pulled_false g.S.Spec.object g.S.Placed.place_of c.args.shape.now (ops c.args.view.now) c.args.own.now c.args.entries.now c.loop-k.k e lt c.index-entries-k.is inv.pulled c.loop-k.state inv.state c.judge_pull.new.state c.in-Some.broken
    (j (ops c.args.view.now ++ shared_ops (take c.loop-k.k c.args.entries.now)) at) c.at_step.result c.at_step.ensures

pub loop-k-preserved : goal.loop-k-preserved
loop-k-preserved g c =
    let lt : c.loop-k.k < length c.args.entries.now = omega arith in
    let e = c.index-entries-k.result in
    let inv = c.loop-k.invariant in
    let at = here g.S.Spec.object g.S.Placed.place_of c.args.shape.now (ops c.args.view.now) c.args.own.now c.args.entries.now c.loop-k.k e lt c.index-entries-k.is inv.pulled c.loop-k.state inv.state in
    let j = rw c.in_default.is at c.in_ok-broken.ensures.judges in
    let n = pulled_next g.S.Spec.object g.S.Placed.place_of c.args.shape.now (ops c.args.view.now) c.args.own.now c.args.entries.now c.loop-k.k e lt c.index-entries-k.is inv.pulled c.loop-k.state inv.state c.judge_pull.new.state
    (j (ops c.args.view.now ++ shared_ops (take c.loop-k.k c.args.entries.now)) at) in
    record {
      pulled = n.0;
      state = n.1;
      rises = omega (arith, inv.rises, c.judge_pull.ensures.cost);
      bound = omega (arith, inv.bound, c.judge_pull.ensures.cost);
    }

pub returns-clause-searches : goal.returns-clause-searches
returns-clause-searches g c =
    let end : c.loop-k.k ≡ length c.args.entries.now = omega arith in
    pulled_all g.S.Spec.object g.S.Placed.place_of c.args.shape.now (ops c.args.view.now) c.args.own.now c.args.entries.now c.loop-k.k end c.loop-k.state c.loop-k.invariant.pulled c.loop-k.invariant.state
