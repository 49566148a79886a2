use Rattle.std.proofs.Common.{◌≡◌, ◌<◌, ◌+◌, ◌-◌, ℕ, length, sym, ◌∙◌, arith}
use Rattle.pp_log.specs.Room.{ids_of}
use Rattle.pp_log.proofs.Leaves.{found_somewhere, index_now, left_first, left_last, left_next, now, now_log}
use Rattle.pp_log.proofs.Leaves.{stands_now}
use Rattle.pp_log.proofs.leave.take_each_back.Goals as goal

pub loop-left-init : goal.loop-left-init
loop-left-init g c = record {
  within = omega arith;
  cost = omega arith;
  left = left_first g.S.Spec.object g.S.Placed.place_of c.args.own.now c.args.state.now c.args.places.now.items c.args.ids.now (length c.args.own.now) (omega arith);
}

pub offset_bounds-own-left : goal.offset_bounds-own-left
offset_bounds-own-left g c = let bound = c.loop-left.invariant.within in omega arith

pub bounds-own-left : goal.bounds-own-left
bounds-own-left g c = let test = c.loop-left-test.true in let bound = c.loop-left.invariant.within in omega arith

pub unreachable-requires : goal.unreachable-requires
unreachable-requires g c =
    let o = g.S.Spec.object in
    let place = g.S.Placed.place_of in
    let own = c.args.own.now in
    let s = c.args.state.now in
    let ps = c.args.places.now.items in
    let ids = c.args.ids.now in
    let k : ℕ = c.loop-left.left - 1 in
    let test = c.loop-left-test.true in
    let bound = c.loop-left.invariant.within in
    let lt : k < length own = omega arith in
    let n_is : c.loop-left.left ≡ k + 1 = omega arith in
    let e = c.index-own-left.result in
    let is = c.index-own-left.is in
    let n = c.loop-left.left in
    let t = c.loop-left.state in
    let qs = c.loop-left.places.items in
    let js = c.loop-left.ids in
    let left = c.loop-left.invariant.left in
    let h = c.requires in
    found_somewhere o place own s ps ids k e lt is n n_is t qs js left h.log h.keeps h.may
    (sym (c.find.ensures (ids_of (now_log o place own s ps ids k e lt is n n_is t qs js left h.log h.keeps h.may)) (index_now o place own s ps ids k e lt is n n_is t qs js left h.log h.keeps h.may)) ∙ c.in_default.is)

pub take_one_back-requires : goal.take_one_back-requires
take_one_back-requires g c =
    let o = g.S.Spec.object in
    let place = g.S.Placed.place_of in
    let own = c.args.own.now in
    let s = c.args.state.now in
    let ps = c.args.places.now.items in
    let ids = c.args.ids.now in
    let k : ℕ = c.loop-left.left - 1 in
    let test = c.loop-left-test.true in
    let bound = c.loop-left.invariant.within in
    let lt : k < length own = omega arith in
    let n_is : c.loop-left.left ≡ k + 1 = omega arith in
    let e = c.index-own-left.result in
    let is = c.index-own-left.is in
    let n = c.loop-left.left in
    let t = c.loop-left.state in
    let qs = c.loop-left.places.items in
    let js = c.loop-left.ids in
    let left = c.loop-left.invariant.left in
    let h = c.requires in
    let found = sym (c.find.ensures (ids_of (now_log o place own s ps ids k e lt is n n_is t qs js left h.log h.keeps h.may)) (index_now o place own s ps ids k e lt is n n_is t qs js left h.log h.keeps h.may)) ∙ c.in-Some.is in
    record {
      log = now_log o place own s ps ids k e lt is n n_is t qs js left h.log h.keeps h.may;
      keeps = (now o place own s ps ids k e lt is n n_is t qs js left h.log h.keeps h.may).0;
      stands = stands_now o place own s ps ids k e lt is n n_is t qs js left h.log h.keeps h.may c.in-Some.i found;
    }

pub loop-left-preserved : goal.loop-left-preserved
loop-left-preserved g c =
    let o = g.S.Spec.object in
    let place = g.S.Placed.place_of in
    let own = c.args.own.now in
    let s = c.args.state.now in
    let ps = c.args.places.now.items in
    let ids = c.args.ids.now in
    let k : ℕ = c.loop-left.left - 1 in
    let test = c.loop-left-test.true in
    let bound = c.loop-left.invariant.within in
    let lt : k < length own = omega arith in
    let n_is : c.loop-left.left ≡ k + 1 = omega arith in
    let e = c.index-own-left.result in
    let is = c.index-own-left.is in
    let n = c.loop-left.left in
    let t = c.loop-left.state in
    let qs = c.loop-left.places.items in
    let js = c.loop-left.ids in
    let left = c.loop-left.invariant.left in
    let cost = c.loop-left.invariant.cost in
    let tick = c.in_ok-take_one_back.ensures.cost in
    record {
      within = omega arith;
      cost = omega arith;
      left = record {
        keeps = λ log keeps may.
            let found = sym (c.find.ensures (ids_of (now_log o place own s ps ids k e lt is n n_is t qs js left log keeps may)) (index_now o place own s ps ids k e lt is n n_is t qs js left log keeps may)) ∙ c.in-Some.is in
            let stands = stands_now o place own s ps ids k e lt is n n_is t qs js left log keeps may c.in-Some.i found in
            let less = c.in_ok-take_one_back.ensures.leaves (now_log o place own s ps ids k e lt is n n_is t qs js left log keeps may) (now o place own s ps ids k e lt is n n_is t qs js left log keeps may).0 stands in
            left_next o place own s ps ids k e lt is n n_is t qs js left log keeps may c.in-Some.i found c.take_one_back.new.state c.take_one_back.new.places.items c.take_one_back.new.ids less.0 less.1;
      };
    }

pub returns-in_err-take_one_back-clause-rises : goal.returns-in_err-take_one_back-clause-rises
returns-in_err-take_one_back-clause-rises g c =
    let cost = c.loop-left.invariant.cost in
    let tick = c.take_one_back.ensures.cost in
    let bound = c.loop-left.invariant.within in
    omega arith

pub returns-in_err-take_one_back-clause-bound : goal.returns-in_err-take_one_back-clause-bound
returns-in_err-take_one_back-clause-bound g c =
    let cost = c.loop-left.invariant.cost in
    let tick = c.take_one_back.ensures.cost in
    let test = c.loop-left-test.true in
    omega arith

pub returns-clause-leaves : goal.returns-clause-leaves
returns-clause-leaves g c =
    left_last g.S.Spec.object g.S.Placed.place_of c.args.own.now c.args.state.now c.args.places.now.items c.args.ids.now
    c.loop-left.left c.loop-left.state c.loop-left.places.items c.loop-left.ids (let test = c.loop-left-test.false in omega arith) c.loop-left.invariant.left

pub returns-clause-cost : goal.returns-clause-cost
returns-clause-cost g c = let cost = c.loop-left.invariant.cost in let test = c.loop-left-test.false in omega arith

pub returns-clause-rises : goal.returns-clause-rises
returns-clause-rises g c = let cost = c.loop-left.invariant.cost in let bound = c.loop-left.invariant.within in omega arith

pub returns-clause-bound : goal.returns-clause-bound
returns-clause-bound g c = let cost = c.loop-left.invariant.cost in let test = c.loop-left-test.false in omega arith
