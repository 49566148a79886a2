use Rattle.std.proofs.Common.{◌≡◌, ◌≤◌, ◌+◌, ◌-◌, length, drop, take, ◌∙◌, ap, subst, arith}
use Rattle.std.proofs.lemmas.List.{drop-take, length-drop, length-take-le}
use Rattle.pp_log.specs.Batches.{AreOnOnePlace}
use Rattle.pp_log.proofs.Leaves.{left_first, left_last}
use Rattle.pp_log.proofs.Taken.{batch_may, keeps_now, left_before, log_now}
use Rattle.pp_log.proofs.batch.take_all_back.Goals as goal

pub loop-left-init : goal.loop-left-init
loop-left-init g c = record {
  within = omega arith;
  cost = omega arith;
  left = left_first g.S.Spec.object g.S.Placed.place_of c.args.own.now c.args.state.now c.args.places.now.items c.args.ids.now (length c.args.own.now) (omega arith);
}

pub take_batch_back-requires-clause-one_place : goal.take_batch_back-requires-clause-one_place
take_batch_back-requires-clause-one_place g c =
    let own = c.args.own.now in
    let k = c.loop-left.left in
    let i = c.start_of_batch-start.result in
    let bound = c.loop-left.invariant.within in
    let size = length-take-le k own bound in
    let below = c.start_of_batch-start.ensures.within in
    let whole : k ≡ i + (k - i) = omega arith in
    let those : drop i (take k own) ≡ take (k - i) (drop i own) = ap (λ n. drop i (take n own)) whole ∙ drop-take i (k - i) own in
    subst (AreOnOnePlace g.S.Placed.place_of) those c.start_of_batch-start.ensures.one_place

pub take_batch_back-requires-clause-leave : goal.take_batch_back-requires-clause-leave
take_batch_back-requires-clause-leave g c =
    let o = g.S.Spec.object in
    let place = g.S.Placed.place_of in
    let own = c.args.own.now in
    let s = c.args.state.now in
    let ps = c.args.places.now.items in
    let ids = c.args.ids.now in
    let k = c.loop-left.left in
    let i = c.start_of_batch-start.result in
    let bound = c.loop-left.invariant.within in
    let size = length-take-le k own bound in
    let below = c.start_of_batch-start.ensures.within in
    let within : i ≤ k = omega arith in
    let left = c.loop-left.invariant.left in
    let h = c.requires in
    record {
      log = log_now o place own s ps ids i k within c.loop-left.state c.loop-left.places.items c.loop-left.ids left h.log h.keeps h.may;
      keeps = (keeps_now o place own s ps ids i k within c.loop-left.state c.loop-left.places.items c.loop-left.ids left h.log h.keeps h.may).0;
      may = batch_may o place own s ps ids i k within c.loop-left.state c.loop-left.places.items c.loop-left.ids left h.log h.keeps h.may;
    }

pub loop-left-preserved : goal.loop-left-preserved
loop-left-preserved g c =
    let o = g.S.Spec.object in
    let place = g.S.Placed.place_of in
    let own = c.args.own.now in
    let s = c.args.state.now in
    let ps = c.args.places.now.items in
    let ids = c.args.ids.now in
    let k = c.loop-left.left in
    let i = c.start_of_batch-start.result in
    let bound = c.loop-left.invariant.within in
    let size = length-take-le k own bound in
    let below = c.start_of_batch-start.ensures.within in
    let within : i ≤ k = omega arith in
    let left = c.loop-left.invariant.left in
    let cost = c.loop-left.invariant.cost in
    let now = c.in_ok-take_batch_back.ensures.cost in
    let tail = length-drop i own in
    let many : length (take (k - i) (drop i own)) ≡ k - i = length-take-le (k - i) (drop i own) (omega arith) in
    record {
      within = omega arith;
      cost = omega arith;
      left = left_before o place own s ps ids i k within c.loop-left.state c.loop-left.places.items c.loop-left.ids left
          c.take_batch_back.new.state c.take_batch_back.new.places.items c.take_batch_back.new.ids c.in_ok-take_batch_back.ensures.leaves;
    }

pub returns-clause-leaves : goal.returns-clause-leaves
returns-clause-leaves g c =
    left_last g.S.Spec.object g.S.Placed.place_of c.args.own.now c.args.state.now c.args.places.now.items c.args.ids.now
    c.loop-left.left c.loop-left.state c.loop-left.places.items c.loop-left.ids (let test = c.loop-left-test.false in omega arith) c.loop-left.invariant.left
