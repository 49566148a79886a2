use Rattle.std.proofs.Common.{◌≡◌, ◌<◌, ◌+◌, ◌-◌, ℕ, length, get_or, sym, ◌∙◌, ap, subst, arith}
use Rattle.std.specs.List.{slice_get}
use Rattle.std.proofs.lemmas.List.{get_or_default}
use Rattle.std.proofs.lemmas.Option.{slice_get_within}
use Rattle.pp_model.specs.Lists.{In}
use Rattle.pp_log.specs.Room.{ids_of}
use Rattle.pp_log.proofs.Distinct.{apart}
use Rattle.pp_log.proofs.Forgotten.{forgotten_both, forgotten_first, forgotten_last, id_here, id_stands, index_before, index_within, log_now}
use Rattle.pp_log.proofs.Ids.{ids_once}
use Rattle.pp_log.proofs.Leaves.{distinct_now}
use Rattle.pp_log.proofs.batch.forget_all.Goals as goal

pub loop-left-init : goal.loop-left-init
loop-left-init g c = forgotten_first g.S.Spec.object c.args.batch.now c.args.ids.now c.args.ids_there.now.items (length c.args.batch.now) (omega arith)

pub unreachable-requires : goal.unreachable-requires
unreachable-requires g c =
    let o = g.S.Spec.object in
    let batch = c.args.batch.now in
    let k : ℕ = c.loop-left.left - 1 in
    let test = c.loop-left-test.true in
    let bound = c.loop-left.invariant.within in
    let lt : k < length batch = omega arith in
    let n_is : c.loop-left.left ≡ k + 1 = omega arith in
    let e = get_or batch k c.index-batch-left.result in
    let is = get_or_default batch k c.index-batch-left.result e lt in
    let ids = c.args.ids.now in
    let here = c.args.ids_there.now.items in
    let js = c.loop-left.ids in
    let now = c.loop-left.ids_there.items in
    let n = c.loop-left.left in
    let part = c.loop-left.invariant in
    let log = c.requires.0 in
    let items = c.requires.1 in
    let can = c.requires.2 in
    let position = c.find.ensures (ids_of (log_now o batch ids here k e lt is n n_is js now part log items can)) (index_before o batch ids here k e lt is n n_is js now part log items can) in
    id_stands o batch ids here k e lt is n n_is js now part log items can (sym position ∙ c.in_default.is)

pub unreachable-requires-in_default-position_in_place : goal.unreachable-requires-in_default-position_in_place
unreachable-requires-in_default-position_in_place g c =
    let o = g.S.Spec.object in
    let batch = c.args.batch.now in
    let k : ℕ = c.loop-left.left - 1 in
    let test = c.loop-left-test.true in
    let bound = c.loop-left.invariant.within in
    let lt : k < length batch = omega arith in
    let n_is : c.loop-left.left ≡ k + 1 = omega arith in
    let e = get_or batch k c.index-batch-left.result in
    let is = get_or_default batch k c.index-batch-left.result e lt in
    let ids = c.args.ids.now in
    let here = c.args.ids_there.now.items in
    let js = c.loop-left.ids in
    let now = c.loop-left.ids_there.items in
    let n = c.loop-left.left in
    let part = c.loop-left.invariant in
    let inside = id_here o batch ids here k e lt is n n_is js now part c.requires.0 c.requires.1 c.requires.2 in
    c.in_default-position_in_place.ensures.none (subst (In e.id) (sym c.deref.ensures.value) inside)

pub remove-requires : goal.remove-requires
remove-requires g c =
    let there = ap (λ l. slice_get l c.in-Some-position_in_place.at) (sym c.deref.ensures.value) ∙ c.in-Some-position_in_place.ensures.found in
    let within = slice_get_within c.loop-left.ids_there.items c.in-Some-position_in_place.at _ there in
    omega arith

pub remove-requires-in-loop-left : goal.remove-requires-in-loop-left
remove-requires-in-loop-left g c =
    let o = g.S.Spec.object in
    let batch = c.args.batch.now in
    let k : ℕ = c.loop-left.left - 1 in
    let test = c.loop-left-test.true in
    let bound = c.loop-left.invariant.within in
    let lt : k < length batch = omega arith in
    let n_is : c.loop-left.left ≡ k + 1 = omega arith in
    let e = get_or batch k c.index-batch-left.result in
    let is = get_or_default batch k c.index-batch-left.result e lt in
    let ids = c.args.ids.now in
    let here = c.args.ids_there.now.items in
    let js = c.loop-left.ids in
    let now = c.loop-left.ids_there.items in
    let n = c.loop-left.left in
    let part = c.loop-left.invariant in
    let log = c.requires.0 in
    let items = c.requires.1 in
    let can = c.requires.2 in
    let position = c.find.ensures (ids_of (log_now o batch ids here k e lt is n n_is js now part log items can)) (index_before o batch ids here k e lt is n n_is js now part log items can) in
    index_within o batch ids here k e lt is n n_is js now part log items can c.in-Some.i (sym position ∙ c.in-Some.is)

pub loop-left-preserved : goal.loop-left-preserved
loop-left-preserved g c =
    let o = g.S.Spec.object in
    let batch = c.args.batch.now in
    let k : ℕ = c.loop-left.left - 1 in
    let test = c.loop-left-test.true in
    let bound = c.loop-left.invariant.within in
    let lt : k < length batch = omega arith in
    let n_is : c.loop-left.left ≡ k + 1 = omega arith in
    let e = get_or batch k c.index-batch-left.result in
    let is = get_or_default batch k c.index-batch-left.result e lt in
    let ids = c.args.ids.now in
    let here = c.args.ids_there.now.items in
    let js = c.loop-left.ids in
    let now = c.loop-left.ids_there.items in
    let n = c.loop-left.left in
    let part = c.loop-left.invariant in
    let there = ap (λ l. slice_get l c.in-Some-position_in_place.at) (sym c.deref.ensures.value) ∙ c.in-Some-position_in_place.ensures.found in
    record {
      within = omega arith;
      both = λ log items can.
          let position = c.find.ensures (ids_of (log_now o batch ids here k e lt is n n_is js now part log items can)) (index_before o batch ids here k e lt is n n_is js now part log items can) in
          forgotten_both o batch ids here k e lt is n n_is js now part log items can c.in-Some.i (sym position ∙ c.in-Some.is) c.in-Some-position_in_place.at c.remove-in-loop-left.new.self c.remove.new.self.items
          there c.remove.ensures.items
          (c.remove-in-loop-left.ensures (ids_of (log_now o batch ids here k e lt is n n_is js now part log items can)) (index_before o batch ids here k e lt is n n_is js now part log items can)
          (ids_once (log_now o batch ids here k e lt is n n_is js now part log items can) (apart (log_now o batch ids here k e lt is n n_is js now part log items can) (distinct_now o batch log can.distinct can.may k e lt is))));
    }

pub returns : goal.returns
returns g c =
    forgotten_last g.S.Spec.object c.args.batch.now c.args.ids.now c.args.ids_there.now.items c.loop-left.left c.loop-left.ids c.loop-left.ids_there.items
    (let test = c.loop-left-test.false in omega arith) c.loop-left.invariant
