use Rattle.std.proofs.Common.{◌≡◌, ◌-◌, length, get_or, sym, ◌∙◌, ap, subst, arith, refl, Some}
use Rattle.std.specs.List.{slice_get, slice_set}
use Rattle.std.proofs.lemmas.Option.{slice_get-get_or}
use Rattle.pp_model.specs.Lists.{In}
use Rattle.pp_model.proofs.Finding.{stands_in}
use Rattle.pp_log.specs.Batches.{CanForget, CanGather, Gathers}
use Rattle.pp_log.specs.Keeps.{KeepsAll}
use Rattle.pp_log.specs.Leaving.{without_items}
use Rattle.pp_log.specs.Room.{ids_of}
use Rattle.pp_log.specs.Runs.{GoesOn, HasRun}
use Rattle.pp_log.specs.TakesOut.{itself}
use Rattle.pp_log.proofs.Gathered.{can_gather, distinct_items, has_id_there, has_place, has_run, ids_there, items, keeps_rest, may_items, sizes}
use Rattle.pp_log.proofs.Leaves.{nowhere}
use Rattle.pp_log.proofs.Ids.{position_of_id}
use Rattle.pp_log.proofs.Parted.{all_on}
use Rattle.pp_log.proofs.batch.take_batch_back.Goals as goal

pub unreachable-requires : goal.unreachable-requires
unreachable-requires g c =
    let batch = c.args.batch.now in
    let first = c.index-batch-0.result in
    let some = c.requires.some in
    let first_own : slice_get batch 0 ≡ Some first = slice_get-get_or batch 0 first some ∙ ap Some (sym c.index-batch-0.is) in
    let log = c.requires.leave.log in
    let none = sym (c.find.ensures (ids_of log) c.requires.leave.keeps.index) ∙ c.in_default.is in
    nowhere log first (sym (position_of_id log first.id) ∙ none) (c.requires.leave.may.stand first (stands_in batch 0 first first_own))

pub index_mut-place-requires : goal.index_mut-place-requires
index_mut-place-requires g c =
    let o = g.S.Spec.object in
    let place = g.S.Placed.place_of in
    let laws = g.met.S.Spec.lawful in
    let SameAt = g.S.Placed.SameAt in
    let places = g.met.S.Placed.placed in
    let s = c.args.state.now in
    let ps = c.args.places.now.items in
    let batch = c.args.batch.now in
    let first = c.index-batch-0.result in
    let some = c.requires.some in
    let first_own : slice_get batch 0 ≡ Some first = slice_get-get_or batch 0 first some ∙ ap Some (sym c.index-batch-0.is) in
    let log = c.requires.leave.log in
    let keeps = c.requires.leave.keeps in
    let may = c.requires.leave.may in
    let here = has_place o place SameAt laws places s ps log keeps.keeps batch may c.requires.one_place first first_own in
    let p_is = c.from-p.ensures ∙ c.place-here.ensures in
    omega arith

pub unreachable-requires-in_default-position_in_place : goal.unreachable-requires-in_default-position_in_place
unreachable-requires-in_default-position_in_place g c =
    let o = g.S.Spec.object in
    let place = g.S.Placed.place_of in
    let laws = g.met.S.Spec.lawful in
    let SameAt = g.S.Placed.SameAt in
    let places = g.met.S.Placed.placed in
    let s = c.args.state.now in
    let ps = c.args.places.now.items in
    let batch = c.args.batch.now in
    let first = c.index-batch-0.result in
    let some = c.requires.some in
    let first_own : slice_get batch 0 ≡ Some first = slice_get-get_or batch 0 first some ∙ ap Some (sym c.index-batch-0.is) in
    let log = c.requires.leave.log in
    let keeps = c.requires.leave.keeps in
    let may = c.requires.leave.may in
    let p_is = c.from-p.ensures ∙ c.place-here.ensures in
    let q = c.index_mut-place.result.now in
    let value = c.index_mut-place.ensures.value ∙ ap (λ n. get_or ps n q) p_is in
    has_id_there o place SameAt laws places s ps log keeps.keeps batch may c.requires.one_place first first_own q value
    (λ k. c.in_default-position_in_place.ensures.none (subst (In first.id) (sym c.deref.ensures.value) k))

pub gather-requires : goal.gather-requires
gather-requires g c =
    let o = g.S.Spec.object in
    let place = g.S.Placed.place_of in
    let laws = g.met.S.Spec.lawful in
    let SameAt = g.S.Placed.SameAt in
    let places = g.met.S.Placed.placed in
    let s = c.args.state.now in
    let ps = c.args.places.now.items in
    let batch = c.args.batch.now in
    let first = c.index-batch-0.result in
    let some = c.requires.some in
    let first_own : slice_get batch 0 ≡ Some first = slice_get-get_or batch 0 first some ∙ ap Some (sym c.index-batch-0.is) in
    let log = c.requires.leave.log in
    let keeps = c.requires.leave.keeps in
    let may = c.requires.leave.may in
    let p_is = c.from-p.ensures ∙ c.place-here.ensures in
    let q = c.index_mut-place.result.now in
    let value = c.index_mut-place.ensures.value ∙ ap (λ n. get_or ps n q) p_is in
    let from = c.in-Some-position_in_place.from in
    let found = ap (λ l. slice_get l from) (sym c.deref.ensures.value) ∙ c.in-Some-position_in_place.ensures.found in
    subst (λ l. CanGather o place batch from l q.undos.items) (sym c.deref-2.ensures.value)
    (can_gather o place SameAt laws places s ps log keeps.keeps batch may c.requires.one_place first first_own q value from found)

pub overflow_sub-others : goal.overflow_sub-others
overflow_sub-others g c =
    let o = g.S.Spec.object in
    let place = g.S.Placed.place_of in
    let laws = g.met.S.Spec.lawful in
    let SameAt = g.S.Placed.SameAt in
    let places = g.met.S.Placed.placed in
    let s = c.args.state.now in
    let ps = c.args.places.now.items in
    let batch = c.args.batch.now in
    let first = c.index-batch-0.result in
    let some = c.requires.some in
    let first_own : slice_get batch 0 ≡ Some first = slice_get-get_or batch 0 first some ∙ ap Some (sym c.index-batch-0.is) in
    let log = c.requires.leave.log in
    let keeps = c.requires.leave.keeps in
    let may = c.requires.leave.may in
    let p_is = c.from-p.ensures ∙ c.place-here.ensures in
    let q = c.index_mut-place.result.now in
    let value = c.index_mut-place.ensures.value ∙ ap (λ n. get_or ps n q) p_is in
    let from = c.in-Some-position_in_place.from in
    let found = ap (λ l. slice_get l from) (sym c.deref.ensures.value) ∙ c.in-Some-position_in_place.ensures.found in
    let vs = c.gather.new.undos.items in
    let gathers = subst (λ l. Gathers o place batch from l q.undos.items vs) c.deref-2.ensures.value c.gather.ensures.gathers in
    let all = sizes o place SameAt laws places s ps log keeps.keeps batch may c.requires.one_place first first_own q value from found vs gathers in
    omega arith

pub unwind-requires-clause-run : goal.unwind-requires-clause-run
unwind-requires-clause-run g c =
    let o = g.S.Spec.object in
    let place = g.S.Placed.place_of in
    let laws = g.met.S.Spec.lawful in
    let SameAt = g.S.Placed.SameAt in
    let places = g.met.S.Placed.placed in
    let s = c.args.state.now in
    let ps = c.args.places.now.items in
    let batch = c.args.batch.now in
    let first = c.index-batch-0.result in
    let some = c.requires.some in
    let first_own : slice_get batch 0 ≡ Some first = slice_get-get_or batch 0 first some ∙ ap Some (sym c.index-batch-0.is) in
    let log = c.requires.leave.log in
    let keeps = c.requires.leave.keeps in
    let may = c.requires.leave.may in
    let p_is = c.from-p.ensures ∙ c.place-here.ensures in
    let q = c.index_mut-place.result.now in
    let value = c.index_mut-place.ensures.value ∙ ap (λ n. get_or ps n q) p_is in
    let from = c.in-Some-position_in_place.from in
    let found = ap (λ l. slice_get l from) (sym c.deref.ensures.value) ∙ c.in-Some-position_in_place.ensures.found in
    let vs = c.gather.new.undos.items in
    let gathers = subst (λ l. Gathers o place batch from l q.undos.items vs) c.deref-2.ensures.value c.gather.ensures.gathers in
    let on = all_on place c.place-here.result batch (λ e i. c.requires.one_place e first i (stands_in batch 0 first first_own) ∙ sym c.place-here.ensures) in
    subst (λ l. HasRun o (c.len.result - length batch) l vs s) (sym on)
    (has_run o place SameAt laws places s ps log keeps.keeps batch may c.requires.one_place first first_own q value from found vs gathers c.gather.ensures.size (c.len.result - length batch) (omega arith))

pub unwind-requires-clause-all : goal.unwind-requires-clause-all
unwind-requires-clause-all g c =
    let o = g.S.Spec.object in
    let place = g.S.Placed.place_of in
    let laws = g.met.S.Spec.lawful in
    let SameAt = g.S.Placed.SameAt in
    let places = g.met.S.Placed.placed in
    let s = c.args.state.now in
    let ps = c.args.places.now.items in
    let batch = c.args.batch.now in
    let first = c.index-batch-0.result in
    let some = c.requires.some in
    let first_own : slice_get batch 0 ≡ Some first = slice_get-get_or batch 0 first some ∙ ap Some (sym c.index-batch-0.is) in
    let log = c.requires.leave.log in
    let keeps = c.requires.leave.keeps in
    let may = c.requires.leave.may in
    let p_is = c.from-p.ensures ∙ c.place-here.ensures in
    let q = c.index_mut-place.result.now in
    let value = c.index_mut-place.ensures.value ∙ ap (λ n. get_or ps n q) p_is in
    let from = c.in-Some-position_in_place.from in
    let found = ap (λ l. slice_get l from) (sym c.deref.ensures.value) ∙ c.in-Some-position_in_place.ensures.found in
    let vs = c.gather.new.undos.items in
    let gathers = subst (λ l. Gathers o place batch from l q.undos.items vs) c.deref-2.ensures.value c.gather.ensures.gathers in
    let all = sizes o place SameAt laws places s ps log keeps.keeps batch may c.requires.one_place first first_own q value from found vs gathers in
    let on = ap length (all_on place c.place-here.result batch (λ e i. c.requires.one_place e first i (stands_in batch 0 first first_own) ∙ sym c.place-here.ensures)) in
    omega arith

pub forget_all-requires : goal.forget_all-requires
forget_all-requires g c =
    let o = g.S.Spec.object in
    let place = g.S.Placed.place_of in
    let laws = g.met.S.Spec.lawful in
    let SameAt = g.S.Placed.SameAt in
    let places = g.met.S.Placed.placed in
    let s = c.args.state.now in
    let ps = c.args.places.now.items in
    let batch = c.args.batch.now in
    let first = c.index-batch-0.result in
    let some = c.requires.some in
    let first_own : slice_get batch 0 ≡ Some first = slice_get-get_or batch 0 first some ∙ ap Some (sym c.index-batch-0.is) in
    let log = c.requires.leave.log in
    let keeps = c.requires.leave.keeps in
    let may = c.requires.leave.may in
    let p_is = c.from-p.ensures ∙ c.place-here.ensures in
    let q = c.index_mut-place.result.now in
    let value = c.index_mut-place.ensures.value ∙ ap (λ n. get_or ps n q) p_is in
    let here = items o place SameAt laws places s ps log keeps.keeps batch may c.requires.one_place first first_own in (
      log,
      here,
      record {
        distinct = keeps.keeps.distinct;
        may = may;
        index_of = keeps.index;
        distinct_here = distinct_items o place SameAt laws places s ps log keeps.keeps batch may c.requires.one_place first first_own;
        may_here = may_items o place SameAt laws places s ps log keeps.keeps batch may c.requires.one_place first first_own;
        same_ids = ids_there o place SameAt laws places s ps log keeps.keeps batch may c.requires.one_place first first_own q value;
      },
    )

pub returns-clause-leaves : goal.returns-clause-leaves
returns-clause-leaves g c = λ log keeps may.
    let o = g.S.Spec.object in
    let place = g.S.Placed.place_of in
    let laws = g.met.S.Spec.lawful in
    let SameAt = g.S.Placed.SameAt in
    let places = g.met.S.Placed.placed in
    let s = c.args.state.now in
    let ps = c.args.places.now.items in
    let batch = c.args.batch.now in
    let first = c.index-batch-0.result in
    let some = c.requires.some in
    let first_own : slice_get batch 0 ≡ Some first = slice_get-get_or batch 0 first some ∙ ap Some (sym c.index-batch-0.is) in
    let p_is = c.from-p.ensures ∙ c.place-here.ensures in
    let q = c.index_mut-place.result.now in
    let value = c.index_mut-place.ensures.value ∙ ap (λ n. get_or ps n q) p_is in
    let from = c.in-Some-position_in_place.from in
    let found = ap (λ l. slice_get l from) (sym c.deref.ensures.value) ∙ c.in-Some-position_in_place.ensures.found in
    let vs = c.gather.new.undos.items in
    let gathers = subst (λ l. Gathers o place batch from l q.undos.items vs) c.deref-2.ensures.value c.gather.ensures.gathers in
    let here = items o place SameAt laws places s ps log keeps.keeps batch may c.requires.one_place first first_own in
    let can : CanForget o batch c.args.ids.now q.ids.items log here = record {
      distinct = keeps.keeps.distinct;
      may = may;
      index_of = keeps.index;
      distinct_here = distinct_items o place SameAt laws places s ps log keeps.keeps batch may c.requires.one_place first first_own;
      may_here = may_items o place SameAt laws places s ps log keeps.keeps batch may c.requires.one_place first first_own;
      same_ids = ids_there o place SameAt laws places s ps log keeps.keeps batch may c.requires.one_place first first_own q value;
    } in
    let forgotten = c.forget_all.ensures log here can in
    let on = all_on place c.place-here.result batch (λ e i. c.requires.one_place e first i (stands_in batch 0 first first_own) ∙ sym c.place-here.ensures) in
    let goes = subst (λ l. GoesOn o (c.len.result - length batch) l vs s c.unwind.new.undos.items c.unwind.new.state) on c.in_ok-unwind.ensures.run in
    let rest = keeps_rest o place SameAt laws places s ps log keeps.keeps batch may c.requires.one_place first first_own q value from found vs gathers c.gather.ensures.size (c.len.result - length batch) (omega arith)
    c.unwind.new.undos.items c.unwind.new.state goes c.in_ok-unwind.ensures.len (record { ids = c.forget_all.new.ids_there; undos = c.unwind.new.undos }) refl forgotten.1 in (
      subst (λ n. KeepsAll o place c.unwind.new.state (without_items itself batch log) (slice_set ps n (record { ids = c.forget_all.new.ids_there; undos = c.unwind.new.undos })) c.forget_all.new.ids) (sym p_is)
          (record { keeps = rest.0; index = forgotten.0 }),
      rest.1,
    )

pub returns-clause-cost : goal.returns-clause-cost
returns-clause-cost g c =
    let o = g.S.Spec.object in
    let place = g.S.Placed.place_of in
    let laws = g.met.S.Spec.lawful in
    let SameAt = g.S.Placed.SameAt in
    let places = g.met.S.Placed.placed in
    let s = c.args.state.now in
    let ps = c.args.places.now.items in
    let batch = c.args.batch.now in
    let first = c.index-batch-0.result in
    let some = c.requires.some in
    let first_own : slice_get batch 0 ≡ Some first = slice_get-get_or batch 0 first some ∙ ap Some (sym c.index-batch-0.is) in
    let log = c.requires.leave.log in
    let keeps = c.requires.leave.keeps in
    let may = c.requires.leave.may in
    let p_is = c.from-p.ensures ∙ c.place-here.ensures in
    let q = c.index_mut-place.result.now in
    let value = c.index_mut-place.ensures.value ∙ ap (λ n. get_or ps n q) p_is in
    let from = c.in-Some-position_in_place.from in
    let found = ap (λ l. slice_get l from) (sym c.deref.ensures.value) ∙ c.in-Some-position_in_place.ensures.found in
    let vs = c.gather.new.undos.items in
    let gathers = subst (λ l. Gathers o place batch from l q.undos.items vs) c.deref-2.ensures.value c.gather.ensures.gathers in
    let all = sizes o place SameAt laws places s ps log keeps.keeps batch may c.requires.one_place first first_own q value from found vs gathers in
    let cost = c.in_ok-unwind.ensures.cost in
    omega arith
