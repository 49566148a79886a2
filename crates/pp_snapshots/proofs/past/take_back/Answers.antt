use Rattle.std.proofs.Common.{◌≡◌, ◌+◌, ◌-◌, ◌<◌, sym, ap, subst, ◌∙◌, arith}
use Rattle.pp_kind.specs.Calls.{WasApplied}
use Rattle.pp_snapshots.specs.declared.past.Done.{Done}
use Rattle.pp_snapshots.proofs.Kept.{made_others, place_in, popped, set_there, some_length}
use Rattle.pp_snapshots.proofs.Pasts.{is_positive, last_made, taken_back, was_applied}
use Rattle.pp_snapshots.proofs.past.take_back.Goals as goal

pub index_mut-requires : goal.index_mut-requires
index_mut-requires g c =
    let e = c.requires.ends in
    let made = last_made g.S.Spec.object g.S.Placed.place_of g.S.Placed.SameAt g.met.S.Spec.lawful g.met.S.Placed.placed e.shape c.args.past.now e.ops e.past c.args.place e.before e.last e.is in
    let here = place_in c.args.past.now.places.items c.args.place _ _ made in
    omega (arith, here, c.from.ensures)

pub unreachable-requires : goal.unreachable-requires
unreachable-requires g c =
    let e = c.requires.ends in
    let made = last_made g.S.Spec.object g.S.Placed.place_of g.S.Placed.SameAt g.met.S.Spec.lawful g.met.S.Placed.placed e.shape c.args.past.now e.ops e.past c.args.place e.before e.last e.is in
    let some = some_length c.args.past.now.places.items c.args.place c.from.result c.index_mut.result.now _ _ c.from.ensures c.index_mut.ensures.value made in
    omega (arith, some, c.in_default.ensures.cases.0)

pub undo-requires : goal.undo-requires
undo-requires g c =
    let o = g.S.Spec.object in
    let e = c.requires.ends in
    let past = c.args.past.now in
    let made = last_made o g.S.Placed.place_of g.S.Placed.SameAt g.met.S.Spec.lawful g.met.S.Placed.placed e.shape past e.ops e.past c.args.place e.before e.last e.is in
    let was = was_applied o g.S.Placed.place_of g.S.Placed.SameAt g.met.S.Spec.lawful g.met.S.Placed.placed e.shape past e.ops e.past c.args.place e.before e.last e.is c.requires.few in
    let is = popped past.places.items c.args.place c.from.result c.index_mut.result.now _ _ _ _ c.from.ensures c.index_mut.ensures.value c.in-Some.ensures.items made in
    subst (λ m. WasApplied o m.op m.undo past.state) (sym is.1) was

pub returns-clause-back : goal.returns-clause-back
returns-clause-back g c = λ shape h x a is ends.
    let o = g.S.Spec.object in
    let past = c.args.past.now in
    let p = c.args.place in
    let made = last_made o g.S.Placed.place_of g.S.Placed.SameAt g.met.S.Spec.lawful g.met.S.Placed.placed shape past h is p x a ends in
    let popped_is = popped past.places.items p c.from.result c.index_mut.result.now _ _ _ _ c.from.ensures c.index_mut.ensures.value c.in-Some.ensures.items made in
    let i = c.from.result in
    let i_is : i ≡ p = c.from.ensures in
    let there = place_in past.places.items p _ _ made in
    let positive : 0 < past.size = is_positive o g.S.Placed.place_of g.S.Placed.SameAt g.met.S.Spec.lawful g.met.S.Placed.placed shape past h is p x a ends in
    let size : (past.size - 1) + 1 ≡ past.size = omega (arith, positive) in
    let d : Done _ _ = record { made = c.pop.new.self } in
    taken_back o g.S.Placed.place_of g.S.Placed.SameAt g.met.S.Spec.lawful g.met.S.Placed.placed shape past h is p x a ends _
    (c.in_ok-undo.ensures.ok ∙ ap (λ m. o.upkeep.back past.state m.op m.undo) popped_is.1) size
    (set_there past.places.items p i d _ i_is there popped_is.0)
    (λ q n. made_others past.places.items i q d (λ e. n (sym i_is ∙ e)))
