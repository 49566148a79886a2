use Rattle.pp_objects.specs.One.{one}
use Rattle.pp_objects.specs.laws.One.{one_lawful}
use Rattle.pp_objects.specs.laws.Places.{was_applied_at}
use Rattle.pp_objects.proofs.There.{was_there, lent, written, back_there}
use Rattle.pp_objects.proofs.objects.ObjectsSpec.undo.Goals as goal

pub undo-requires : goal.undo-requires
undo-requires g c =
    let ss = c.args.state.now in
    let x = c.args.op.now in
    let s = was_there ss x c.args.undo c.requires in
    let there = lent ss c.state.inside.states.items x.object c.from.result s.0
    c.index_mut.result.now s.1 c.state.view_is c.from.ensures c.index_mut.ensures.value in
    was_applied_at one one_lawful ss x c.args.undo c.index_mut.result.now there c.requires

pub returns-clause-ok : goal.returns-clause-ok
returns-clause-ok g c =
    let ss = c.args.state.now in
    let x = c.args.op.now in
    let s = was_there ss x c.args.undo c.requires in
    let items = c.state.inside.states.items in
    let there = lent ss items x.object c.from.result s.0 c.index_mut.result.now s.1 c.state.view_is
    c.from.ensures c.index_mut.ensures.value in
    back_there ss x c.args.undo c.index_mut.result.now c.undo.new.state c.undo.result _ there
    (written ss items x.object c.from.result c.undo.new.state c.state.view_is c.from.ensures)
    c.undo.ensures.ok
