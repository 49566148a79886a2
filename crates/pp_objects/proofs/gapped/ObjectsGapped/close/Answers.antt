use Rattle.pp_objects.proofs.There.{lent, written}
use Rattle.pp_objects.proofs.GapsAmong.{closes_there, gap_there, may_close_there}
use Rattle.pp_objects.proofs.gapped.ObjectsGapped.close.Goals as goal

pub close-requires : goal.close-requires
close-requires g c =
    let ss = c.args.state.now in
    let f = c.args.gap.now in
    let s = gap_there f ss c.requires in
    let there = lent ss c.state.inside.states.items f.object c.from.result s.0
    c.index_mut.result.now s.1 c.state.view_is c.from.ensures c.index_mut.ensures.value in
    may_close_there f ss c.index_mut.result.now there c.requires

pub returns-clause-ok : goal.returns-clause-ok
returns-clause-ok g c =
    let ss = c.args.state.now in
    let f = c.args.gap.now in
    let s = gap_there f ss c.requires in
    let items = c.state.inside.states.items in
    let there = lent ss items f.object c.from.result s.0 c.index_mut.result.now s.1 c.state.view_is
    c.from.ensures c.index_mut.ensures.value in
    closes_there f ss c.index_mut.result.now c.close.new.state c.close.result _ there
    (written ss items f.object c.from.result c.close.new.state c.state.view_is c.from.ensures)
    c.close.ensures.ok
