use Rattle.std.proofs.Common.{List, sym, subst}
use Rattle.pp_kind.specs.Calls.{Applies}
use Rattle.pp_objects.specs.declared.states.ObjectState.{ObjectState}
use Rattle.pp_objects.specs.One.{one}
use Rattle.pp_objects.specs.Objects.{objects}
use Rattle.pp_objects.specs.laws.One.{one_lawful}
use Rattle.pp_objects.specs.laws.Places.{reached_at}
use Rattle.pp_objects.proofs.There.{fits_there, lent, written, applies_there}
use Rattle.pp_objects.proofs.objects.ObjectsSpec.apply.Goals as goal

pub apply-requires-clause-reached : goal.apply-requires-clause-reached
apply-requires-clause-reached g c =
    let ss = c.args.state.now in
    let x = c.args.op.now in
    let s = fits_there ss x c.requires.fits in
    let there = lent ss c.state.inside.states.items x.object c.from.result s.0
    c.index_mut.result.now s.1 c.state.view_is c.from.ensures c.index_mut.ensures.value in
    reached_at one one_lawful ss x.object c.index_mut.result.now there c.requires.reached

pub returns-clause-applied : goal.returns-clause-applied
returns-clause-applied g c =
    let ss = c.args.state.now in
    let x = c.args.op.now in
    let s = fits_there ss x c.requires.fits in
    let there = lent ss c.state.inside.states.items x.object c.from.result s.0
    c.index_mut.result.now s.1 c.state.view_is c.from.ensures c.index_mut.ensures.value in
    subst (λ (ts : List ObjectState). Applies objects ss x c.apply.result ts)
    (sym (written ss c.state.inside.states.items x.object c.from.result c.apply.new.state
    c.state.view_is c.from.ensures))
    (applies_there ss x c.index_mut.result.now c.apply.new.state c.apply.result there
    c.apply.ensures.applied)
