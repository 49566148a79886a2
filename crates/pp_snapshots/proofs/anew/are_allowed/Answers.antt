use Rattle.std.proofs.Common.{◌↔◌, IsTrue}
use Rattle.pp_kind.specs.Object.{IsAllowed}
use Rattle.pp_snapshots.specs.Many.{AllFollow}
use Rattle.pp_snapshots.proofs.Asking.{ok_then}
use Rattle.pp_snapshots.proofs.NewObjects.{alone_follow}
use Rattle.pp_snapshots.proofs.anew.are_allowed.Goals as goal

pub returns-clause-tells : goal.returns-clause-tells
returns-clause-tells g c =
    let o = g.S.Spec.object in
    let place = g.S.Placed.place_of in
    let past = c.in_ok-past.past in
    let shape = c.args.shape.now in
    let l = c.args.ops.now in
    ok_then c.apply_all.result (λ good. AllFollow o place past l good c.apply_all.new.past)
    (λ good. IsTrue good ↔ IsAllowed o shape l)
    (λ good followed. alone_follow o place g.S.Placed.SameAt g.met.S.Spec.lawful g.met.S.Placed.placed shape past c.apply_all.new.past c.requires.there.0 l good c.requires.there.1
    c.in_ok-past.ensures.past followed)
    c.apply_all.ensures.follow
