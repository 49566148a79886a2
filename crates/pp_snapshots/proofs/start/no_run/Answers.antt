use Rattle.std.proofs.Common.{refl}
use Rattle.pp_snapshots.specs.Shown.{Kept}
use Rattle.pp_snapshots.proofs.OnStart.{new_is, new_keeps, taken_none}
use Rattle.pp_snapshots.proofs.start.no_run.Goals as goal

pub returns-clause-new : goal.returns-clause-new
returns-clause-new g c =
    new_is g.S.Spec.object g.S.Placed.place_of g.S.Placed.SameAt g.met.S.Spec.lawful g.met.S.Placed.placed _ c.new.ensures.empty c.new-2.ensures.empty c.new-3.ensures c.new-4.ensures c.in_ok-past.ensures.past c.in_ok-past.ensures.size refl

pub returns-clause-keeps : goal.returns-clause-keeps
returns-clause-keeps g c =
    new_keeps g.S.Spec.object g.S.Placed.place_of g.S.Placed.SameAt g.met.S.Spec.lawful g.met.S.Placed.placed _ c.new.ensures.empty c.new-2.ensures.empty c.new-3.ensures c.new-4.ensures c.in_ok-past.ensures.past c.in_ok-past.ensures.size refl

pub returns-clause-taken : goal.returns-clause-taken
returns-clause-taken g c =
    let v : Kept g.row.S-Shape.Denot g.row.S-State.Denot g.row.S-Op.Denot g.row.S-Undo.Denot = record {
      alloc = c.args.alloc;
      shape = c.args.shape;
      slots = c.new.result;
      threads = c.new-2.result;
      ids = c.new-3.result;
      past = c.in_ok-past.past;
      by_part = c.nothing_listed.result;
      committed = c.new-4.result;
      count = 0;
    } in
    taken_none g.S.Spec.object g.S.Placed.place_of g.S.Placed.SameAt g.met.S.Spec.lawful g.met.S.Placed.placed v c.new.ensures.empty c.new-2.ensures.empty c.new-3.ensures c.new-4.ensures c.in_ok-past.ensures.past c.in_ok-past.ensures.size refl
