use Rattle.pp_opacity.proofs.Replays.{follows_first, given_within, run_serial}
use Rattle.pp_opacity.proofs.Serials.{with_none}
use Rattle.pp_opacity.proofs.replay.start_replay.Goals as goal

pub advance_to-requires-clause-within : goal.advance_to-requires-clause-within
advance_to-requires-clause-within g c =
    let r = c.requires in
    given_within g.S.Spec.object c.args.shape.now r.0 r.1 c.args.committed.now r.2 c.args.given r.3

pub advance_to-requires-clause-at : goal.advance_to-requires-clause-at
advance_to-requires-clause-at g c =
    let r = c.requires in (
      c.args.shape.now,
      run_serial g.S.Spec.object c.args.shape.now r.0 r.1 c.args.committed.now r.2,
      c.in_ok-serial.ensures.at c.args.committed.now,
    )

pub returns-clause-follows : goal.returns-clause-follows
returns-clause-follows g c = λ h ss r e.
    let o = g.S.Spec.object in
    let shape = c.args.shape.now in
    let D = c.args.committed.now in
    record {
      follows = follows_first o shape h ss D r c.args.given e c.advance_to.new.serial.count _ c.in_ok-advance_to.ensures.count c.new.ensures.empty;
      at = with_none o shape D c.advance_to.new.serial (c.in_ok-advance_to.ensures.at shape (run_serial o shape h ss D r) (c.in_ok-serial.ensures.at D));
    }
