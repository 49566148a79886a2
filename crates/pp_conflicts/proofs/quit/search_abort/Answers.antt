use Rattle.std.proofs.Common.{sym}
use Rattle.pp_conflicts.proofs.Records.{abort_absent, abort_safe}
use Rattle.pp_conflicts.proofs.quit.search_abort.Goals as goal

pub returns-in-None : goal.returns-in-None
returns-in-None g c = abort_absent g.S.Spec.object g.S.Placed.place_of g.S.Placed.SameAt g.met.S.Spec.lawful g.met.S.Placed.placed c.args.parts.now c.requires.keeps c.args.tx.now (sym c.in-None.ensures) c.alone.result c.alone.ensures

pub returns-in-Some : goal.returns-in-Some
returns-in-Some g c = abort_safe g.S.Spec.object g.S.Placed.place_of g.S.Placed.SameAt g.met.S.Spec.lawful g.met.S.Placed.placed c.args.parts.now c.requires.keeps c.args.tx.now c.in-Some._it.now (sym c.in-Some.ensures)
