use Rattle.std.proofs.Common.{sym}
use Rattle.pp_model.proofs.Finding.{place_there}
use Rattle.pp_machine.proofs.Looking.{stands_absent, stands_there}
use Rattle.pp_machine.proofs.find.stands_committed.Goals as goal

pub returns-in_default : goal.returns-in_default
returns-in_default g c = stands_absent c.args.shared.now.1 c.args.id (sym c.in_default.ensures)

pub returns-in_default-entry : goal.returns-in_default-entry
returns-in_default-entry g c = absurd (place_there _ c.args.shared.now.1 c.in-Some.i (sym c.in-Some.ensures) (sym c.in_default-entry.ensures))

pub returns : goal.returns
returns g c = stands_there c.args.shared.now.1 c.args.id c.in-Some.i c.in-Some-entry.entry.now (sym c.in-Some.ensures) (sym c.in-Some-entry.ensures)
