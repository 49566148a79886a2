use Rattle.std.proofs.Common.{sym}
use Rattle.pp_summary.proofs.HeldOf.{apart_of}
use Rattle.pp_violations.proofs.Records.{abort_absent, abort_safe}
use Rattle.pp_violations.proofs.ends.search_abort.Goals as goal

pub returns-in-None : goal.returns-in-None
returns-in-None g c =
    let apart = apart_of g.S.Spec.object g.S.Placed.place_of g.S.Placed.SameAt g.met.S.Placed.placed in
    abort_absent g.S.Spec.object g.S.Placed.place_of c.args.parts.now apart c.requires.keeps c.args.tx.now (sym c.in-None.ensures) c.alone.result c.alone.ensures

pub returns-in-Some : goal.returns-in-Some
returns-in-Some g c =
    let apart = apart_of g.S.Spec.object g.S.Placed.place_of g.S.Placed.SameAt g.met.S.Placed.placed in
    abort_safe g.S.Spec.object g.S.Placed.place_of c.args.parts.now apart c.requires.keeps c.args.tx.now c.in-Some._it.now (sym c.in-Some.ensures)
