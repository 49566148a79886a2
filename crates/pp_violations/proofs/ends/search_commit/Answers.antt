use Rattle.std.proofs.Common.{sym}
use Rattle.pp_summary.proofs.HeldOf.{apart_of}
use Rattle.pp_violations.proofs.Records.{commit_absent, commit_broken, commit_fine}
use Rattle.pp_violations.proofs.ends.search_commit.Goals as goal

pub returns-in_default : goal.returns-in_default
returns-in_default g c =
    let apart = apart_of g.S.Spec.object g.S.Placed.place_of g.S.Placed.SameAt g.met.S.Placed.placed in
    commit_absent g.S.Spec.object g.S.Placed.place_of c.args.parts.now apart c.requires.keeps c.args.tx.now (sym c.in_default.ensures) c.alone.result c.alone.ensures

pub returns-then-not-complete : goal.returns-then-not-complete
returns-then-not-complete g c =
    let apart = apart_of g.S.Spec.object g.S.Placed.place_of g.S.Placed.SameAt g.met.S.Placed.placed in
    commit_broken g.S.Spec.object g.S.Placed.place_of c.args.parts.now apart c.requires.keeps c.args.tx.now c.in-Some.it.now (sym c.in-Some.ensures) c.complete.result c.complete.ensures c.if-not-complete.true c.bare.result c.bare.ensures c.at_step.result c.at_step.ensures

pub returns : goal.returns
returns g c =
    let apart = apart_of g.S.Spec.object g.S.Placed.place_of g.S.Placed.SameAt g.met.S.Placed.placed in
    commit_fine g.S.Spec.object g.S.Placed.place_of c.args.parts.now apart c.requires.keeps c.args.tx.now c.in-Some.it.now (sym c.in-Some.ensures) c.complete.result c.complete.ensures c.if-not-complete.false
