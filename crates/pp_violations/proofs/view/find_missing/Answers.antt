use Rattle.pp_summary.proofs.HeldOf.{apart_of}
use Rattle.pp_violations.proofs.Missing.{missing_found}
use Rattle.pp_violations.proofs.view.find_missing.Goals as goal

pub returns : goal.returns
returns g c =
    let apart = apart_of g.S.Spec.object g.S.Placed.place_of g.S.Placed.SameAt g.met.S.Placed.placed in
    missing_found g.S.Spec.object g.S.Placed.place_of apart c.args.parts.now c.requires.keeps c.args.it.now c.args.place c.commits_at-ids.result.now c.count_seen.result c.in_ok-seen.seen c.entries.result.now
    c.commits_at-ids.ensures c.count_seen.ensures c.in_ok-seen.ensures c.entries.ensures c.missing_in.result (λ l. l.items) c.missing_in.ensures
