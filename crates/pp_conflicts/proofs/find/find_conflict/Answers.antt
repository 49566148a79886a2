use Rattle.std.proofs.Common.{subst, sym}
use Rattle.pp_records.specs.Records.{record_meaning}
use Rattle.pp_conflicts.specs.Conflicts.{IsConflict, IsRefused}
use Rattle.pp_conflicts.proofs.Verdicts.{found_conflict, not_all_true}
use Rattle.pp_conflicts.proofs.find.find_conflict.Goals as goal

pub unreachable-requires : goal.unreachable-requires
unreachable-requires g c =
    let all = rw c.in-None.is at c.in_ok-violation.ensures.searches in
    let refused = subst (λ q. IsRefused g.S.Spec.object g.S.Placed.place_of q (record_meaning c.args.recorded.now)) c.parts.ensures.taken c.requires.refused in
    not_all_true g.S.Spec.object g.S.Placed.place_of g.S.Placed.SameAt g.met.S.Spec.lawful g.met.S.Placed.placed c.parts.result.now c.parts.ensures.keeps (record_meaning c.args.recorded.now) c.requires.style refused all

pub returns-clause-found : goal.returns-clause-found
returns-clause-found g c =
    let found = rw c.in-Some.is at c.in_ok-violation.ensures.searches in
    subst (λ q. IsConflict g.S.Spec.object g.S.Placed.place_of q (record_meaning c.args.recorded.now) c.in-Some.violation) (sym c.parts.ensures.taken)
    (found_conflict g.S.Spec.object g.S.Placed.place_of g.S.Placed.SameAt g.met.S.Spec.lawful g.met.S.Placed.placed c.parts.result.now c.parts.ensures.keeps (record_meaning c.args.recorded.now) c.requires.style c.in-Some.violation found)
