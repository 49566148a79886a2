use Rattle.std.proofs.Common.{subst, sym}
use Rattle.pp_records.specs.Records.{record_meaning}
use Rattle.pp_violations.specs.Violations.{IsRefused, IsViolation}
use Rattle.pp_violations.proofs.Verdicts.{found_violation, not_all_true}
use Rattle.pp_violations.proofs.find.find_violation.Goals as goal

pub unreachable-requires : goal.unreachable-requires
unreachable-requires g c =
    let all = rw c.in-None.is at c.in_ok-violation.ensures.searches in
    let refused = subst (λ q. IsRefused g.S.Spec.object g.S.Placed.place_of q (record_meaning c.args.recorded.now)) c.parts.ensures.held c.requires.refused in
    not_all_true g.S.Spec.object g.S.Placed.place_of g.S.Placed.SameAt g.met.S.Spec.lawful g.met.S.Placed.placed c.parts.result.now c.parts.ensures.keeps (record_meaning c.args.recorded.now) c.requires.style refused all

pub returns-clause-found : goal.returns-clause-found
returns-clause-found g c =
    let fails = rw c.in-Some.is at c.in_ok-violation.ensures.searches in
    subst (λ q. IsViolation g.S.Spec.object g.S.Placed.place_of q (record_meaning c.args.recorded.now) c.in-Some.violation) (sym c.parts.ensures.held)
    (found_violation g.S.Spec.object g.S.Placed.place_of g.S.Placed.SameAt g.met.S.Spec.lawful g.met.S.Placed.placed c.parts.result.now c.parts.ensures.keeps (record_meaning c.args.recorded.now) c.requires.style c.in-Some.violation fails)
