use Rattle.std.proofs.Common.{◌≡◌, List, ap, arith, subst, sym, ◌∙◌}
use Rattle.pp_attempts.specs.Peaks.{IdsTell, Peak, meanings, peaks}
use Rattle.pp_attempts.proofs.KeptPeaks.{ids_tell}
use Rattle.pp_attempts.proofs.peak.peaks_of.Goals as goal

pub returns-clause-ids : goal.returns-clause-ids
returns-clause-ids g c =
    let steps = meanings c.args.list.now in
    let found_is : c.in_ok-found.found.peaks ≡ peaks steps =
    c.in_ok-found.ensures.all (omega (arith, c.if-found-most.false)) ∙ ap (λ w. peaks (meanings w)) c.as_slice-2.ensures in
    subst (λ (ps : List (Peak _)). IdsTell ps) (sym found_is) (ids_tell steps c.requires.orderly)
