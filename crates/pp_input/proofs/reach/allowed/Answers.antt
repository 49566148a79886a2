use Rattle.std.proofs.Common.{◌≡◌, take, drop}
use Rattle.std.proofs.lemmas.List.{take_rest}
use Rattle.pp_input.specs.Reaches.{within_from}
use Rattle.pp_input.proofs.Skips.{within_more}
use Rattle.pp_input.proofs.reach.allowed.Goals as goal

pub returns-clause-within : goal.returns-clause-within
returns-clause-within c =
    let piece = c.args.piece.now in
    let done = c.skipped-done.result.0 in
    let at = c.skipped-done.result.1 in
    let next : take c.passed_over-more.result.0 (drop done piece) ≡ within_from at (drop done piece) = rw take_rest at c.passed_over-more.ensures.within in
    within_more c.args.from at piece done c.passed_over-more.result.0 c.skipped-done.ensures.skipped next
