use Rattle.std.proofs.Common.{◌≡◌}
use Rattle.pp_styles.specs.Meanings.{meanings}
use Rattle.pp_cmd_drill.specs.Drill.{pairs}
use Rattle.pp_cmd_drill.proofs.pairs.pairs_of.Given as goal

abbrev pub invariant-loop-before : goal.invariant-loop-before
invariant-loop-before l = meanings l.steps.items ≡ pairs l.before
