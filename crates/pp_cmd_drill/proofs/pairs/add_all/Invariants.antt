use Rattle.std.proofs.Common.{◌≡◌, ◌++◌}
use Rattle.pp_styles.specs.Meanings.{meanings}
use Rattle.pp_cmd_drill.proofs.pairs.add_all.Given as goal

abbrev pub invariant-loop-step : goal.invariant-loop-step
invariant-loop-step g l = meanings l.steps.items ≡ meanings l.fn.steps.items ++ meanings l.yielded
