use Rattle.std.proofs.Common.{◌≡◌, ◌++◌, take}
use Rattle.pp_styles.specs.Meanings.{meanings}
use Rattle.pp_cmd_views.proofs.run_steps.add_copies.Given as goal

abbrev pub invariant-loop-step : goal.invariant-loop-step
invariant-loop-step l = meanings l.list ≡ meanings l.fn.list ++ meanings (take l.step-index l.steps)
