use Rattle.std.proofs.Common.{◌≡◌, ◌++◌, map, take}
use Rattle.pp_core.specs.Steps.{meaning}
use Rattle.pp_input.specs.Joined.{joined_lines}
use Rattle.pp_format_write.specs.Steps.{step_bytes}
use Rattle.pp_format_write.proofs.run.add_steps.Given as goal

abbrev pub invariant-loop-step : goal.invariant-loop-step
invariant-loop-step l = l.text ≡ l.fn.text ++ joined_lines (map (step_bytes l.catalog) (map meaning (take l.step-index l.steps)))
