use Rattle.std.proofs.Common.{◌≡◌, ◌++◌, map, take}
use Rattle.pp_styles.specs.Meanings.{meanings}
use Rattle.pp_cmd_opaque.proofs.kept_run.add_copies.Given as goal

abbrev pub invariant-loop-step : goal.invariant-loop-step
invariant-loop-step l = record {
  steps : meanings l.list ≡ meanings l.fn.list ++ meanings (take l.step-index l.steps);
  lines : l.lines ≡ l.fn.lines ++ map (λ _. l.line) (take l.step-index l.steps);
}
