use Rattle.std.proofs.Common.{◌≡◌, ◌++◌, ◌-◌}
use Rattle.std.specs.List.{flat_map, range_with_len}
use Rattle.pp_text.specs.Lines.{state_line, state_lines}
use Rattle.pp_text.proofs.lines.write_state_lines.Given as goal

abbrev pub invariant-loop-object : goal.invariant-loop-object
invariant-loop-object l = l.text ++ flat_map (state_line l.catalog l.states) (range_with_len l.object (l.count - l.object)) ≡ l.fn.text ++ state_lines l.catalog l.states
