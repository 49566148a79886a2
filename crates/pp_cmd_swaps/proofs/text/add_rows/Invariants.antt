use Rattle.std.proofs.Common.{◌≡◌, ◌≤◌, ◌-◌, ◌++◌, map, drop, length}
use Rattle.pp_input.specs.Joined.{joined_lines}
use Rattle.pp_certificate_checker.specs.Laws.{rows}
use Rattle.pp_certificate_lines.specs.Lines.{row_bytes}
use Rattle.pp_cmd_swaps.proofs.text.add_rows.Given as goal

abbrev pub invariant-rows : goal.invariant-rows
invariant-rows l = record {
  within : l.at ≤ length l.positions;
  so_far : l.text ++ joined_lines (map row_bytes (rows (drop l.at l.positions)))
      ≡ l.fn.text ++ joined_lines (map row_bytes (rows l.positions));
}

abbrev pub decreases-rows : goal.decreases-rows
decreases-rows l = length l.positions - l.at
