use Rattle.std.proofs.Common.{◌≡◌, ◌++◌, drop}
use Rattle.std.specs.List.{flat_map}
use Rattle.pp_text.specs.Lines.{op_line}
use Rattle.pp_text.proofs.lines.write_op_lines.Given as goal

abbrev pub invariant-loop-entry : goal.invariant-loop-entry
invariant-loop-entry l = l.text ++ flat_map (op_line l.catalog) (drop l.entry-index l.entries) ≡ l.fn.text ++ flat_map (op_line l.catalog) l.entries
