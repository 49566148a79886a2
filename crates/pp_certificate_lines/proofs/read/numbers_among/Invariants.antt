use Rattle.std.proofs.Common.{◌≡◌, drop, length}
use Rattle.serde_json.specs.View.{items_view}
use Rattle.pp_certificate_lines.specs.Reading.{numbers_of}
use Rattle.pp_certificate_lines.proofs.Parsed.{behind}
use Rattle.pp_certificate_lines.proofs.read.numbers_among.Given as goal

-- The numbers so far, and then those of the values that are left.
abbrev pub invariant-loop-value : goal.invariant-loop-value
invariant-loop-value l = record {
  rest : behind l.list (numbers_of (items_view (drop l.value-index l.values)))
      ≡ numbers_of (items_view l.values);
  so_many : length l.list ≡ l.value-index;
}
