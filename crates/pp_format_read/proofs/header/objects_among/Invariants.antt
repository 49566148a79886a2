use Rattle.std.proofs.Common.{◌≡◌, drop, [], length}
use Rattle.serde_json.specs.View.{items_view}
use Rattle.pp_format_read.specs.Headers.{objects_in}
use Rattle.pp_format_read.proofs.header.objects_among.Given as goal

-- the objects so far, and those of what is left
abbrev pub invariant-loop-value : goal.invariant-loop-value
invariant-loop-value l = record {
  rest : objects_in l.catalog (items_view (drop l.value-index l.values)) ≡ objects_in [] (items_view l.values);
  so_many : length l.catalog ≡ l.value-index;
}
