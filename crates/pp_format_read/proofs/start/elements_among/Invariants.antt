use Rattle.std.proofs.Common.{◌≡◌, drop, []}
use Rattle.serde_json.specs.View.{items_view}
use Rattle.pp_format_read.specs.Starts.{elements_in}
use Rattle.pp_format_read.proofs.start.elements_among.Given as goal

-- the items so far, and those of what is left
abbrev pub invariant-loop-value : goal.invariant-loop-value
invariant-loop-value l = elements_in l.catalog l.items (items_view (drop l.value-index l.values)) ≡ elements_in l.catalog [] (items_view l.values)
