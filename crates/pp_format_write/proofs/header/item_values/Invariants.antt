use Rattle.std.proofs.Common.{◌≡◌, map, take}
use Rattle.serde_json.specs.View.{view}
use Rattle.pp_format_write.specs.Headers.{item_value}
use Rattle.pp_format_write.proofs.header.item_values.Given as goal

abbrev pub invariant-loop-item : goal.invariant-loop-item
invariant-loop-item l = map view l.values.items ≡ map (item_value l.catalog) (take l.item-index l.ops)
