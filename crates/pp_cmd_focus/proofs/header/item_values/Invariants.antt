use Rattle.std.proofs.Common.{◌≡◌, ◌++◌, map, drop}
use Rattle.serde_json.specs.View.{view}
use Rattle.pp_format_write.specs.Headers.{item_value}
use Rattle.pp_cmd_focus.specs.Headers.{items_on}
use Rattle.pp_cmd_focus.proofs.header.item_values.Given as goal

abbrev pub invariant-loop-item : goal.invariant-loop-item
invariant-loop-item l =
    map view l.values.items ++ map (item_value l.catalog) (items_on l.place (drop l.item-index l.ops))
    ≡ map (item_value l.catalog) (items_on l.place l.ops)
