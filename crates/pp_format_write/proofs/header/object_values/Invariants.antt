use Rattle.std.proofs.Common.{◌≡◌, map, take}
use Rattle.serde_json.specs.View.{view}
use Rattle.pp_format_write.specs.Headers.{object_value}
use Rattle.pp_format_write.proofs.header.object_values.Given as goal

abbrev pub invariant-loop-object : goal.invariant-loop-object
invariant-loop-object l = map view l.values.items ≡ map object_value (take l.object l.catalog)
