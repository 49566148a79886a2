use Rattle.std.proofs.Common.{◌≡◌, map, take}
use Rattle.serde_json.specs.View.{view}
use Rattle.pp_certificate_lines.specs.Lines.{position_value}
use Rattle.pp_certificate_lines.proofs.value.position_values.Given as goal

abbrev pub invariant-loop-position : goal.invariant-loop-position
invariant-loop-position l = map view l.values.items ≡ map position_value (take l.position-index l.list)
