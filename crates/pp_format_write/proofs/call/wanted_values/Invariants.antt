use Rattle.std.proofs.Common.{◌≡◌, map, take}
use Rattle.serde_json.specs.View.{view}
use Rattle.pp_format_write.specs.Operations.{number_or_null}
use Rattle.pp_format_write.proofs.call.wanted_values.Given as goal

abbrev pub invariant-loop-number : goal.invariant-loop-number
invariant-loop-number l = map view l.values.items ≡ map number_or_null (take l.number-index l.numbers)
