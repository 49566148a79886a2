use Rattle.std.proofs.Common.{◌≡◌, map, take}
use Rattle.serde_json.specs.View.{view}
use Rattle.pp_core.specs.Trees.{tree}
use Rattle.pp_format_write.specs.Bodies.{body_value}
use Rattle.pp_format_write.proofs.body.+body.Given as goal

abbrev pub invariant-values_of-loop-part : goal.invariant-values_of-loop-part
invariant-values_of-loop-part l = map view l.values.items ≡ map (λ b. body_value l.catalog (tree b)) (take l.part-index l.parts)
