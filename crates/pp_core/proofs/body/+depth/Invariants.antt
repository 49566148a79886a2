use Rattle.std.proofs.Common.{◌≡◌, ◌≤◌, drop, min, max}
use Rattle.pp_core.specs.Trees.{depth_of_all}
use Rattle.pp_core.specs.Trees.{trees_of}
use Rattle.pp_core.proofs.body.+depth.Given as goal

abbrev pub invariant-measure_depth_of_all-loop-part : goal.invariant-measure_depth_of_all-loop-part
invariant-measure_depth_of_all-loop-part l = record {
  fits : l.deepest ≤ 4294967295;
  same : min (max l.deepest (depth_of_all (trees_of (drop l.part-index l.parts)))) 4294967295 ≡ min (depth_of_all (trees_of l.parts)) 4294967295;
}
