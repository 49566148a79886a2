use Rattle.std.proofs.Common.{◌≡◌, ◌≤◌, ◌+◌, drop, min}
use Rattle.pp_core.specs.Trees.{nodes_of_all}
use Rattle.pp_core.specs.Trees.{trees_of}
use Rattle.pp_core.proofs.body.+nodes.Given as goal

abbrev pub invariant-count_nodes_of_all-loop-part : goal.invariant-count_nodes_of_all-loop-part
invariant-count_nodes_of_all-loop-part l = record {
  fits : l.total ≤ 4294967295;
  same : min (l.total + nodes_of_all (trees_of (drop l.part-index l.parts))) 4294967295 ≡ min (nodes_of_all (trees_of l.parts)) 4294967295;
}
