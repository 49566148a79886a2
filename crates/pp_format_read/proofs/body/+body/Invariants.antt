use Rattle.std.proofs.Common.{◌≡◌, map, drop, ◌+◌, ◌*◌}
use Rattle.serde_json.specs.Data.{depth}
use Rattle.serde_json.specs.View.{view, items_view}
use Rattle.pp_core.specs.Trees.{tree}
use Rattle.pp_format_read.specs.Bodies.{bodies_of, bodies_in}
use Rattle.pp_format_read.proofs.Parts.{behind}
use Rattle.pp_format_read.proofs.body.+body.Given as goal

abbrev pub decreases-body_in : goal.decreases-body_in
decreases-body_in l = 2 * depth (view l.value.now)

abbrev pub decreases-parts_in : goal.decreases-parts_in
decreases-parts_in l = 2 * depth (view l.value.now)

abbrev pub decreases-seq_in : goal.decreases-seq_in
decreases-seq_in l = 2 * depth (view l.value.now) + 1

abbrev pub decreases-alt_in : goal.decreases-alt_in
decreases-alt_in l = 2 * depth (view l.value.now) + 1

abbrev pub decreases-star_in : goal.decreases-star_in
decreases-star_in l = 2 * depth (view l.value.now) + 1

-- the parts so far, and those of what is left
abbrev pub invariant-parts_in-loop-item : goal.invariant-parts_in-loop-item
invariant-parts_in-loop-item l =
    behind (map tree l.parts) (bodies_in l.catalog (items_view (drop l.item-index l.item-items))) ≡ bodies_of l.catalog (view l.value)
