use Rattle.std.proofs.Common.{[], ◌∷◌}
use Rattle.std.proofs.lemmas.List.{map-append}
use Rattle.std.proofs.lemmas.Result.{err_from_is_err_and}
use Rattle.pp_core.specs.Trees.{tree}
use Rattle.pp_format_read.proofs.Parts.{goes_on, stops}
use Rattle.pp_format_read.proofs.body.+body.Goals as goal

pub parts_in-returns-in_err-part : goal.parts_in-returns-in_err-part
parts_in-returns-in_err-part t c =
    let p = err_from_is_err_and c.from_residual-in_err-part.result c.from_residual-in_err-part.ensures.1 in
    rw (p.1, p.2) (λ other. stops c.args.catalog.now _ c.deref-item-items.result.now c.loop-item.item-index c.item-item.result c.in_err-part.field-0.0 _ c.loop-item-test.true c.item-item.is (c.in_err-part.ensures other) c.loop-item.invariant)

pub parts_in-loop-item-preserved : goal.parts_in-loop-item-preserved
parts_in-loop-item-preserved t c =
    rw (c.in_ok-push.ensures.ok, map-append tree c.loop-item.parts (c.in_ok-part.part ∷ []))
    (goes_on c.args.catalog.now _ c.deref-item-items.result.now c.loop-item.item-index c.item-item.result _ _ c.loop-item-test.true c.item-item.is c.in_ok-part.ensures c.loop-item.invariant)
