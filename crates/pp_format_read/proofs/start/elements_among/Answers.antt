use Rattle.std.proofs.lemmas.Result.{err_from_is_err_and}
use Rattle.pp_format_read.proofs.Starts.{stops}
use Rattle.pp_format_read.proofs.start.elements_among.Goals as goal

pub returns-in_err-items : goal.returns-in_err-items
returns-in_err-items c =
    let p = err_from_is_err_and c.from_residual.result c.from_residual.ensures.1 in
    rw (p.1, p.2) (λ other. stops c.args.catalog.now c.loop-value.items c.args.values.now c.loop-value.value-index c.value-item.result c.in_err-items.field-0.0 _ c.loop-value-test.true c.value-item.is (c.in_err-items.ensures other) c.loop-value.invariant)
