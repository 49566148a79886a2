use Rattle.std.proofs.lemmas.Result.{err_from_is_err_and}
use Rattle.pp_format_read.proofs.Objects.{stops}
use Rattle.pp_format_read.proofs.header.objects_among.Goals as goal

pub returns-in_err-catalog : goal.returns-in_err-catalog
returns-in_err-catalog c =
    let p = err_from_is_err_and c.from_residual.result c.from_residual.ensures.1 in
    rw (p.1, p.2) (λ other. stops c.loop-value.catalog c.args.values.now c.loop-value.value-index c.value-item.result c.in_err-catalog.field-0.0 _ c.loop-value-test.true c.value-item.is (c.in_err-catalog.ensures.reads other) c.loop-value.invariant.rest)
