use Rattle.pp_format_write.proofs.Headers.{is_catalog_of}
use Rattle.pp_format_write.proofs.header.object_values.Goals as goal

pub returns-clause-over : goal.returns-clause-over
returns-clause-over c = is_catalog_of c.args.catalog.now c.len-object-end.result c.len-object-end.ensures.len c.len-object-end.ensures.few c.len-object-end.ensures.distinct c.len-object-end.ensures.names
