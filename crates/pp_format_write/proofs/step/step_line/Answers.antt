use Rattle.serde_json.specs.Written.{compact_text}
use Rattle.std.proofs.Common.{ap, ◌∙◌}
use Rattle.std.proofs.lemmas.Result.{IfOk-weaker}
use Rattle.pp_core.specs.Steps.{meaning}
use Rattle.pp_format_write.specs.Statable.{IsCatalog}
use Rattle.pp_format_write.proofs.Headers.{is_catalog_of}
use Rattle.pp_format_write.proofs.StepsBack.{text_back}
use Rattle.pp_format_write.proofs.step.step_line.Goals as goal

pub returns-clause-back : goal.returns-clause-back
returns-clause-back c =
    let over : IsCatalog c.args.catalog.now = is_catalog_of c.args.catalog.now c.len-named.result c.len-named.ensures.len c.len-named.ensures.few c.len-named.ensures.distinct c.len-named.ensures.names in
    IfOk-weaker c.line_of.result _ _ (λ text is header rules same h. text_back c.args.catalog.now (meaning c.args.step.now) text over (is ∙ ap compact_text c.in_ok-value.ensures.value) header rules same h) c.line_of.ensures
