use Rattle.std.proofs.Common.{None, ap, ◌∙◌}
use Rattle.serde_json.specs.Written.{compact_text}
use Rattle.std.proofs.lemmas.Result.{IfOk-weaker}
use Rattle.pp_format_read.specs.Headers.{header_of}
use Rattle.pp_format_write.proofs.HeadersBack.{reads_back}
use Rattle.pp_format_write.proofs.header.header_line.Goals as goal

pub returns-clause-back : goal.returns-clause-back
returns-clause-back c = IfOk-weaker c.line_of.result _ _ (λ text is. ap header_of (is ∙ ap compact_text c.in_ok-value.ensures.value) ∙ reads_back c.args.catalog.now None c.in_ok-value.ensures.over tt) c.line_of.ensures
