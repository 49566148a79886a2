use Rattle.pp_certificate_lines.proofs.Checkings.{text_leads}
use Rattle.pp_certificate_lines.proofs.checking.Checking.take_text.Goals as goal

pub returns-clause-leads : goal.returns-clause-leads
returns-clause-leads g c =
    text_leads c.args.self c.args.text.now c.take_any.result c.take_any.ensures.taken
