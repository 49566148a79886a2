use Rattle.std.proofs.Common.{ap, is_some, sym, ◌∙◌}
use Rattle.pp_styles.proofs.Standing.{standing}
use Rattle.pp_styles.proofs.pulled.has_id.Goals as goal

pub returns : goal.returns
returns g c = c.is_some.ensures ∙ ap is_some c.find.ensures ∙ standing c.args.id c.args.local.now.1
