use Rattle.std.proofs.Common.{map, subst}
use Rattle.pp_model.specs.Config.{item}
use Rattle.pp_model.specs.Object.{HasDistinctIds}
use Rattle.pp_log_local.proofs.local.Local.len.Goals as goal

pub returns-clause-distinct : goal.returns-clause-distinct
returns-clause-distinct g c = subst (λ z. HasDistinctIds (map item z.1)) c.self.view_is c.len.ensures.distinct
