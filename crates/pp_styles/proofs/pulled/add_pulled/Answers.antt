use Rattle.std.proofs.Common.{◌≡◌}
use Rattle.pp_styles.specs.Dropping.{ids_from}
use Rattle.pp_styles.proofs.Dropping.{adds_pulled}
use Rattle.pp_styles.proofs.Looking.{on_ok}
use Rattle.pp_styles.proofs.pulled.add_pulled.Goals as goal

pub returns : goal.returns
returns g c =
    on_ok c.add_to.result c.add_to.ensures (λ is. adds_pulled c.args.entry.now (λ v. ids_from v c.args.owners.now.entries) _ is)
