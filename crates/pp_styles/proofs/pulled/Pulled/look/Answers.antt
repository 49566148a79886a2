use Rattle.pp_styles.specs.Dropping.{ids_from, pullings}
use Rattle.pp_styles.proofs.Dropping.{looks_put}
use Rattle.pp_styles.proofs.pulled.Pulled.look.Goals as goal

pub returns-in-Ok : goal.returns-in-Ok
returns-in-Ok g c =
    looks_put c.args.tx.now c.args.entries.now (pullings c.args.self.now) (pullings c.put.new.self) (λ v. ids_from v c.in-Ok.owners.entries) c.in-Ok.ensures c.put.ensures
