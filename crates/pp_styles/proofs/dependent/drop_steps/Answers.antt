use Rattle.pp_model.specs.Config.{tx}
use Rattle.pp_styles.proofs.Tracking.{pulled_local}
use Rattle.pp_styles.proofs.dependent.drop_steps.Goals as goal

pub unpull_from-requires : goal.unpull_from-requires
unpull_from-requires g c =
    let v = c.trim_pulled.new.self in
    pulled_local v.shape c.in-Some.local.now (tx c.args.tx.now v.config.opened) c.args.source.now (λ r. r.now) c.pulled_from.result c.in-Some.ensures c.pulled_from.ensures
