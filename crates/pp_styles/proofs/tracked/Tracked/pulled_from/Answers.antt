use Rattle.std.proofs.Common.{◌≡◌, true, IfSome, subst}
use Rattle.pp_styles.specs.Dropping.{pullings}
use Rattle.pp_styles.proofs.Tracking.{pulled_here}
use Rattle.pp_styles.proofs.tracked.Tracked.pulled_from.Goals as goal

pub returns : goal.returns
returns g c =
    let t = c.args.tx.now in
    let u = c.args.source.now in
    pulled_here (pullings c.self.inside.pulled.value) c.self.inside.machine _ c.self.view_is c.self.invariant.2 t u (λ r. r.now) c.ids.result
    (subst (λ n. IfSome c.ids.result (λ r. ((pullings n).kept t ≡ true) × (r.now ≡ (pullings n).ids t u))) c.deref.ensures c.ids.ensures)
