use Rattle.pp_log_local.proofs.Searching.{refuted_by_lists}
use Rattle.pp_log_local.proofs.movers.is_refuted.Goals as goal

pub returns : goal.returns
returns g c =
    let law = g.met.S.Spec.lawful.unrefuted c.args.a.now c.args.b.now in
    refuted_by_lists c.swaps.result (g.S.Spec.object.refuting c.args.a.now c.args.b.now) (λ t. law.1 (c.swaps.ensures.swaps t)) (λ n. c.swaps.ensures.only (law.0 n))
