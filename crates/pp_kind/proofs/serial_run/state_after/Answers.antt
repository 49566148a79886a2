use Rattle.std.proofs.Common.{arith}
use Rattle.std.proofs.lemmas.List.{length-map}
use Rattle.pp_model.specs.Object.{ops}
use Rattle.pp_kind.proofs.Replays.{begins}
use Rattle.pp_kind.proofs.serial_run.state_after.Goals as goal

pub replay-requires-clause-allowed : goal.replay-requires-clause-allowed
replay-requires-clause-allowed g c =
    let l = c.args.entries.now in
    (begins g.S.Spec.object g.met.S.Spec.lawful c.args.shape.now (ops l) c.in_ok-after.after
    c.in_ok-after.ensures c.requires.allowed c.requires.ranged
    (omega (arith, length-map l (λ p. p.op), c.requires.few))).allowed

pub replay-requires-clause-reached : goal.replay-requires-clause-reached
replay-requires-clause-reached g c =
    let l = c.args.entries.now in
    let start = begins g.S.Spec.object g.met.S.Spec.lawful c.args.shape.now (ops l)
    c.in_ok-after.after c.in_ok-after.ensures c.requires.allowed c.requires.ranged
    (omega (arith, length-map l (λ p. p.op), c.requires.few)) in
    (start.before, start.log, omega (arith, start.few, length-map l (λ p. p.op)))
