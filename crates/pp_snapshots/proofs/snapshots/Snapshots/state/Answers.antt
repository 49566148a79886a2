use Rattle.std.proofs.Common.{◌∙◌, ap}
use Rattle.pp_kind.specs.Object.{state_after}
use Rattle.pp_model.specs.Sound.{serial_ops}
use Rattle.pp_snapshots.proofs.Takens.{state_is}
use Rattle.pp_snapshots.proofs.snapshots.Snapshots.state.Goals as goal

pub returns : goal.returns
returns g c =
    ap (λ z. z.past.state) c.deref.ensures
    ∙ state_is g.S.Spec.object g.S.Placed.place_of g.S.Placed.SameAt g.met.S.Spec.lawful g.met.S.Placed.placed c.self.inside.parts.value c.self.invariant.0
    ∙ ap (λ z. state_after g.S.Spec.object z.shape (serial_ops z.done)) c.self.view_is
