use Rattle.pp_kind.specs.Object.{rules_of}
use Rattle.pp_laws_summary.proofs.Replays.{replays}
use Rattle.pp_laws_summary.proofs.swapping_entries_are_replayed.Goals as goal

pub returns : goal.returns
returns g v = λ shape place part tells. replays (rules_of g.S.Spec.object shape) place part tells
