use Rattle.std.proofs.Common.{length, ◌+◌}
use Rattle.pp_kind.specs.Object.{rules_of}
use Rattle.pp_attempts.specs.Views.{Explains}
use Rattle.pp_attempts.proofs.KeptPeaks.{one_least}
use Rattle.pp_attempts.proofs.law.one_view_law.Goals as goal

pub returns : goal.returns
returns g c = λ shape committed items v w.
    one_least (length committed + 1) (Explains (rules_of g.S.Spec.object shape) committed items) v w
