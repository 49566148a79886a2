use Rattle.pp_kind.specs.Object.{rules_of}
use Rattle.pp_cmd_swaps.proofs.Logs.{log_law}
use Rattle.pp_cmd_swaps.proofs.law.log_law.Goals as goal

pub returns : goal.returns
returns g c = λ shape. log_law (rules_of g.S.Spec.object shape)
