use Rattle.pp_model.proofs.Alone.{alone_attempts, alone_law}
use Rattle.pp_kind.specs.Object.{rules_of}
use Rattle.pp_machine.proofs.laws.alone_law.Goals as goal

pub returns : goal.returns
returns g v = λ shape h ss f r. let O = rules_of g.S.Spec.object shape in (alone_law O h ss f r, alone_attempts O h ss f r)
