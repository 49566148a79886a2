use Rattle.pp_model.proofs.AsWritten.{as_written, from_written}
use Rattle.pp_kind.specs.Object.{rules_of}
use Rattle.pp_machine.proofs.laws.written_law.Goals as goal

pub returns : goal.returns
returns g v = λ shape c. let O = rules_of g.S.Spec.object shape in (as_written O c, from_written O c)
