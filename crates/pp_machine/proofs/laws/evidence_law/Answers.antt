use Rattle.pp_machine.proofs.Telling.{evidence_law}
use Rattle.pp_machine.proofs.laws.evidence_law.Goals as goal

pub returns : goal.returns
returns g v = λ shape. evidence_law g.S.Spec.object g.met.S.Spec.lawful shape
