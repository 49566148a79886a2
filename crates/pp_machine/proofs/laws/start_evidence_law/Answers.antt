use Rattle.pp_machine.proofs.Starting.{start_evidence_law}
use Rattle.pp_machine.proofs.laws.start_evidence_law.Goals as goal

pub returns : goal.returns
returns g v = λ shape. start_evidence_law g.S.Spec.object g.met.S.Spec.lawful shape
