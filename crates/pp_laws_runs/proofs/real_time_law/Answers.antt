use Rattle.pp_records.specs.Styles.{translation}
use Rattle.pp_kind.specs.Object.{rules_of}
use Rattle.pp_laws_runs.proofs.Lines.{lines_law, records_law}
use Rattle.pp_laws_runs.proofs.RealTime.{real_time_law}
use Rattle.pp_laws_runs.proofs.real_time_law.Goals as goal

pub returns-clause-steps : goal.returns-clause-steps
returns-clause-steps g c = λ shape. real_time_law (rules_of g.S.Spec.object shape)

pub returns-clause-lines : goal.returns-clause-lines
returns-clause-lines g c = λ shape. lines_law (rules_of g.S.Spec.object shape)

pub returns-clause-records : goal.returns-clause-records
returns-clause-records g c = λ shape place style kinds. records_law (rules_of g.S.Spec.object shape) (translation place style kinds)
