use Rattle.std.proofs.Common.{refl}
use Rattle.pp_records.proofs.Reporting.{plain_input_law}
use Rattle.pp_records.proofs.Restating.{rules_law}
use Rattle.pp_records.proofs.Whole.{one_run_law}
use Rattle.pp_objects.specs.Objects.{kinds_of, place_of}
use Rattle.pp_judge.specs.Objects.{object_of, translation_of}
use Rattle.pp_judge.proofs.law.records_are_steps.Goals as goal

pub returns-clause-one_run : goal.returns-clause-one_run
returns-clause-one_run c = λ header. one_run_law (object_of header) (translation_of header)

pub returns-clause-styled : goal.returns-clause-styled
returns-clause-styled c = λ header. (place_of, header.what.style, kinds_of header.what.catalog, refl)

pub returns-clause-plain : goal.returns-clause-plain
returns-clause-plain c = plain_input_law _ _

pub returns-clause-steps : goal.returns-clause-steps
returns-clause-steps c = λ header. rules_law (object_of header)
