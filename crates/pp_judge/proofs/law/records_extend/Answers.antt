use Rattle.pp_records.proofs.Pushing.{pushall_law}
use Rattle.pp_records.proofs.Reporting.{input_law}
use Rattle.pp_records.proofs.Restating.{restated_law}
use Rattle.pp_records.proofs.Taking.{back_law, pulls_law}
use Rattle.pp_records.proofs.Whole.{extends_law}
use Rattle.pp_input_reader.specs.declared.cause.Cause.TheVariants.{TooManySteps}
use Rattle.pp_judge.specs.Objects.{object_of, setting_of, translation_of}
use Rattle.pp_judge.proofs.law.records_extend.Goals as goal

pub returns-clause-extends : goal.returns-clause-extends
returns-clause-extends c = λ header. extends_law (object_of header) (translation_of header)

pub returns-clause-restated : goal.returns-clause-restated
returns-clause-restated c = λ header. restated_law (object_of header) (translation_of header)

pub returns-clause-input : goal.returns-clause-input
returns-clause-input c = input_law setting_of TooManySteps

pub returns-clause-back : goal.returns-clause-back
returns-clause-back c = λ header. back_law (object_of header)

pub returns-clause-pulls : goal.returns-clause-pulls
returns-clause-pulls c = λ header. pulls_law (object_of header)

pub returns-clause-pushall : goal.returns-clause-pushall
returns-clause-pushall c = λ header. pushall_law (object_of header)
