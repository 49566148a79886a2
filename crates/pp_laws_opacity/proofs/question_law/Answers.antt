use Rattle.pp_kind.specs.Object.{rules_of}
use Rattle.pp_laws_opacity.proofs.Questions.{all_answered, from_answers}
use Rattle.pp_laws_opacity.proofs.question_law.Goals as goal

pub returns : goal.returns
returns g c = λ shape. λ h ss met run. (all_answered (rules_of g.S.Spec.object shape) h met ss run, from_answers (rules_of g.S.Spec.object shape) h met ss run)
