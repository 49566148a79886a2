-- Meaning: the steps that a list of written steps means.
use Rattle.std.specs.Prelude.{List, map}
use Rattle.pp_core.specs.declared.step.Step.{Step as StepOf}
use Rattle.pp_core.specs.Steps.{Step, meaning}

abbrev pub meanings : {Op : Type 0} → List (StepOf Op) → List (Step Op)
meanings list = map meaning list
