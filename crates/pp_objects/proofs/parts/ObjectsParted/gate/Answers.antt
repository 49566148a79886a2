use Rattle.pp_objects.specs.One.{one}
use Rattle.pp_objects.specs.laws.One.{one_lawful}
use Rattle.pp_objects.specs.laws.Places.{swap_by}
use Rattle.pp_objects.proofs.parts.ObjectsParted.gate.Goals as goal

pub returns : goal.returns
returns c = λ a here passed.
    swap_by one one_lawful a c.args.op.now (λ e. c.gate.ensures a.act here passed)
