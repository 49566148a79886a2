use Rattle.pp_objects.specs.Objects.{objects}
use Rattle.pp_objects.specs.laws.Objects.{objects_lawful}
use Rattle.pp_kind.proofs.Places.{swaps_nowhere}
use Rattle.pp_objects.proofs.objects.ObjectsSpec.swaps.Goals as goal

pub returns-clause-never : goal.returns-clause-never
returns-clause-never c = λ f. swaps_nowhere objects objects_lawful c.args.a.now c.args.b.now
    (λ h. let t = c.may_swap.ensures.1 h in cc)
