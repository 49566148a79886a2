use Rattle.pp_core.specs.declared.call.Kind.TheVariants as kinds
use Rattle.pp_objects.proofs.Kept.{alone_kept, other_kept}
use Rattle.pp_objects.proofs.one.OneObject.keeps_alone.Goals as goal

pub returns-in-Memory : goal.returns-in-Memory
returns-in-Memory c = alone_kept kinds.Memory c.keeps_alone.result c.args.a.now c.in-Memory.a
    c.in-Memory.is c.keeps_alone.ensures

pub returns-in_default : goal.returns-in_default
returns-in_default c = λ alone b. other_kept c.args.a.now c.in_default.not-Memory b
