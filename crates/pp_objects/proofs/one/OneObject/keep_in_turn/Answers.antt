use Rattle.pp_core.specs.declared.call.Kind.TheVariants as kinds
use Rattle.pp_objects.proofs.Kept.{other_kept, told_kept}
use Rattle.pp_objects.proofs.one.OneObject.keep_in_turn.Goals as goal

pub returns-in-Memory : goal.returns-in-Memory
returns-in-Memory c = told_kept kinds.Memory c.keep_in_turn.result c.args.a.now c.in-Memory.a
    c.args.kept.now c.in-Memory.is c.keep_in_turn.ensures

pub returns-in_default : goal.returns-in_default
returns-in_default c = λ b keeps. other_kept c.args.a.now c.in_default.not-Memory b
