use Rattle.std.proofs.Common.{sym, ◌∙◌}
use Rattle.pp_objects.proofs.Standing.{addition_stands, equal_stands}
use Rattle.pp_objects.proofs.parts.may_stand_for.Goals as goal

pub returns-then-both_add : goal.returns-then-both_add
returns-then-both_add c = λ t. addition_stands c.args.a.now c.args.b.now c.if-a-b.false
    (sym c.both_add.ensures ∙ c.if-both_add.true)

pub returns : goal.returns
returns c = λ t. equal_stands c.args.a.now c.args.b.now c.if-a-b.false (c.is_same.ensures t)
