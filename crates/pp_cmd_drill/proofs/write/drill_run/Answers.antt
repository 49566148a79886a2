use Rattle.std.proofs.Common.{List, ap, ◌∙◌}
use Rattle.pp_core.specs.declared.step.Step.{Step as StepOf}
use Rattle.pp_objects.specs.declared.act.Op.{Op}
use Rattle.pp_styles.specs.Meanings.{meanings}
use Rattle.pp_cmd_drill.proofs.Writing.{writable}
use Rattle.pp_cmd_drill.proofs.write.drill_run.Goals as goal

pub add_steps-requires : goal.add_steps-requires
add_steps-requires c =
    let list_is = ap (λ (l : List (StepOf Op)). meanings l) c.deref.ensures.value ∙ c.in_ok-steps.ensures in
    writable c.args.n c.in_ok-catalog.catalog (meanings c.deref.result.now) c.requires c.in_ok-catalog.ensures list_is
