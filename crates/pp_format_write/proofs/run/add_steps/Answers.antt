use Rattle.pp_format_write.proofs.RunTexts.{one_more, writable_at}
use Rattle.pp_format_write.proofs.run.add_steps.Goals as goal

pub add_step-requires : goal.add_step-requires
add_step-requires c = writable_at c.args.catalog.now c.args.steps.now c.loop-step.step-index c.step-item.result c.requires c.loop-step-test.true c.step-item.is

pub loop-step-preserved : goal.loop-step-preserved
loop-step-preserved c =
    one_more c.args.catalog.now c.args.steps.now c.loop-step.step-index c.step-item.result c.args.text.now c.loop-step.text c.add_step.new.text
    c.loop-step.invariant c.in_ok-add_step.ensures c.loop-step-test.true c.step-item.is
