use Rattle.std.proofs.Common.{sym, ◌∙◌}
use Rattle.pp_records.specs.Records.{record_meaning}
use Rattle.pp_styles.proofs.Arms.{arm_steps}
use Rattle.pp_styles.proofs.boxed_front.BoxedFrontFront.expand.Goals as goal

pub returns-clause-steps : goal.returns-clause-steps
returns-clause-steps g c kinds =
    arm_steps c.args.self.now _ (sym (c.deref_mut-front.ensures.value ∙ c.self.view_is)) kinds c.args.machine.now.config (record_meaning c.args.recorded.now) c.expand.result g.S.Placed.place_of (c.expand.ensures.steps kinds)
