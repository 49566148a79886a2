use Rattle.std.proofs.Common.{◌∙◌}
use Rattle.pp_model.specs.Config.{tx}
use Rattle.pp_records.specs.declared.run_record.RunRecord.TheVariants as written
use Rattle.pp_styles.specs.States.{dependent_state}
use Rattle.pp_styles.proofs.Keeping.{at_record, forgotten, whenever}
use Rattle.pp_styles.proofs.SameFronts.{same_front}
use Rattle.pp_styles.proofs.dependent.DependentFront.expand.Goals as goal

pub returns-in_ok-list-in-Retry-clause-kept : goal.returns-in_ok-list-in-Retry-clause-kept
returns-in_ok-list-in-Retry-clause-kept g c kinds =
    let t = c.in-Retry.tx in
    at_record (dependent_state kinds c.args.self.now) c.args.machine.now.config _ c.args.recorded.now (written.Retry t) c.in-Retry.is
    (same_front _ _ (c.forget.ensures kinds ∙ forgotten kinds c.args.self.now t (tx t c.args.machine.now.config.opened)))

pub returns-in_ok-depend-in-Depend-clause-kept : goal.returns-in_ok-depend-in-Depend-clause-kept
returns-in_ok-depend-in-Depend-clause-kept g c kinds =
    whenever c.only.result
    (at_record (dependent_state kinds c.args.self.now) c.args.machine.now.config _ c.args.recorded.now (written.Depend c.in-Depend.tx c.in-Depend.source) c.in-Depend.is
    (same_front _ _ (c.in_ok-depend-in-Depend.ensures kinds)))

pub returns-in_ok-give_up-in-DropSource-clause-kept :
    goal.returns-in_ok-give_up-in-DropSource-clause-kept
returns-in_ok-give_up-in-DropSource-clause-kept g c kinds =
    whenever c.drop_steps.result
    (at_record (dependent_state kinds c.args.self.now) c.args.machine.now.config _ c.args.recorded.now (written.DropSource c.in-DropSource.tx c.in-DropSource.source) c.in-DropSource.is
    (c.in_ok-give_up-in-DropSource.ensures kinds))
