use Rattle.pp_model.specs.Config.{item}
use Rattle.pp_model.proofs.Lists.{before_map}
use Rattle.pp_machine.proofs.Courses.{mark_kept}
use Rattle.pp_machine.proofs.course.Course.mark.Goals as goal

pub invariant_of-self : goal.invariant_of-self
invariant_of-self g c = mark_kept g.S.Spec.object c.self.inside.walked.walk c.self.inside.walked.log _ c.self.view_is c.self.invariant c.mark.new.self c.args.i c.args.mark (λ e f b. c.len-distinct.ensures.distinct (item e) (item f) (before_map item e f c.self.inside.walked.log.1 b)) c.requires.to_own c.requires.own c.mark.ensures
