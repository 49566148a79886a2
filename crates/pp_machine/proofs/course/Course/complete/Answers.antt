use Rattle.pp_machine.proofs.Courses.{complete_is}
use Rattle.pp_machine.proofs.course.Course.complete.Goals as goal

pub returns : goal.returns
returns g c = complete_is g.S.Spec.object c.self.inside.walked.walk c.self.inside.walked.log _ c.self.view_is c.self.invariant c.complete.result c.complete.ensures
