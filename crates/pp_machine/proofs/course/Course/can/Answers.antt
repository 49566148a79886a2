use Rattle.pp_machine.proofs.Courses.{can_is}
use Rattle.pp_machine.proofs.course.Course.can.Goals as goal

pub returns : goal.returns
returns g c = can_is g.S.Spec.object c.self.inside.walked.walk c.self.inside.walked.log _ c.self.view_is c.self.invariant c.can.result c.call.result c.args.op.now c.call.ensures c.can.ensures
