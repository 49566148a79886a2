use Rattle.std.proofs.Common.{sym}
use Rattle.pp_machine.proofs.Courses.{may_follow, takes_still}
use Rattle.pp_machine.proofs.course.Course.append.Goals as goal

pub append_own-requires : goal.append_own-requires
append_own-requires g c =
    let own = sym c.if-is_own.ensures in
    record {
      own = own;
      takes = takes_still g.S.Spec.object c.self.inside.walked.walk c.self.inside.walked.log _ c.self.view_is c.self.invariant c.args.entry c.requires.takes;
      taken = c.self.invariant;
      follows = may_follow g.S.Spec.object c.self.inside.walked.walk c.self.inside.walked.log _ c.self.view_is c.self.invariant c.args.entry.op (c.requires.follows own);
    }
