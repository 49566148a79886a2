use Rattle.pp_model.proofs.AsWritten.{as_written}
use Rattle.pp_model.proofs.Parted.{views}
use Rattle.pp_kind.specs.Object.{rules_of}
use Rattle.pp_machine.proofs.Keeping.{seen_sound}
use Rattle.pp_machine.proofs.machine.Machine.count.Goals as goal

pub returns-clause-sound : goal.returns-clause-sound
returns-clause-sound g c = seen_sound g.S.Spec.object _ _ c.self.view_is c.self.invariant.sound

pub returns-clause-written : goal.returns-clause-written
returns-clause-written g c = as_written (rules_of g.S.Spec.object c.args.self.now.shape) c.args.self.now.config (seen_sound g.S.Spec.object _ _ c.self.view_is c.self.invariant.sound)

pub returns-clause-views : goal.returns-clause-views
returns-clause-views g c = views (rules_of g.S.Spec.object c.args.self.now.shape) c.args.self.now.config (seen_sound g.S.Spec.object _ _ c.self.view_is c.self.invariant.sound)
