use Rattle.pp_model.proofs.Serial.{may_run_serially, same_state}
use Rattle.pp_kind.proofs.Places.{tells_states}
use Rattle.pp_kind.specs.Object.{rules_of}
use Rattle.pp_machine.proofs.Keeping.{seen_allowed, seen_ranged, seen_sound}
use Rattle.pp_machine.proofs.machine.Machine.committed.Goals as goal

pub returns-clause-allowed : goal.returns-clause-allowed
returns-clause-allowed g c = seen_allowed g.S.Spec.object _ _ c.self.view_is c.self.invariant.sound

pub returns-clause-ranged : goal.returns-clause-ranged
returns-clause-ranged g c = seen_ranged g.S.Spec.object _ _ c.self.view_is c.self.invariant.serial_ranged

pub returns-clause-serial : goal.returns-clause-serial
returns-clause-serial g c = may_run_serially (rules_of g.S.Spec.object c.args.self.now.shape) c.args.self.now.config (seen_sound g.S.Spec.object _ _ c.self.view_is c.self.invariant.sound)

pub returns-clause-state : goal.returns-clause-state
returns-clause-state g c =
    same_state (rules_of g.S.Spec.object c.args.self.now.shape) (tells_states g.S.Spec.object g.met.S.Spec.lawful c.args.self.now.shape) c.args.self.now.config
    (seen_sound g.S.Spec.object _ _ c.self.view_is c.self.invariant.sound)
