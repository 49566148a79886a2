use Rattle.pp_records.specs.Records.{record_meaning}
use Rattle.pp_styles.specs.States.{hardware_state}
use Rattle.pp_styles.proofs.Arms.{arm_kept, arm_steps}
use Rattle.pp_styles.proofs.any_front.AnyFrontFront.expand.Goals as goal

pub returns-in-Rules-clause-steps : goal.returns-in-Rules-clause-steps
returns-in-Rules-clause-steps g c kinds =
    arm_steps c.args.self.now _ c.in-Rules.is kinds c.args.machine.now.config (record_meaning c.args.recorded.now) c.expand.result g.S.Placed.place_of (c.expand.ensures.steps kinds)

pub returns-in-Boosted-clause-steps : goal.returns-in-Boosted-clause-steps
returns-in-Boosted-clause-steps g c kinds =
    arm_steps c.args.self.now _ c.in-Boosted.is kinds c.args.machine.now.config (record_meaning c.args.recorded.now) c.expand-in-Boosted.result g.S.Placed.place_of (c.expand-in-Boosted.ensures.steps kinds)

pub returns-in-Optimistic-clause-steps : goal.returns-in-Optimistic-clause-steps
returns-in-Optimistic-clause-steps g c kinds =
    arm_steps c.args.self.now _ c.in-Optimistic.is kinds c.args.machine.now.config (record_meaning c.args.recorded.now) c.expand-in-Optimistic.result g.S.Placed.place_of (c.expand-in-Optimistic.ensures.steps kinds)

pub returns-in-Hardware-clause-steps : goal.returns-in-Hardware-clause-steps
returns-in-Hardware-clause-steps g c kinds =
    arm_steps c.args.self.now _ c.in-Hardware.is kinds c.args.machine.now.config (record_meaning c.args.recorded.now) c.expand-in-Hardware.result g.S.Placed.place_of (c.expand-in-Hardware.ensures.steps kinds)

pub returns-in-Dependent-clause-steps : goal.returns-in-Dependent-clause-steps
returns-in-Dependent-clause-steps g c kinds =
    arm_steps c.args.self.now _ c.in-Dependent.is kinds c.args.machine.now.config (record_meaning c.args.recorded.now) c.expand-in-Dependent.result g.S.Placed.place_of (c.expand-in-Dependent.ensures.steps kinds)

pub returns-in-Hardware-clause-kept : goal.returns-in-Hardware-clause-kept
returns-in-Hardware-clause-kept g c kinds =
    arm_kept c.args.self.now _ c.in-Hardware.is kinds c.args.machine.now.config (record_meaning c.args.recorded.now) c.expand-in-Hardware.result (hardware_state c.expand-in-Hardware.new.self) (c.expand-in-Hardware.ensures.kept kinds)
