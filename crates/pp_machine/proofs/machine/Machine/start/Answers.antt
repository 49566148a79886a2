use Rattle.std.proofs.Common.{◌≡◌, ◌+◌, OnOk, Some, length, subst, sym, ◌∙◌}
use Rattle.pp_model.specs.Config.{start_with}
use Rattle.pp_model.specs.Rules.{StartMeets}
use Rattle.pp_kind.specs.Object.{rules_of}
use Rattle.pp_machine.specs.Starting.{JudgesStart, posted}
use Rattle.pp_machine.specs.declared.machine.Outcome.TheVariants.{Done, False}
use Rattle.pp_machine.proofs.Starting.{refused_start, start_shown}
use Rattle.pp_machine.proofs.machine.Machine.start.Goals as goal

pub with_start-requires-clause-meets : goal.with_start-requires-clause-meets
with_start-requires-clause-meets g c =
    subst (λ l. StartMeets (rules_of g.S.Spec.object c.args.self.shape) (Some (start_with c.args.tx l))) (sym c.as_slice.ensures)
    (subst (JudgesStart g.S.Spec.object c.args.self.shape (start_with c.args.tx c.args.items.now)) c.in-Ok.is c.in_ok-judged.ensures.judges).0

pub with_start-requires-clause-log : goal.with_start-requires-clause-log
with_start-requires-clause-log g c =
    subst (λ l. c.in-Ok.shared ≡ (c.args.self.shape, posted c.args.tx l)) (sym c.as_slice.ensures)
    (subst (JudgesStart g.S.Spec.object c.args.self.shape (start_with c.args.tx c.args.items.now)) c.in-Ok.is c.in_ok-judged.ensures.judges).1

pub returns-in-Err-clause-effect : goal.returns-in-Err-clause-effect
returns-in-Err-clause-effect g c =
    refused_start g.S.Spec.object c.args.self (start_with c.args.tx c.args.items.now) c.in-Err.refusal c.refused.result c.refused.ensures (subst (JudgesStart g.S.Spec.object c.args.self.shape (start_with c.args.tx c.args.items.now)) c.in-Err.is c.in_ok-judged.ensures.judges)

pub returns-in-Err-clause-shown : goal.returns-in-Err-clause-shown
returns-in-Err-clause-shown g c =
    start_shown g.S.Spec.object g.met.S.Spec.lawful c.args.self (start_with c.args.tx c.args.items.now) c.requires.asked c.args.self c.refused.result
    (refused_start g.S.Spec.object c.args.self (start_with c.args.tx c.args.items.now) c.in-Err.refusal c.refused.result c.refused.ensures (subst (JudgesStart g.S.Spec.object c.args.self.shape (start_with c.args.tx c.args.items.now)) c.in-Err.is c.in_ok-judged.ensures.judges))

pub returns-in_ok-machine-in-Ok-clause-cost : goal.returns-in_ok-machine-in-Ok-clause-cost
returns-in_ok-machine-in-Ok-clause-cost g c = λ e.
    subst (λ r. OnOk r (c.judge_start.new.ticks ≡ c.args.ticks.now + length c.args.items.now)) c.in-Ok.is c.in_ok-judged.ensures.cost

pub returns-in-Err-clause-cost : goal.returns-in-Err-clause-cost
returns-in-Err-clause-cost g c = λ e. let z : Done ≡ False _ _ = sym e ∙ c.refused.ensures in cc
