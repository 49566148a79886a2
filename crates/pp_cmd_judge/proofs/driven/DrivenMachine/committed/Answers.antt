use Rattle.std.proofs.Common.{◌≡◌, ◌<◌, ◌∙◌, length, subst, sym, ap, arith, rules, ◌≤◌, ℕ}
use Rattle.pp_kind.specs.declared.range.TheConstants.{MOST_OPERATIONS}
use Rattle.pp_model.specs.Sound.{serial_ops}
use Rattle.pp_cmd_judge.proofs.RuleSteps.{serial_few}
use Rattle.pp_cmd_judge.proofs.driven.DrivenMachine.committed.Goals as goal

pub returns-clause-few : goal.returns-clause-few
returns-clause-few c =
    let machine = c.machine-machine.result.now in
    let number = c.count-count in
    subst (λ m. length (serial_ops m.config.done) < MOST_OPERATIONS) c.machine-machine.ensures
    (serial_few machine number.ensures.sound number.ensures.short (few machine.count number.result number.ensures.count (search rules)))
  where
    few : (count result : ℕ) → result ≡ count → result ≤ 4_294_967_295 → count ≤ 4_294_967_295
    few count result is most = omega (arith, is, most)
