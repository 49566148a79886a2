use Rattle.std.proofs.Common.{arith, rules, ◌≡◌, ◌≤◌, ℕ}
use Rattle.pp_cmd_judge.proofs.RuleSteps.{serial_few}
use Rattle.pp_cmd_judge.proofs.rules.RuleMachineEngine.commits.Goals as goal

pub returns-clause-few : goal.returns-clause-few
returns-clause-few c =
    let machine = c.args.self.now.machine in
    let number = c.count-count in
    serial_few machine number.ensures.sound number.ensures.short (few machine.count number.result number.ensures.count (search rules))
  where
    few : (count result : ℕ) → result ≡ count → result ≤ 4_294_967_295 → count ≤ 4_294_967_295
    few count result is most = omega (arith, is, most)
