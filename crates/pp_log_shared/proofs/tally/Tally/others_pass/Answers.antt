use Rattle.std.proofs.Common.{sym, ◌∙◌}
use Rattle.pp_log_shared.proofs.Counting.{all_pass, each_passes}
use Rattle.pp_log_shared.proofs.tally.Tally.others_pass.Goals as goal

pub returns-then-each_passes : goal.returns-then-each_passes
returns-then-each_passes c = λ _ _ n more.
    let own = c.args.own.now in
    let numbers = c.args.self.now.numbers in
    all_pass c.args.gate own numbers
    (each_passes c.args.gate own numbers (sym c.each_passes.ensures ∙ c.if-each_passes.true)) n more

pub returns-else-each_passes : goal.returns-else-each_passes
returns-else-each_passes c = λ yes _ n more.
    all_pass c.args.gate c.args.own.now c.args.self.now.numbers
    (sym c.each_passes_or_is_own.ensures ∙ yes) n more
