use Rattle.std.proofs.Common.{◌≡◌, cond, ◌∙◌, rules}
use Rattle.pp_model.specs.Names.{◌=ⁿ◌}
use Rattle.pp_opacity.specs.Attempts.{excluded_in, least_in}
use Rattle.pp_opacity.proofs.Choices.{cond_same}
use Rattle.pp_opacity.proofs.attempts.apply.Goals as goal

pub returns-clause-least : goal.returns-clause-least
returns-clause-least g c = λ t.
    let old = least_in t c.args.attempts.now.entries in
    let k : least_in t c.insert.new.self.entries ≡ cond (c.args.tx.now =ⁿ t) old old = search rules in
    k ∙ cond_same (c.args.tx.now =ⁿ t) old

pub returns-clause-excluded : goal.returns-clause-excluded
returns-clause-excluded g c = λ t.
    let old = excluded_in t c.args.attempts.now.entries in
    let k : excluded_in t c.insert.new.self.entries ≡ cond (c.args.tx.now =ⁿ t) old old = search rules in
    k ∙ cond_same (c.args.tx.now =ⁿ t) old
