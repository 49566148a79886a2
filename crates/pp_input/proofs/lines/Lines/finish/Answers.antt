use Rattle.std.proofs.Common.{rules}
use Rattle.pp_input.proofs.Reading.{hands_after}
use Rattle.pp_input.proofs.lines.Lines.finish.Goals as goal

pub returns-then-not-is_empty-clause-input : goal.returns-then-not-is_empty-clause-input
returns-then-not-is_empty-clause-input c = λ limits bytes out took. hands_after limits bytes out c.args.self.now _ took c.requires.sound (search rules)

pub returns-else-not-is_empty-clause-input : goal.returns-else-not-is_empty-clause-input
returns-else-not-is_empty-clause-input c = λ limits bytes out took. hands_after limits bytes out c.args.self.now _ took c.requires.sound (search rules)
