use Rattle.std.proofs.Common.{Some, ap}
use Rattle.pp_input_reader.specs.declared.cause.Cause.TheVariants as causes
use Rattle.pp_input_reader.specs.Limits.{limit_fault}
use Rattle.pp_input_reader.proofs.read.stop_at_limit.Goals as goal

pub returns-in-TooLong-clause-fault : goal.returns-in-TooLong-clause-fault
returns-in-TooLong-clause-fault g c = λ first. (causes.TooLong, ap (λ limit. limit_fault (Some limit)) c.in-TooLong.is, c.at_limit.ensures first)

pub returns-in-TooManyLines-clause-fault : goal.returns-in-TooManyLines-clause-fault
returns-in-TooManyLines-clause-fault g c = λ first. (causes.TooManyLines, ap (λ limit. limit_fault (Some limit)) c.in-TooManyLines.is, c.at_limit-in-TooManyLines.ensures first)

pub returns-in-LineTooLong-clause-fault : goal.returns-in-LineTooLong-clause-fault
returns-in-LineTooLong-clause-fault g c = λ first. (causes.LineTooLong, ap (λ limit. limit_fault (Some limit)) c.in-LineTooLong.is, c.at_limit-in-LineTooLong.ensures first)
