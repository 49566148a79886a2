use Rattle.pp_cmd_recheck.proofs.Telling.{can_report, told_end, told_least, told_output, told_sound, told_status}
use Rattle.pp_cmd_recheck.proofs.command.recheck.Goals as goal

pub report-requires : goal.report-requires
report-requires g c =
    can_report (g.S.Source.left c.args.source.now) (g.S.Source.left c.check_input.new.source)
    c.in_ok-input.input c.in_ok-input.ensures.found

pub returns-clause-output : goal.returns-clause-output
returns-clause-output g c = λ bytes is.
    told_output (g.S.Source.left c.args.source.now) (g.S.Source.left c.check_input.new.source)
    c.in_ok-input.input c.in_ok-answer.answer.0 c.in_ok-answer.answer.1
    c.in_ok-input.ensures.found c.in_ok-answer.ensures bytes is

pub returns-clause-status : goal.returns-clause-status
returns-clause-status g c =
    told_status c.in_ok-input.input c.in_ok-answer.answer.0 c.in_ok-answer.answer.1
    c.in_ok-answer.ensures

pub returns-clause-end : goal.returns-clause-end
returns-clause-end g c =
    told_end (g.S.Source.left c.args.source.now) (g.S.Source.left c.check_input.new.source)
    c.in_ok-input.input c.in_ok-answer.answer.0 c.in_ok-answer.answer.1
    c.in_ok-input.ensures.found c.in_ok-answer.ensures

pub returns-clause-checked : goal.returns-clause-checked
returns-clause-checked g c =
    told_sound (g.S.Source.left c.args.source.now) (g.S.Source.left c.check_input.new.source)
    c.in_ok-input.input c.in_ok-answer.answer.0 c.in_ok-answer.answer.1
    c.in_ok-input.ensures.found c.in_ok-answer.ensures

pub returns-clause-least : goal.returns-clause-least
returns-clause-least g c =
    told_least (g.S.Source.left c.args.source.now) (g.S.Source.left c.check_input.new.source)
    c.in_ok-input.input c.in_ok-answer.answer.0 c.in_ok-answer.answer.1
    c.in_ok-input.ensures.found c.in_ok-answer.ensures c.args.ticks.now c.check_input.new.ticks
    c.in_ok-input.ensures.least
