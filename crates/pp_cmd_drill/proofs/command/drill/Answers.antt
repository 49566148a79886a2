use Rattle.pp_judge.proofs.Summing.{no_serial, serial_least, serial_most}
use Rattle.pp_cmd_drill.specs.Reports.{drill_scan}
use Rattle.pp_cmd_drill.proofs.command.drill.Goals as goal

pub returns-clause-most : goal.returns-clause-most
returns-clause-most g c =
    serial_most (drill_scan c.args.n) c.in_ok-tally.tally c.in_ok-tally.machine c.in_ok-tally.ensures.running c.args.ticks.now c.machine_behind.new.ticks c.text_of_run.new.ticks c.machine_behind.ensures.most c.text_of_run.ensures.bound

pub returns-in_err-text-clause-most : goal.returns-in_err-text-clause-most
returns-in_err-text-clause-most g c =
    serial_most (drill_scan c.args.n) c.in_ok-tally.tally c.in_ok-tally.machine c.in_ok-tally.ensures.running c.args.ticks.now c.machine_behind.new.ticks c.text_of_run.new.ticks c.machine_behind.ensures.most c.text_of_run.ensures.bound

pub returns-in_err-tally-clause-most : goal.returns-in_err-tally-clause-most
returns-in_err-tally-clause-most g c = no_serial (drill_scan c.args.n) c.args.ticks.now c.machine_behind.new.ticks c.machine_behind.ensures.most

pub returns-clause-least : goal.returns-clause-least
returns-clause-least g c =
    serial_least (drill_scan c.args.n) c.in_ok-tally.tally c.in_ok-tally.machine c.in_ok-tally.ensures.running c.args.ticks.now c.machine_behind.new.ticks c.text_of_run.new.ticks c.in_ok-tally.ensures.least c.in_ok-text.ensures.cost
