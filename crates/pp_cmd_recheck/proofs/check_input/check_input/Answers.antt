use Rattle.std.proofs.Common.{◌≡◌, ℕ, List, Some, Err, ap, ◌∙◌, subst}
use Rattle.pp_input_reader.specs.Takers.{HasInputFault, IfInputFault}
use Rattle.pp_input_reader.specs.declared.stop.Failure.TheVariants.{ReadFault}
use Rattle.pp_input_reader.specs.declared.stop.Stop.TheVariants as stops
use Rattle.pp_certificate_lines.specs.Takers.{check_reading}
use Rattle.pp_certificate_lines.proofs.Takers.{leads_nothing}
use Rattle.pp_cmd_recheck.proofs.CheckedInputs.{all_cost, all_found, counted, fault_found}
use Rattle.pp_cmd_recheck.proofs.CheckedInputs.{reads_no_fault}
use Rattle.pp_cmd_recheck.proofs.check_input.check_input.Goals as goal

pub read_lines-requires : goal.read_lines-requires
read_lines-requires g c = leads_nothing c.args.ticks.now c.new.result c.new.ensures.covers

-- All lines were taken.
pub returns-in_ok-input-in-Ok-clause-found : goal.returns-in_ok-input-in-Ok-clause-found
returns-in_ok-input-in-Ok-clause-found g c =
    all_found c.args.ticks.now c.read_lines.new.ticks (g.S.Source.left c.args.source.now)
    (g.S.Source.left c.read_lines.new.source) c.in-Ok.checking c.in-Ok.ensures.ok
    c.in-Ok.ensures.end c.in_ok-input-in-Ok.input c.in_ok-input-in-Ok.ensures.found

-- A line is refused, or a limit is exceeded.
pub returns-in-Err-Fault-clause-found : goal.returns-in-Err-Fault-clause-found
returns-in-Err-Fault-clause-found g c = λ bytes is.
    let left = g.S.Source.left c.args.source.now in
    let faulty = subst (λ stop. IfInputFault stop (λ at fault. (bs : List ℕ) → g.S.Source.left c.args.source.now ≡ Some bs → HasInputFault (check_reading c.args.ticks.now) bs at fault)) c.in-Err-Fault.field-0-is c.in-Err-Fault.ensures.stop in
    fault_found c.args.ticks.now left c.in-Err-Fault.line c.in-Err-Fault.fault faulty bytes is

-- A read failed.
pub returns-in-Err-Failure-clause-read_fault : goal.returns-in-Err-Failure-clause-read_fault
returns-in-Err-Failure-clause-read_fault g c = λ failed.
    let same : c.in-Err-Failure.failure ≡ ReadFault = cc in
    let told = c.in-Err-Failure.ensures.read_fault (ap (λ s. Err s) (c.in-Err-Failure.field-0-is ∙ ap (λ f. stops.Failure f) same)) in
    (told.0, reads_no_fault c.args.ticks.now (g.S.Source.left c.args.source.now) (g.S.Source.left c.read_lines.new.source) told.1)

-- ---- what the counter shows

pub returns-in_ok-input-in-Ok-clause-most : goal.returns-in_ok-input-in-Ok-clause-most
returns-in_ok-input-in-Ok-clause-most g c = λ bytes is.
    all_cost c.args.ticks.now c.read_lines.new.ticks (g.S.Source.left c.args.source.now)
    (g.S.Source.left c.read_lines.new.source) c.in-Ok.checking c.in-Ok.ensures.ok
    c.in-Ok.ensures.end c.close_checking.new.ticks c.close_checking.ensures.bound bytes is

pub returns-in_err-input-in-Ok-clause-most : goal.returns-in_err-input-in-Ok-clause-most
returns-in_err-input-in-Ok-clause-most g c = λ bytes is.
    all_cost c.args.ticks.now c.read_lines.new.ticks (g.S.Source.left c.args.source.now)
    (g.S.Source.left c.read_lines.new.source) c.in-Ok.checking c.in-Ok.ensures.ok
    c.in-Ok.ensures.end c.close_checking.new.ticks c.close_checking.ensures.bound bytes is

pub returns-in-Err-Fault-clause-most : goal.returns-in-Err-Fault-clause-most
returns-in-Err-Fault-clause-most g c = λ bytes is.
    counted c.args.ticks.now c.read_lines.new.ticks bytes (c.read_lines.ensures.cost bytes is)

pub returns-in-Err-Failure-clause-most : goal.returns-in-Err-Failure-clause-most
returns-in-Err-Failure-clause-most g c = λ bytes is.
    counted c.args.ticks.now c.read_lines.new.ticks bytes (c.read_lines.ensures.cost bytes is)

pub returns-in_ok-input-in-Ok-clause-least : goal.returns-in_ok-input-in-Ok-clause-least
returns-in_ok-input-in-Ok-clause-least g c =
    c.in_ok-input-in-Ok.ensures.least c.args.ticks.now c.in-Ok.ensures.ok.3.2
