use Rattle.std.proofs.Common.{◌≡◌, ℕ, List, Some, Err, ap, ◌∙◌, subst, sym}
use Rattle.pp_input_reader.specs.Takers.{HasInputFault, IfInputFault}
use Rattle.pp_input_reader.specs.declared.stop.Failure.TheVariants.{ReadFault}
use Rattle.pp_input_reader.specs.declared.stop.Stop.TheVariants as stops
use Rattle.pp_judge.specs.Findings.{Finds, RisesAtLeast}
use Rattle.pp_judge.specs.Inputs.{scan_within}
use Rattle.pp_judge.specs.Progresses.{judged_reading}
use Rattle.pp_judge.proofs.Examining.{finding_counted, finds, input_fault, leads_nothing, lines_cost}
use Rattle.pp_judge.proofs.Examining.{reads_sound}
use Rattle.pp_judge.proofs.finding.examine.Goals as goal

pub read_lines-requires : goal.read_lines-requires
read_lines-requires g c = leads_nothing g.J.Judge.judging c.args.ticks.now

-- all lines were taken
pub returns-in-Ok-clause-found : goal.returns-in-Ok-clause-found
returns-in-Ok-clause-found g c =
    let old = g.S.Source.left c.args.source.now in
    let new = g.S.Source.left c.read_lines.new.source in
    let M = g.J.Judge.judging in
    subst (Finds M old new) (sym c.conclude.ensures) (finds M g.met.J.Judge.laws c.args.ticks.now c.read_lines.new.ticks old new c.in-Ok.progress c.in-Ok.ensures.end c.in-Ok.ensures.ok)

-- a line has a fault, or a limit is passed
pub returns-in-Err-Fault-clause-found : goal.returns-in-Err-Fault-clause-found
returns-in-Err-Fault-clause-found g c = λ bytes is.
    let M = g.J.Judge.judging in
    let faulty = subst (λ stop. IfInputFault stop (λ at cause. (bs : List ℕ) → g.S.Source.left c.args.source.now ≡ Some bs → HasInputFault (judged_reading M c.args.ticks.now) bs at cause)) c.in-Err-Fault.field-0-is c.in-Err-Fault.ensures.stop in
    input_fault M g.met.J.Judge.laws c.args.ticks.now bytes c.in-Err-Fault.line c.in-Err-Fault.cause (faulty bytes is)

-- a read failed
pub returns-in-Err-Failure-clause-read_fault : goal.returns-in-Err-Failure-clause-read_fault
returns-in-Err-Failure-clause-read_fault g c = λ failed.
    let same : c.in-Err-Failure.failure ≡ ReadFault = cc in
    let told = c.in-Err-Failure.ensures.read_fault (ap (λ s. Err s) (c.in-Err-Failure.field-0-is ∙ ap (λ f. stops.Failure f) same)) in
    (told.0, reads_sound g.J.Judge.judging g.met.J.Judge.laws c.args.ticks.now (g.S.Source.left c.args.source.now) (g.S.Source.left c.read_lines.new.source) told.1)

-- ---- what the counter shows

pub returns-in-Ok-clause-most : goal.returns-in-Ok-clause-most
returns-in-Ok-clause-most g c = λ bytes is. lines_cost g.J.Judge.judging g.met.J.Judge.laws c.args.ticks.now c.read_lines.new.ticks bytes (c.read_lines.ensures.cost bytes is)

pub returns-in-Err-Fault-clause-most : goal.returns-in-Err-Fault-clause-most
returns-in-Err-Fault-clause-most g c = λ bytes is. lines_cost g.J.Judge.judging g.met.J.Judge.laws c.args.ticks.now c.read_lines.new.ticks bytes (c.read_lines.ensures.cost bytes is)

pub returns-in-Err-Failure-clause-most : goal.returns-in-Err-Failure-clause-most
returns-in-Err-Failure-clause-most g c = λ bytes is. lines_cost g.J.Judge.judging g.met.J.Judge.laws c.args.ticks.now c.read_lines.new.ticks bytes (c.read_lines.ensures.cost bytes is)

pub returns-in-Ok-clause-least : goal.returns-in-Ok-clause-least
returns-in-Ok-clause-least g c = λ bytes is.
    let old = g.S.Source.left c.args.source.now in
    let new = g.S.Source.left c.read_lines.new.source in
    let M = g.J.Judge.judging in
    subst (λ finding. RisesAtLeast M (scan_within M.limits bytes) finding c.args.ticks.now c.read_lines.new.ticks) (sym c.conclude.ensures)
    (finding_counted M g.met.J.Judge.laws c.args.ticks.now c.read_lines.new.ticks old new bytes c.in-Ok.progress c.in-Ok.ensures.end is c.in-Ok.ensures.ok)

pub returns-in-Err-Fault-clause-least : goal.returns-in-Err-Fault-clause-least
returns-in-Err-Fault-clause-least g c = λ bytes is. tt
