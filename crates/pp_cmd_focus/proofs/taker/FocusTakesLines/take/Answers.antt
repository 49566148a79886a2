use Rattle.std.proofs.Common.{ℕ}
use Rattle.std.proofs.lemmas.Result.{err_from_is_err_and}
use Rattle.pp_input.specs.Lines.{NumberedLine}
use Rattle.pp_input_reader.specs.Takers.{StopsWith}
use Rattle.pp_cmd_focus.specs.Taking.{focus_reading}
use Rattle.pp_cmd_focus.proofs.Focusing.{focus_counts, focus_on, focus_stops, on_err}
use Rattle.pp_cmd_focus.proofs.taker.FocusTakesLines.take.Goals as goal

-- the line is not taken
pub returns-in_err-progress-clause-stop : goal.returns-in_err-progress-clause-stop
returns-in_err-progress-clause-stop g c =
    let line : NumberedLine = (c.args.line.now.number, c.args.line.now.text) in
    let p = err_from_is_err_and c.from_residual.result c.from_residual.ensures.1 in
    rw (p.1, p.2) (λ first. focus_stops first c.args.ticks.now c.args.self line c.in_err-progress.field-0.0 (c.in_err-progress.ensures.stop first))

-- it is taken, and what is written of it is refused memory
pub returns-in_err-write_line-clause-cost : goal.returns-in_err-write_line-clause-cost
returns-in_err-write_line-clause-cost g c =
    let line : NumberedLine = (c.args.line.now.number, c.args.line.now.text) in
    let counts : (first : ℕ) → StopsWith (focus_reading first) (c.args.self, c.args.ticks.now) line c.take.new.ticks =
    λ first. focus_counts first c.args.ticks.now c.args.self line c.in_ok-progress.progress c.take.new.ticks (c.in_ok-progress.ensures.ok first) in
    on_err _ _ counts

-- it is taken
pub returns-clause-ok : goal.returns-clause-ok
returns-clause-ok g c =
    let line : NumberedLine = (c.args.line.now.number, c.args.line.now.text) in
    let written = rw c.bytes.ensures at c.in_ok-write_line.ensures in
    λ first. focus_on first c.args.ticks.now c.args.self line c.in_ok-progress.progress c.take.new.ticks _ (c.in_ok-progress.ensures.ok first) written
