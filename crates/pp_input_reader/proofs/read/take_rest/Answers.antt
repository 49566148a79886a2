use Rattle.std.proofs.Common.{◌≡◌, ◌∙◌, None, Some, option_map, ap, rules, sym}
use Rattle.std.proofs.lemmas.Result.{IfErr-weaker, IfOk-weaker, on_err_weaker}
use mathlib.Core.Logic.{inl}
use Rattle.pp_input.specs.declared.lines.Line.{Line}
use Rattle.pp_input.specs.Held.{Held, after_next, finished, next_line}
use Rattle.pp_input.specs.Lines.{NumberedLine}
use Rattle.pp_input.specs.Overruns.{scanned_lines}
use Rattle.pp_input_reader.proofs.Takers.{fault_here, follows_done, follows_fault, follows_is_next, follows_next}
use Rattle.pp_input_reader.proofs.Takers.{follows_stop, if_fault, one_rest_line, rest_follows}
use Rattle.pp_input_reader.proofs.Takers.{rest_limits, within_lines}
use Rattle.pp_input_reader.proofs.read.take_rest.Goals as goal

pub take-requires : goal.take-requires
take-requires g c =
    let (first, bytes, is) = c.requires in
    let R = g.T.TakesLines.reading first in
    let held = c.args.lines.now in
    let line : NumberedLine = (c.in-Some.line.number, c.in-Some.line.text) in
    let next : next_line (finished held) ≡ Some line = ap next_line (sym c.finish.ensures.after) ∙ sym c.in-Some.ensures.line in
    let follows = rest_follows R bytes held (c.args.taker, c.args.ticks.now) is in (
      first,
      follows_is_next R (scanned_lines R.limits bytes) (finished held) (c.args.taker, c.args.ticks.now) follows line next
          (within_lines c.finish.new.self.reach (finished held).reach R.limits line.0 (ap (λ (h : Held). h.reach) c.finish.ensures.after) (rest_limits R bytes held (c.args.taker, c.args.ticks.now) is) c.in-Some.ensures.number.2) c.in-Some.ensures.number.3,
    )

-- there is a last line
pub returns-in-Some-clause-ok : goal.returns-in-Some-clause-ok
returns-in-Some-clause-ok g c =
    let held = c.args.lines.now in
    let line : NumberedLine = (c.in-Some.line.number, c.in-Some.line.text) in
    let next : next_line (finished held) ≡ Some line = ap next_line (sym c.finish.ensures.after) ∙ sym c.in-Some.ensures.line in
    IfOk-weaker c.take.result _ _ (λ to on first bytes is.
    let R = g.T.TakesLines.reading first in
    let lines = scanned_lines R.limits bytes in
    let follows = rest_follows R bytes held (c.args.taker, c.args.ticks.now) is in
    let follows' = follows_next R lines (finished held) (c.args.taker, c.args.ticks.now) follows line (to, c.take.new.ticks) next (on first) in
    follows_done R lines (after_next (finished held)) (to, c.take.new.ticks) follows' (one_rest_line R.limits bytes held is.took))
    c.take.ensures.ok

pub returns-in-Some-clause-stop : goal.returns-in-Some-clause-stop
returns-in-Some-clause-stop g c =
    let held = c.args.lines.now in
    let line : NumberedLine = (c.in-Some.line.number, c.in-Some.line.text) in
    let next : next_line (finished held) ≡ Some line = ap next_line (sym c.finish.ensures.after) ∙ sym c.in-Some.ensures.line in
    IfErr-weaker c.take.result _ _ (λ stop stops first.
    let R = g.T.TakesLines.reading first in
    if_fault stop _ _ (λ at fault faulty bytes is.
    let follows = rest_follows R bytes held (c.args.taker, c.args.ticks.now) is in
    let early = follows_fault R (scanned_lines R.limits bytes) (finished held) (c.args.taker, c.args.ticks.now) follows line at fault next faulty in
    inl (fault_here R (scanned_lines R.limits bytes) at fault early))
    (stops first))
    c.take.ensures.stop

pub returns-in-Some-clause-cost : goal.returns-in-Some-clause-cost
returns-in-Some-clause-cost g c =
    let held = c.args.lines.now in
    let line : NumberedLine = (c.in-Some.line.number, c.in-Some.line.text) in
    let next : next_line (finished held) ≡ Some line = ap next_line (sym c.finish.ensures.after) ∙ sym c.in-Some.ensures.line in
    on_err_weaker c.take.result (λ stops first bytes is.
    let R = g.T.TakesLines.reading first in
    let follows = rest_follows R bytes held (c.args.taker, c.args.ticks.now) is in
    follows_stop R (scanned_lines R.limits bytes) (finished held) (c.args.taker, c.args.ticks.now) line c.take.new.ticks follows next (stops first))
    c.take.ensures.cost

-- there is none
pub returns-in-None-clause-ok : goal.returns-in-None-clause-ok
returns-in-None-clause-ok g c = λ first bytes is.
    let R = g.T.TakesLines.reading first in
    let held = c.args.lines.now in
    let numbered : Line → NumberedLine = λ line. (line.number, line.text) in
    let none : c.next.result ≡ None = search rules in
    let left : next_line (finished held) ≡ None = ap next_line (sym c.finish.ensures.after) ∙ sym c.next.ensures.line ∙ ap (option_map numbered) none in
    follows_done R (scanned_lines R.limits bytes) (finished held) (c.args.taker, c.args.ticks.now) (rest_follows R bytes held (c.args.taker, c.args.ticks.now) is) left
