use Rattle.std.proofs.Common.{◌≡◌, ◌++◌, None, option_map, refl, sym, ap, ◌∙◌, subst, rules}
use Rattle.std.proofs.lemmas.Result.{err_from_is_err_and}
use mathlib.Core.Logic.{inl}
use Rattle.pp_input.specs.declared.lines.Line.{Line}
use Rattle.pp_input.specs.Held.{fed, next_line}
use Rattle.pp_input.specs.Lines.{NumberedLine}
use Rattle.pp_input.specs.Overruns.{early_lines}
use Rattle.pp_input_reader.specs.Takers.{Follows, IsAt}
use Rattle.pp_input_reader.proofs.Takers.{counts_all, counts_before, counts_early, follows_done, follows_fault}
use Rattle.pp_input_reader.proofs.Takers.{follows_is_next, follows_next, follows_stop, if_fault, next_keeps}
use Rattle.pp_input_reader.proofs.Takers.{none_left, on_err, piece_follows, piece_limits, piece_passes}
use Rattle.pp_input_reader.proofs.Takers.{piece_taken, within_lines}
use Rattle.pp_input_reader.proofs.read.take_piece.Goals as goal

pub lines-init : goal.lines-init
lines-init g c =
    let piece = c.args.piece.now in
    let held = c.args.lines.now in
    let is_fed = c.in_ok-limit.ensures.fed.0 in
    record {
      follows = λ first bytes is.
          let R = g.T.TakesLines.reading first in
          subst (λ h. Follows R (early_lines R.limits (bytes ++ piece)) h (c.args.taker, c.args.ticks.now)) (sym is_fed) (piece_follows R bytes piece held (c.args.taker, c.args.ticks.now) is);
      given = refl;
      rest = ap (λ h. h.rest) is_fed;
      reach = ap (λ h. h.reach) is_fed;
      fault = ap (λ h. h.fault) is_fed;
      closed = ap (λ h. h.closed) is_fed;
    }

pub take-requires : goal.take-requires
take-requires g c =
    let (first, bytes, is) = c.requires in
    let line : NumberedLine = (c.in-Some.line.number, c.in-Some.line.text) in
    let follows = c.lines.invariant.follows first bytes is in (
      first,
      follows_is_next (g.T.TakesLines.reading first) (early_lines (g.T.TakesLines.reading first).limits (bytes ++ c.args.piece.now)) c.lines.lines (c.lines.taker, c.lines.ticks) follows line (sym c.in-Some.ensures.line)
          (within_lines c.lines.lines.reach (fed c.args.lines.now c.args.piece.now).reach (g.T.TakesLines.reading first).limits line.0 c.lines.invariant.reach (piece_limits (g.T.TakesLines.reading first) bytes c.args.piece.now c.args.lines.now (c.args.taker, c.args.ticks.now) is) c.in-Some.ensures.number.2) c.in-Some.ensures.number.3,
    )

pub lines-preserved : goal.lines-preserved
lines-preserved g c =
    let held = c.lines.lines in
    let line : NumberedLine = (c.in-Some.line.number, c.in-Some.line.text) in
    let is = sym c.in-Some.ensures.line in
    let after = c.in-Some.ensures.after in
    let kept = next_keeps held in
    let inv = c.lines.invariant in
    record {
      follows = λ first bytes at.
          let R = g.T.TakesLines.reading first in
          let all = early_lines R.limits (bytes ++ c.args.piece.now) in
          subst (λ h. Follows R all h (c.in_ok-taker.taker, c.take.new.ticks)) (sym after) (follows_next R all held (c.lines.taker, c.lines.ticks) (inv.follows first bytes at) line (c.in_ok-taker.taker, c.take.new.ticks) is (c.in_ok-taker.ensures.ok first));
      given = c.in_ok-taker.ensures.given ∙ inv.given;
      rest = ap (λ h. h.rest) after ∙ kept.0 ∙ inv.rest;
      reach = ap (λ h. h.reach) after ∙ kept.1 ∙ inv.reach;
      fault = ap (λ h. h.fault) after ∙ kept.2 ∙ inv.fault;
      closed = ap (λ h. h.closed) after ∙ kept.3 ∙ inv.closed;
    }

-- nothing was taken
pub returns-in_err-limit-clause-cost : goal.returns-in_err-limit-clause-cost
returns-in_err-limit-clause-cost g c =
    let R = g.T.TakesLines.reading in
    let now = c.args.ticks.now in
    on_err c.from_residual.result _ (λ first bytes is.
    counts_before (R first) bytes c.args.piece.now now (counts_early (R first) bytes now (counts_all (R first) (early_lines (R first).limits bytes) c.args.taker now is.leads)))

-- a line of the piece has a fault
pub returns-in_err-taker-clause-stop : goal.returns-in_err-taker-clause-stop
returns-in_err-taker-clause-stop g c =
    let R = g.T.TakesLines.reading in
    let p = err_from_is_err_and c.from_residual-in_err-taker.result c.from_residual-in_err-taker.ensures.1 in
    let line : NumberedLine = (c.in-Some.line.number, c.in-Some.line.text) in
    rw (p.1, p.2) (λ first. if_fault c.in_err-taker.field-0.0 _ _
    (λ at fault faulty bytes is.
    inl (follows_fault (R first) (early_lines (R first).limits (bytes ++ c.args.piece.now)) c.lines.lines (c.lines.taker, c.lines.ticks) (c.lines.invariant.follows first bytes is) line at fault (sym c.in-Some.ensures.line) faulty))
    (c.in_err-taker.ensures.stop first))

pub returns-in_err-taker-clause-cost : goal.returns-in_err-taker-clause-cost
returns-in_err-taker-clause-cost g c =
    let R = g.T.TakesLines.reading in
    let line : NumberedLine = (c.in-Some.line.number, c.in-Some.line.text) in
    let new = c.take.new.ticks in
    on_err c.from_residual-in_err-taker.result _ (λ first bytes is.
    let bytes' = bytes ++ c.args.piece.now in
    let follows = c.lines.invariant.follows first bytes is in
    counts_early (R first) bytes' new (follows_stop (R first) (early_lines (R first).limits bytes') c.lines.lines (c.lines.taker, c.lines.ticks) line new follows (sym c.in-Some.ensures.line) (c.in_err-taker.ensures.cost first)))

-- each line of the piece was taken
pub returns-in-None-clause-ok : goal.returns-in-None-clause-ok
returns-in-None-clause-ok g c = λ first bytes is.
    let R = g.T.TakesLines.reading first in
    let piece = c.args.piece.now in
    let inv = c.lines.invariant in
    let numbered : Line → NumberedLine = λ line. (line.number, line.text) in
    let none : c.next.result ≡ None = search rules in
    let left : next_line c.lines.lines ≡ None = sym c.next.ensures.line ∙ ap (option_map numbered) none in
    let passed = c.in_ok-limit.ensures.fed.1 ∙ c.in-None.is in
    subst (λ h. IsAt R (bytes ++ piece) h (c.lines.taker, c.lines.ticks)) (sym (c.next.ensures.after ∙ none_left c.lines.lines left))
    (piece_taken R bytes piece c.args.lines.now (c.args.taker, c.args.ticks.now) is c.lines.lines (c.lines.taker, c.lines.ticks) passed (inv.follows first bytes is) left inv.rest inv.reach inv.fault inv.closed)

-- and behind them the piece passes a limit
pub returns-in-Some-limit-clause-stop : goal.returns-in-Some-limit-clause-stop
returns-in-Some-limit-clause-stop g c = λ first.
    let R = g.T.TakesLines.reading first in
    let piece = c.args.piece.now in
    let numbered : Line → NumberedLine = λ line. (line.number, line.text) in
    let none : c.next.result ≡ None = search rules in
    let left : next_line c.lines.lines ≡ None = sym c.next.ensures.line ∙ ap (option_map numbered) none in
    if_fault c.stop_at_limit.result _ _ (λ at fault said bytes is.
    let leads = follows_done R (early_lines R.limits (bytes ++ piece)) c.lines.lines (c.lines.taker, c.lines.ticks) (c.lines.invariant.follows first bytes is) left in
    piece_passes R bytes piece c.args.lines.now (c.args.taker, c.args.ticks.now) is (c.lines.taker, c.lines.ticks) c.in-Some-limit.limit at fault (c.in_ok-limit.ensures.fed.1 ∙ c.in-Some-limit.is) (said first) leads)
    c.stop_at_limit.ensures.fault

pub returns-in-Some-limit-clause-cost : goal.returns-in-Some-limit-clause-cost
returns-in-Some-limit-clause-cost g c = λ first bytes is.
    let R = g.T.TakesLines.reading first in
    let lines = early_lines R.limits (bytes ++ c.args.piece.now) in
    let numbered : Line → NumberedLine = λ line. (line.number, line.text) in
    let none : c.next.result ≡ None = search rules in
    let left : next_line c.lines.lines ≡ None = sym c.next.ensures.line ∙ ap (option_map numbered) none in
    let leads = follows_done R lines c.lines.lines (c.lines.taker, c.lines.ticks) (c.lines.invariant.follows first bytes is) left in
    counts_early R (bytes ++ c.args.piece.now) c.lines.ticks (counts_all R lines c.lines.taker c.lines.ticks leads)
