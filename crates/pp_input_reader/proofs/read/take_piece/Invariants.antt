use Rattle.std.proofs.Common.{◌≡◌, ◌++◌, ℕ, List, length}
use Rattle.pp_input.specs.Held.{fed}
use Rattle.pp_input.specs.Overruns.{early_lines}
use Rattle.pp_input_reader.specs.Takers.{Follows, IsAt}
use Rattle.pp_input_reader.proofs.read.take_piece.Given as goal

abbrev pub invariant-lines : goal.invariant-lines
invariant-lines g l = record {
  follows : (first : ℕ) (bytes : List ℕ) → IsAt (g.T.TakesLines.reading first) bytes l.fn.lines (l.fn.taker, l.fn.ticks) →
      Follows (g.T.TakesLines.reading first) (early_lines (g.T.TakesLines.reading first).limits (bytes ++ l.fn.piece)) l.lines (l.taker, l.ticks);
  given : g.T.TakesLines.given l.taker ≡ g.T.TakesLines.given l.fn.taker;
  rest : l.lines.rest ≡ (fed l.fn.lines l.fn.piece).rest;
  reach : l.lines.reach ≡ (fed l.fn.lines l.fn.piece).reach;
  fault : l.lines.fault ≡ (fed l.fn.lines l.fn.piece).fault;
  closed : l.lines.closed ≡ (fed l.fn.lines l.fn.piece).closed;
}

abbrev pub decreases-lines : goal.decreases-lines
decreases-lines g l = length l.lines.whole
