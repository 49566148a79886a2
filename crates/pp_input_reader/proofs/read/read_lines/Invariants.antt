use Rattle.std.proofs.Common.{◌≡◌, ◌-◌, ℕ, List, length}
use Rattle.std.specs.Io.KnownBytes.{Consumes}
use Rattle.pp_input_reader.specs.declared.read.TheConstants.{LONGEST_PIECE}
use Rattle.pp_input_reader.specs.Takers.{IsAt}
use Rattle.pp_input_reader.proofs.read.read_lines.Given as goal

abbrev pub invariant-pieces : goal.invariant-pieces
invariant-pieces g l = record {
  room : length l.buffer.items ≡ LONGEST_PIECE;
  at : (bytes : List ℕ) × IsAt (g.T.TakesLines.reading l.fn.ticks) bytes l.lines (l.taker, l.ticks) × Consumes (g.S.Source.left l.fn.source) (g.S.Source.left l.source) bytes;
  given : g.T.TakesLines.given l.taker ≡ g.T.TakesLines.given l.fn.taker;
  count : g.S.Source.faults l.source ≡ g.S.Source.faults l.fn.source;
}

abbrev pub decreases-pieces : goal.decreases-pieces
decreases-pieces g l = (g.T.TakesLines.reading l.fn.ticks).limits.bytes - l.lines.reach.bytes
