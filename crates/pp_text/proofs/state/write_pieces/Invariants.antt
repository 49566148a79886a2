use Rattle.std.proofs.Common.{◌≡◌, ◌++◌, drop}
use Rattle.std.specs.List.{flat_map}
use Rattle.pp_text.specs.Texts.{piece_bytes}
use Rattle.pp_text.proofs.state.write_pieces.Given as goal

abbrev pub invariant-loop-piece : goal.invariant-loop-piece
invariant-loop-piece l = l.text ++ flat_map piece_bytes (drop l.piece-index l.pieces) ≡ l.fn.text ++ flat_map piece_bytes l.pieces
