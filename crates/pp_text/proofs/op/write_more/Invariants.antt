use Rattle.std.proofs.Common.{◌≡◌, ◌++◌, drop}
use Rattle.pp_text.specs.Texts.{more_bytes}
use Rattle.pp_text.proofs.op.write_more.Given as goal

abbrev pub invariant-loop-number : goal.invariant-loop-number
invariant-loop-number l = l.text ++ more_bytes (drop l.number-index l.numbers) ≡ l.fn.text ++ more_bytes l.numbers
