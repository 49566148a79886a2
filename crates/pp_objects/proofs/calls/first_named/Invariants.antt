use Rattle.std.proofs.Common.{◌≡◌, drop}
use Rattle.pp_core.specs.Words.{named, method_word}
use Rattle.pp_objects.proofs.calls.first_named.Given as goal

abbrev pub invariant-loop-method : goal.invariant-loop-method
invariant-loop-method l = named method_word (drop l.method-index l.methods) l.word ≡ named method_word l.methods l.word
