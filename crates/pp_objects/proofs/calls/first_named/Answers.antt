use Rattle.std.proofs.Common.{◌≡◌, true, false, get_or, rules}
use Rattle.std.specs.Str.{bytes_eq}
use Rattle.pp_core.specs.Words.{method_word}
use Rattle.pp_core.specs.declared.call.Method.TheVariants.{Read}
use Rattle.pp_objects.proofs.Named.{ends, goes_on}
use Rattle.pp_objects.proofs.calls.first_named.Goals as goal

pub returns-then-eq : goal.returns-then-eq
returns-then-eq c =
    let it = get_or c.args.methods.now c.loop-method.method-index Read in
    let is : bytes_eq c.args.word.now (method_word it) ≡ true = search rules in
    ends method_word c.args.word.now c.args.methods.now c.loop-method.method-index Read _ c.loop-method-test.true is c.loop-method.invariant

pub loop-method-preserved : goal.loop-method-preserved
loop-method-preserved c =
    let it = get_or c.args.methods.now c.loop-method.method-index Read in
    let is_not : bytes_eq c.args.word.now (method_word it) ≡ false = search rules in
    goes_on method_word c.args.word.now c.args.methods.now c.loop-method.method-index Read _ c.loop-method-test.true is_not c.loop-method.invariant
