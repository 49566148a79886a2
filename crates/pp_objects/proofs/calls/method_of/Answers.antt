use Rattle.std.proofs.Common.{IfSome, sym, ◌∙◌, subst, ap}
use Rattle.pp_core.specs.Words.{named, method_word}
use Rattle.pp_objects.specs.Calls.{methods_of, HasMethodNamed}
use Rattle.pp_objects.proofs.Named.{found, none}
use Rattle.pp_objects.proofs.calls.method_of.Goals as goal

pub returns-clause-found : goal.returns-clause-found
returns-clause-found c =
    let is = c.first_named.ensures ∙ ap (λ ms. named method_word ms c.args.word.now) c.methods.ensures in
    subst (λ r. IfSome r (HasMethodNamed c.args.kind c.args.word.now)) (sym is) (found method_word c.args.word.now (methods_of c.args.kind))

pub returns-clause-none : goal.returns-clause-none
returns-clause-none c is_none method =
    let is = c.first_named.ensures ∙ ap (λ ms. named method_word ms c.args.word.now) c.methods.ensures in
    none method_word c.args.word.now (methods_of c.args.kind) method (sym is ∙ is_none)
