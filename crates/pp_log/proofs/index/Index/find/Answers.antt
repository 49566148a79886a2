use Rattle.std.proofs.Common.{◌∙◌, ap, subst, nat_eq, position}
use Rattle.pp_log.specs.Index.{IsIndexOf}
use Rattle.pp_log.proofs.index.Index.find.Goals as goal

pub returns-in-Few : goal.returns-in-Few
returns-in-Few c = λ ids h.
    let is = subst (λ z. IsIndexOf z ids) c.in-Few.is h in
    c.look_for.ensures ∙ ap (position (nat_eq c.args.id)) (c.as_slice.ensures.value ∙ is)
