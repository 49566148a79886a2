use Rattle.std.proofs.Common.{◌∙◌, ap, drop, take}
use Rattle.std.proofs.lemmas.List.{drop-take}
use Rattle.pp_log.proofs.entries.Entries.truncate.Goals as goal

pub returns-clause-items : goal.returns-clause-items
returns-clause-items g c =
    ap (λ x. drop c.self.inside.front x) c.truncate.ensures.items
    ∙ drop-take c.self.inside.front c.args.len c.self.inside.all.items
    ∙ ap (λ v. take c.args.len v.items) c.self.view_is
