use Rattle.std.proofs.Common.{◌∙◌, ap}
use Rattle.std.specs.List.{slice_set}
use Rattle.std.proofs.lemmas.List.{drop-set-add}
use Rattle.pp_log.proofs.entries.Entries.set.Goals as goal

pub returns-clause-items : goal.returns-clause-items
returns-clause-items g c =
    drop-set-add c.self.inside.front c.self.inside.all.items c.args.i c.args.entry
    ∙ ap (λ v. slice_set v.items c.args.i c.args.entry) c.self.view_is
