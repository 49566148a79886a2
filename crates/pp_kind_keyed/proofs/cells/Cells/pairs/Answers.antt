use Rattle.std.proofs.Common.{◌≡◌, ◌∙◌, arith}
use Rattle.std.proofs.lemmas.Grind.{common_steps}
use Rattle.pp_kind_keyed.proofs.Entries.{entries_seen}
use Rattle.pp_kind_keyed.proofs.cells.Cells.pairs.Goals as goal

pub returns : goal.returns
returns c =
    let whole : c.loop-key.pairs ≡ c.self.inside.entries.entries = grind (arith, common_steps) in
    whole ∙ entries_seen c.self.inside.entries.entries c.args.self.now c.self.view_is
    c.iter-key-items.ensures.ordered
