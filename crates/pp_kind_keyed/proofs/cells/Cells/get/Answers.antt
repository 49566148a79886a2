use Rattle.std.proofs.Common.{◌∙◌, w64, rules, to_z, of_z, FitsSigned}
use Rattle.std.proofs.lemmas.Int.{to_z-of_z}
use Rattle.pp_kind_keyed.proofs.Entries.{got_seen}
use Rattle.pp_kind_keyed.proofs.cells.Cells.get.Goals as goal

pub returns : goal.returns
returns c =
    let fits : FitsSigned w64 c.args.key = search rules in
    got_seen c.self.inside.entries.entries c.args.self.now c.args.key
    (to_z w64 (of_z w64 c.args.key)) c.copied.result c.self.view_is
    (to_z-of_z w64 c.args.key fits)
    (c.copied.ensures ∙ c.get.ensures.value)
