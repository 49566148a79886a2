use Rattle.std.proofs.Common.{w64, rules, to_z, of_z, FitsSigned}
use Rattle.std.proofs.lemmas.Int.{to_z-of_z}
use Rattle.pp_kind_keyed.proofs.Entries.{got_seen, removed_seen}
use Rattle.pp_kind_keyed.proofs.cells.Cells.remove.Goals as goal

pub returns-clause-was : goal.returns-clause-was
returns-clause-was c =
    let fits : FitsSigned w64 c.args.key = search rules in
    got_seen c.self.inside.entries.entries c.args.self.now c.args.key
    (to_z w64 (of_z w64 c.args.key)) c.remove.result c.self.view_is
    (to_z-of_z w64 c.args.key fits) c.remove.ensures.value

pub returns-clause-out : goal.returns-clause-out
returns-clause-out c =
    let fits : FitsSigned w64 c.args.key = search rules in
    removed_seen c.self.inside.entries.entries c.remove.new.self.entries c.args.self.now c.args.key
    (to_z w64 (of_z w64 c.args.key)) c.self.view_is
    (to_z-of_z w64 c.args.key fits) c.remove.ensures.updates.0
