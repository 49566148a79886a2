use Rattle.std.proofs.Common.{w64, rules, to_z, of_z, FitsSigned}
use Rattle.std.proofs.lemmas.Int.{to_z-of_z}
use Rattle.pp_kind_set.proofs.Keys.{contained_seen}
use Rattle.pp_kind_set.proofs.members.Members.contains.Goals as goal

pub returns : goal.returns
returns c =
    let fits : FitsSigned w64 c.args.key = search rules in
    contained_seen c.self.inside.keys.keys c.args.self.now c.args.key
    (to_z w64 (of_z w64 c.args.key)) c.contains.result c.self.view_is
    (to_z-of_z w64 c.args.key fits) c.contains.ensures
