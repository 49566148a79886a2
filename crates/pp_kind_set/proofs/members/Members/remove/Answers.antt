use Rattle.std.proofs.Common.{w64, rules, to_z, of_z, FitsSigned}
use Rattle.std.proofs.lemmas.Int.{to_z-of_z}
use Rattle.pp_kind_set.proofs.Keys.{removed_seen}
use Rattle.pp_kind_set.proofs.members.Members.remove.Goals as goal

pub returns : goal.returns
returns c =
    let fits : FitsSigned w64 c.args.key = search rules in
    removed_seen c.self.inside.keys.keys c.remove.new.self.keys c.args.self.now c.args.key
    (to_z w64 (of_z w64 c.args.key)) c.self.view_is
    (to_z-of_z w64 c.args.key fits) c.remove.ensures.updates.0
