use Rattle.std.proofs.Common.{w64, rules, to_z, of_z, FitsSigned}
use Rattle.std.proofs.lemmas.Int.{to_z-of_z}
use Rattle.pp_kind_set.proofs.Keys.{inserted_seen}
use Rattle.pp_kind_set.proofs.members.Members.insert.Goals as goal
use Rattle.pp_kind_set.proofs.members.Members.insert.Goals.{in-Ok, in-Err}

pub returns-clause-ok : goal.returns-clause-ok
returns-clause-ok c =
    let fits : FitsSigned w64 c.args.key = search rules in
    elim c.match-insert.branch [
      | in-Ok w ↦ rw w.result-is (inserted_seen c.self.inside.keys.keys c.insert.new.self.keys
          c.args.self.now c.args.key (to_z w64 (of_z w64 c.args.key)) c.self.view_is
          (to_z-of_z w64 c.args.key fits) w.in-Ok.ensures.updates.0)
      | in-Err w ↦ rw w.result-is tt
    ]
