use Rattle.std.proofs.Common.{w64, rules, to_z, of_z, FitsSigned}
use Rattle.std.proofs.lemmas.Int.{to_z-of_z}
use Rattle.pp_kind_keyed.proofs.Entries.{got_seen, inserted_seen}
use Rattle.pp_kind_keyed.proofs.cells.Cells.insert.Goals as goal
use Rattle.pp_kind_keyed.proofs.cells.Cells.insert.Goals.{in-Ok, in-Err}

pub returns-clause-was : goal.returns-clause-was
returns-clause-was c =
    let fits : FitsSigned w64 c.args.key = search rules in
    elim c.match-insert.branch [
      | in-Ok w ↦ rw w.result-is (got_seen c.self.inside.entries.entries c.args.self.now
          c.args.key (to_z w64 (of_z w64 c.args.key)) w.in-Ok.was c.self.view_is
          (to_z-of_z w64 c.args.key fits) w.in-Ok.ensures.old)
      | in-Err w ↦ rw w.result-is tt
    ]

pub returns-clause-ok : goal.returns-clause-ok
returns-clause-ok c =
    let fits : FitsSigned w64 c.args.key = search rules in
    let number_fits : FitsSigned w64 c.args.number = search rules in
    elim c.match-insert.branch [
      | in-Ok w ↦ rw w.result-is (inserted_seen c.self.inside.entries.entries
          c.insert.new.self.entries c.args.self.now c.args.key
          (to_z w64 (of_z w64 c.args.key)) c.args.number
          (to_z w64 (of_z w64 c.args.number)) c.self.view_is (to_z-of_z w64 c.args.key fits)
          (to_z-of_z w64 c.args.number number_fits) w.in-Ok.ensures.updates.0)
      | in-Err w ↦ rw w.result-is tt
    ]
