use Rattle.std.proofs.Common.{◌≡◌, ◌∙◌, sym, w64, rules, to_z, of_z, FitsSigned, Some, None, length}
use Rattle.std.proofs.Common.{ap, arith}
use Rattle.std.proofs.lemmas.Int.{to_z-of_z}
use Rattle.pp_kind_priority.specs.Copies.{spread}
use Rattle.pp_kind_priority.proofs.Copies.{room, added_seen}
use Rattle.pp_kind_priority.proofs.bag.Bag.add.Goals as goal
use Rattle.pp_kind_priority.proofs.bag.Bag.add.Goals.{in-Some, in-None, in-Ok, in-Err}

pub overflow_add-further : goal.overflow_add-further
overflow_add-further c =
    let es = c.self.inside.further.entries in
    let fewer = room (to_z w64 (of_z w64 c.args.value)) es c.in-Some.further
    (sym (c.copied.ensures ∙ c.get.ensures.value) ∙ c.in-Some.is) in
    let seen : length (spread es) ≡ length c.args.self.now = ap length c.self.view_is in
    let few = c.requires.room in
    search (rules, fewer, seen, few)

pub returns-clause-ok : goal.returns-clause-ok
returns-clause-ok c =
    let fits : FitsSigned w64 c.args.value = search rules in
    let es = c.self.inside.further.entries in
    let found = sym (c.copied.ensures ∙ c.get.ensures.value) in
    elim c.match-insert.branch [
      | in-Ok w ↦ rw w.result-is (elim c.match-copied.branch [
        | in-Some s ↦ added_seen es c.insert.new.self.entries c.args.self.now c.args.value
            (to_z w64 (of_z w64 c.args.value)) (Some s.in-Some.further) c.match-copied.further
            c.self.view_is (to_z-of_z w64 c.args.value fits) c.insert.ensures.was_ordered
            (found ∙ s.in-Some.is) (let e = s.further-is in omega arith) w.in-Ok.ensures.entries
        | in-None s ↦ added_seen es c.insert.new.self.entries c.args.self.now c.args.value
            (to_z w64 (of_z w64 c.args.value)) None c.match-copied.further
            c.self.view_is (to_z-of_z w64 c.args.value fits) c.insert.ensures.was_ordered
            (found ∙ s.in-None.is) s.further-is w.in-Ok.ensures.entries
      ])
      | in-Err w ↦ rw w.result-is tt
    ]
