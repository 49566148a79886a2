use Rattle.std.proofs.Common.{◌≡◌, ◌∙◌, ◌-◌, suc, sym, w64, rules, to_z, of_z, FitsSigned, Some, ap}
use Rattle.std.proofs.Common.{arith}
use Rattle.std.proofs.lemmas.Int.{to_z-of_z}
use Rattle.pp_kind_priority.proofs.Copies.{gone_seen, last_seen, fewer_seen}
use Rattle.pp_kind_priority.proofs.bag.Bag.remove.Goals as goal
use Rattle.pp_kind_priority.proofs.bag.Bag.remove.Goals.{in-Ok, in-Err}

pub returns-in-None-clause-ok : goal.returns-in-None-clause-ok
returns-in-None-clause-ok c =
    let fits : FitsSigned w64 c.args.value = search rules in
    gone_seen c.self.inside.further.entries c.args.self.now c.args.value
    (to_z w64 (of_z w64 c.args.value)) c.self.view_is (to_z-of_z w64 c.args.value fits)
    (sym (c.copied.ensures ∙ c.get.ensures.value) ∙ c.in-None.is)

pub returns-then-further-eq0-clause-ok : goal.returns-then-further-eq0-clause-ok
returns-then-further-eq0-clause-ok c =
    let fits : FitsSigned w64 c.args.value = search rules in
    last_seen c.self.inside.further.entries c.remove.new.self.entries c.args.self.now
    c.args.value (to_z w64 (of_z w64 c.args.value)) c.self.view_is
    (to_z-of_z w64 c.args.value fits)
    (sym (c.copied.ensures ∙ c.get.ensures.value) ∙ c.in-Some.is ∙ ap Some c.if-further-eq0.true)
    c.remove.ensures.entries

pub returns-clause-ok : goal.returns-clause-ok
returns-clause-ok c =
    let fits : FitsSigned w64 c.args.value = search rules in
    let more : c.in-Some.further ≡ suc (c.in-Some.further - 1) =
    let h = c.if-further-eq0.false in omega arith in
    elim c.match-insert.branch [
      | in-Ok w ↦ rw w.result-is (fewer_seen c.self.inside.further.entries
          c.insert.new.self.entries c.args.self.now c.args.value
          (to_z w64 (of_z w64 c.args.value)) (c.in-Some.further - 1) c.self.view_is
          (to_z-of_z w64 c.args.value fits) c.insert.ensures.was_ordered
          (sym (c.copied.ensures ∙ c.get.ensures.value) ∙ c.in-Some.is ∙ ap Some more)
          w.in-Ok.ensures.entries)
      | in-Err w ↦ rw w.result-is tt
    ]
