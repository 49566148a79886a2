use Rattle.std.proofs.Common.{◌∙◌, ap}
use Rattle.pp_certificate_checker.proofs.Logs.{on_ok, entry_logged, unchanged_logged}
use Rattle.pp_certificate_checker.proofs.entry.try_entry.Goals as goal
use Rattle.pp_certificate_checker.proofs.entry.try_entry.Goals.{in-Done+in_ok-push-in-Done, in-Differs}

pub returns-clause-log : goal.returns-clause-log
returns-clause-log g c = elim c.match-branch-2.branch [
  | in-Done+in_ok-push-in-Done w ↦
      let a = rw w.in-Done.is at c.in_ok-apply.ensures.applied in
      on_ok _ c.match-branch-2.result (entry_logged g.S.Spec.object g.met.S.Spec.lawful
      c.args.state.now c.apply.new.state c.args.list.now.items c.match-branch-2.list.items
      c.args.item c.requires.log c.requires.fits c.requires.ranged a.0 a.2
      (ap (λ v. v.items) w.list-is ∙ w.in_ok-push-in-Done.ensures.items))
  | in-Differs w ↦
      let a = rw w.in-Differs.is at c.in_ok-apply.ensures.applied in
      on_ok _ c.match-branch-2.result (unchanged_logged g.S.Spec.object c.args.state.now
      c.apply.new.state c.args.list.now.items c.match-branch-2.list.items c.requires.log a.1
      (ap (λ v. v.items) w.list-is))
]
