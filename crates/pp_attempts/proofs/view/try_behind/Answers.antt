use Rattle.std.proofs.Common.{subst, sym}
use Rattle.pp_attempts.specs.Trying.{IsStateAt, MayBeNumbered}
use Rattle.pp_attempts.proofs.Leaving.{no_effect, same_round}
use Rattle.pp_attempts.proofs.view.try_behind.Goals as goal

pub returns-then-entries-eq0-clause-tried : goal.returns-then-entries-eq0-clause-tried
returns-then-entries-eq0-clause-tried g c = λ ps shape committed before may is at behind h.
    let o = g.S.Spec.object in
    same_round o ps shape committed before c.args.number c.args.state.now c.args.views.now.items is at
    (subst (λ s. IsStateAt o shape committed c.args.number s) (no_effect o ps c.args.state.now c.args.entries.now c.if-entries-eq0.true) behind) h

pub try_all-requires-clause-candidates : goal.try_all-requires-clause-candidates
try_all-requires-clause-candidates g c =
    let r = c.requires.candidates in
    (r.0, subst (λ s. MayBeNumbered g.S.Spec.object s r.0 c.args.views.now.items c.args.candidates.now) (sym c.in_ok-apply_committed.ensures.state) r.1)
