use Rattle.std.proofs.Common.{length, arith, subst, sym, ◌∙◌, List}
use Rattle.pp_model.specs.Config.{CommittedTx}
use Rattle.pp_model.specs.Lists.{In}
use Rattle.pp_model.specs.Sound.{serial_ops}
use Rattle.pp_attempts.specs.Peaks.{IdsTell, Peak}
use Rattle.pp_attempts.specs.Trying.{IsUntried, MayRun}
use Rattle.pp_attempts.specs.Views.{Pairwise}
use Rattle.pp_attempts.proofs.Viewing.{few_alone}
use Rattle.pp_attempts.proofs.view.explain.Goals as goal

pub untried-requires : goal.untried-requires
untried-requires g c = λ p i.
    let few = (c.requires.may p (subst (λ (w : List (Peak _)). In p w) c.as_slice.ensures i)).few in
    omega (arith, few)

pub number_all-requires-clause-runs : goal.number_all-requires-clause-runs
number_all-requires-clause-runs g c =
    let o = g.S.Spec.object in
    let D = c.args.committed.now in
    subst (λ (w : List (CommittedTx _)). MayRun o c.args.shape.now w c.as_slice-2.result.now) (sym c.as_slice-committed.ensures)
    (subst (λ (w : List (Peak _)). MayRun o c.args.shape.now D w) (sym c.as_slice-2.ensures) (record {
      allowed = c.requires.allowed;
      ranged = c.requires.ranged;
      few = few_alone (length (serial_ops D)) c.args.peaks.now (λ none. c.if-len-eq0.false (c.len.ensures ∙ none))
          (λ p i. (c.requires.may p i).few);
      may = c.requires.may;
    }))

pub number_all-requires-clause-untried : goal.number_all-requires-clause-untried
number_all-requires-clause-untried g c =
    subst (λ (w : List (Peak _)). Pairwise IsUntried w c.in_ok-views.views.items) (c.as_slice.ensures ∙ sym c.as_slice-2.ensures) c.in_ok-views.ensures

pub number_all-requires-clause-ids : goal.number_all-requires-clause-ids
number_all-requires-clause-ids g c = subst (λ (w : List (Peak _)). IdsTell w) (sym c.as_slice-2.ensures) c.requires.ids
