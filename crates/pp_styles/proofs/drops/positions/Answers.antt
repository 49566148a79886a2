use Rattle.std.proofs.Common.{◌+◌, ◌∙◌, ap, arith, subst, sym, take, take_all}
use Rattle.std.proofs.lemmas.List.Sorted.{Contains-permutation}
use Rattle.pp_model.specs.Lists.{In}
use Rattle.pp_styles.specs.Dropping.{HoldsLocal}
use Rattle.pp_styles.proofs.Dropping.{local_next, no_local_next}
use Rattle.pp_styles.proofs.drops.positions.Goals as goal
use Rattle.pp_styles.proofs.drops.positions.Goals.{in-Some+in_ok-push, in_default}

pub loop-id-preserved : goal.loop-id-preserved
loop-id-preserved g c = elim c.match-find.branch [
  | in-Some+in_ok-push w ↦
      subst (λ v. HoldsLocal (take (c.loop-id.id-index + 1) c.args.ids.now) c.args.local.now.1 v)
      (sym (ap (λ v. v.items) w.at-is ∙ w.in_ok-push.ensures.items))
      (local_next c.args.local.now.1 c.len-distinct.ensures.distinct c.args.ids.now c.loop-id.at.items c.loop-id.id-index _ c.loop-id-test.true c.loop-id.invariant w.in-Some.position (sym w.in-Some.is ∙ c.find.ensures))
  | in_default w ↦
      subst (λ v. HoldsLocal (take (c.loop-id.id-index + 1) c.args.ids.now) c.args.local.now.1 v.items)
      (sym w.at-is)
      (no_local_next c.args.local.now.1 c.len-distinct.ensures.distinct c.args.ids.now c.loop-id.at.items c.loop-id.id-index _ c.loop-id-test.true c.loop-id.invariant (sym w.in_default.is ∙ c.find.ensures))
]

pub returns : goal.returns
returns g c = (
  c.in_ok-sort.ensures.sorted,
  λ k e here i.
      Contains-permutation c.loop-id.at.items c.sort.new.self.items k c.in_ok-sort.ensures.permutation
      (c.loop-id.invariant k e here (subst (λ w. In e.id w) (sym (take_all c.loop-id.id-index c.args.ids.now (omega (arith, c.loop-id-test.false)))) i)),
)
