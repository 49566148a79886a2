use Rattle.std.proofs.Common.{◌≡◌, ◌+◌, ◌-◌, ◌<◌, ◌∙◌, ℕ, ap, arith, length, subst, take}
use Rattle.pp_body.specs.Walks.{HasTaken}
use Rattle.pp_summary.specs.Shown.{calls_of}
use Rattle.pp_summary.proofs.Passing.{calls_next}
use Rattle.pp_summary.proofs.open_tx.given_back.Goals as goal

pub back-walk-requires : goal.back-walk-requires
back-walk-requires g c =
    let k : ℕ = c.loop-left.left - 1 in
    let lt : k < length c.args.own.now = omega arith in
    let back : c.loop-left.left ≡ k + 1 = omega arith in
    let n = calls_next g.S.Spec.object c.args.own.now k lt in
    (calls_of g.S.Spec.object (take k c.args.own.now), n.0, subst (HasTaken c.loop-left.walk) (ap (λ m. calls_of g.S.Spec.object (take m c.args.own.now)) back ∙ n.1) c.loop-left.invariant.taken)

pub loop-left-preserved : goal.loop-left-preserved
loop-left-preserved g c =
    let k : ℕ = c.loop-left.left - 1 in
    let lt : k < length c.args.own.now = omega arith in
    let back : c.loop-left.left ≡ k + 1 = omega arith in
    let n = calls_next g.S.Spec.object c.args.own.now k lt in
    record {
      within = omega arith;
      body = c.back-walk.ensures.body ∙ c.loop-left.invariant.body;
      taken =
          c.back-walk.ensures.taken (calls_of g.S.Spec.object (take k c.args.own.now)) n.0
          (subst (HasTaken c.loop-left.walk) (ap (λ m. calls_of g.S.Spec.object (take m c.args.own.now)) back ∙ n.1) c.loop-left.invariant.taken);
    }
