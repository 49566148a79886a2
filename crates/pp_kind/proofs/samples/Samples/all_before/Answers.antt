use Rattle.std.proofs.Common.{All, sym, subst}
use Rattle.pp_kind.specs.Object.{Swaps}
use Rattle.pp_kind.specs.Parts.{Covers, first_and}
use Rattle.pp_kind.proofs.Standing.{all_before, all_of_both}
use Rattle.pp_kind.proofs.samples.Samples.all_before.Goals as goal

pub returns-then-first_swaps_before : goal.returns-then-first_swaps_before
returns-then-first_swaps_before g c =
    let first = c.self.inside.first in
    let others = c.self.inside.others.items in
    λ all b covered. all_before g.S.Spec.object
    (record {
      ops = first_and first others;
      cut = c.self.inside.cut;
      all_in_clique = c.self.inside.all_in_clique;
    }) c.args.op.now b
    c.if-self.false
    (all_of_both (λ s. Swaps g.S.Spec.object s c.args.op.now) first others
    (c.first_swaps_before.ensures c.if-first_swaps_before.true)
    (subst (All (λ s. Swaps g.S.Spec.object s c.args.op.now)) c.deref.ensures.value
    (c.all_swap_before.ensures all)))
    (subst (λ v. Covers g.S.Spec.object v b) (sym c.self.view_is) covered)
