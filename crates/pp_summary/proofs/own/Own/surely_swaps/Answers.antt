use Rattle.std.proofs.Common.{◌≡◌, ◌∙◌, ap, arith, false, subst, sym, true}
use Rattle.std.specs.Map.{lookup}
use Rattle.pp_summary.specs.Filtered.{MayHave}
use Rattle.pp_summary.specs.Passing.{LetPass}
use Rattle.pp_log_shared.specs.Uncommitted.{same_part}
use Rattle.pp_summary.proofs.Filtered.{none_alike}
use Rattle.pp_summary.proofs.Known.{none_of_part, samples_let}
use Rattle.pp_summary.proofs.own.Own.surely_swaps.Goals as goal

pub returns-then-not-may_have : goal.returns-then-not-may_have
returns-then-not-may_have g c = λ _.
    subst (λ l. LetPass g.S.Spec.object g.S.Placed.place_of l c.args.op.now) c.self.view_is
    (none_alike g.S.Spec.object g.S.Parted.part_of g.met.S.Parted.parted g.S.Placed.place_of c.args.op.now c.self.inside.items c.self.inside.filter c.self.invariant.0
    (λ k. let z : false ≡ true = sym c.if-not-may_have.true ∙ c.may_have.ensures.1 (subst (λ p. MayHave c.self.inside.filter p) (sym c.part-part.ensures) k) in cc))

pub returns-in-None : goal.returns-in-None
returns-in-None g c = λ _.
    let slots = c.self.inside.samples.entries in
    subst (λ l. LetPass g.S.Spec.object g.S.Placed.place_of l c.args.op.now) c.self.view_is
    (none_of_part g.S.Spec.object g.S.Parted.part_of g.met.S.Parted.parted g.S.Placed.place_of c.args.op.now slots c.self.inside.items (c.self.invariant.1 (omega arith))
    (ap (λ p. lookup (same_part p) slots) (sym c.part-part.ensures) ∙ sym c.in-None.ensures.value))

pub returns-in-Some : goal.returns-in-Some
returns-in-Some g c = λ yes.
    let slots = c.self.inside.samples.entries in
    subst (λ l. LetPass g.S.Spec.object g.S.Placed.place_of l c.args.op.now) c.self.view_is
    (samples_let g.S.Spec.object g.S.Parted.part_of g.met.S.Parted.parted g.S.Placed.place_of c.args.op.now slots c.self.inside.items (c.self.invariant.1 (omega arith)) c.in-Some.known.now
    (ap (λ p. lookup (same_part p) slots) (sym c.part-part.ensures) ∙ sym c.in-Some.ensures.value) (c.all_before.ensures yes))
