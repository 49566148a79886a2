use Rattle.std.proofs.Common.{◌≡◌, ◌∙◌, ◌++◌, [], ap, subst, sym}
use Rattle.pp_model.specs.Config.{start_with}
use Rattle.pp_snapshots.specs.ByPart.{IsListed, ops_in}
use Rattle.pp_snapshots.specs.Held.{Starts}
use Rattle.pp_snapshots.specs.Moving.{as_taken}
use Rattle.pp_snapshots.specs.Shown.{Keeps}
use Rattle.pp_snapshots.proofs.Takens.{listed_after}
use Rattle.pp_snapshots.proofs.Starting.{start_keeps, starts_is}
use Rattle.pp_snapshots.proofs.snapshots.Snapshots.start.Goals as goal

pub invariant_of-result : goal.invariant_of-result
invariant_of-result g c =
    let o = g.S.Spec.object in
    let place = g.S.Placed.place_of in
    let part = g.S.Parted.part_of in
    let v = c.deref_mut.result.now in
    let w = c.start.new.parts in
    let before = subst (Keeps o place) (sym c.deref_mut.ensures.value) c.self.invariant.0 in
    let keeps = start_keeps o place v w (start_with c.args.tx c.args.items.now) c.in_ok-good.good c.in_ok-good.ensures.answers in
    let listed = subst (λ v. IsListed place part v.by_part (ops_in v.past)) (sym c.deref_mut.ensures.value) c.self.invariant.1 in
    let none : v.committed ≡ [] = ap (λ s. s.done) (ap as_taken c.deref_mut.ensures.value ∙ c.self.view_is ∙ c.requires.new) in (
      keeps,
      subst (λ b. IsListed place part b (ops_in w.past)) (sym c.in_ok-good.ensures.index)
          (listed_after o place part v w v.by_part w.committed before keeps (ap (λ l. l ++ w.committed) (sym none)) listed),
    )

pub returns-clause-starts : goal.returns-clause-starts
returns-clause-starts g c =
    let z = start_with c.args.tx c.args.items.now in
    subst (λ s. Starts g.S.Spec.object g.S.Placed.place_of s z c.in_ok-good.good (as_taken c.start.new.parts)) (ap as_taken c.deref_mut.ensures.value ∙ c.self.view_is)
    (starts_is g.S.Spec.object g.S.Placed.place_of c.deref_mut.result.now c.start.new.parts z c.in_ok-good.good c.in_ok-good.ensures.answers)
