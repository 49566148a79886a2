use Rattle.std.proofs.Common.{◌∙◌, ap, refl, subst, sym}
use Rattle.pp_summary.specs.Shown.{KeepsQuick, Kept, as_held}
use Rattle.pp_summary.proofs.Fresh.{fresh_keeps, fresh_shown}
use Rattle.pp_summary.proofs.HeldOf.{apart_of}
use Rattle.pp_summary.proofs.Taking.{same_held}
use Rattle.pp_summary.proofs.quick.Quick.new.Goals as goal

pub invariant_of-result : goal.invariant_of-result
invariant_of-result g c =
    let apart = apart_of g.S.Spec.object g.S.Placed.place_of g.S.Placed.SameAt g.met.S.Placed.placed in
    subst (λ z. KeepsQuick g.S.Spec.object g.S.Placed.place_of z) (sym c.in_ok-parts.ensures.ok)
    (fresh_keeps g.S.Spec.object g.S.Placed.place_of apart _ c.new-2.ensures.empty c.new-3.ensures.empty c.new-4.ensures c.in_ok-shared.ensures c.new-5.ensures c.new-6.ensures.items)

pub returns : goal.returns
returns g c =
    let apart = apart_of g.S.Spec.object g.S.Placed.place_of g.S.Placed.SameAt g.met.S.Placed.placed in
    let v : Kept g.row.S-Shape.Denot g.row.S-Op.Denot = record {
      alloc = c.args.alloc;
      shape = c.args.shape;
      slots = c.new-2.result;
      threads = c.new-3.result;
      ids = c.new-4.result;
      shared = c.in_ok-shared.shared;
      committed = c.new-5.result;
      commits = c.new-6.result;
      count = 0;
    } in
    ap (as_held g.S.Placed.place_of) c.in_ok-parts.ensures.ok
    ∙ same_held _ _ _ _ _ _ refl (fresh_shown g.S.Spec.object g.S.Placed.place_of apart v c.new-2.ensures.empty c.new-3.ensures.empty c.new-4.ensures c.in_ok-shared.ensures c.new-5.ensures c.new-6.ensures.items) refl
