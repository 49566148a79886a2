use Rattle.std.proofs.Common.{◌∙◌, Some, IsSome, ap, cond, refl, subst, sym}
use Rattle.std.specs.Map.{lookup}
use Rattle.pp_log_shared.specs.Uncommitted.{same_part}
use Rattle.pp_summary.specs.Known.{CoversOf}
use Rattle.pp_summary.proofs.Known.{now_known, still_known}
use Rattle.pp_summary.proofs.own.know.Goals as goal

pub returns-in-Some-clause-keeps : goal.returns-in-Some-clause-keeps
returns-in-Some-clause-keeps g c =
    let lent = c.get_mut.follows.holds c.add.new.self in
    let written = lent.3 (subst (λ s. IsSome s) c.in-Some.ensures.value refl) in
    still_known g.S.Spec.object g.S.Parted.part_of c.args.op.now c.part-part.result c.args.samples.now.entries _ c.add.new.self c.part-part.ensures written.0
    (λ b h. c.add.ensures.keeps b (subst (λ z. CoversOf g.S.Spec.object z b) (sym c.in-Some.ensures.value) h))

pub returns-in-Some-clause-knows : goal.returns-in-Some-clause-knows
returns-in-Some-clause-knows g c =
    let lent = c.get_mut.follows.holds c.add.new.self in
    let written = lent.3 (subst (λ s. IsSome s) c.in-Some.ensures.value refl) in
    now_known g.S.Spec.object g.S.Parted.part_of c.args.op.now c.part-part.result c.args.samples.now.entries _ c.add.new.self c.part-part.ensures written.0 c.add.ensures.covers

pub returns-clause-keeps : goal.returns-clause-keeps
returns-clause-keeps g c =
    let k = c.part-part.result in
    let same = ap (λ m. m.entries) c.get_mut.follows.holds-at-none in
    still_known g.S.Spec.object g.S.Parted.part_of c.args.op.now k c.args.samples.now.entries _ c.add-2.new.self c.part-part.ensures
    (λ q. c.in_ok-insert.ensures.updates.0 q ∙ ap (λ s. cond (same_part k q) (Some c.add-2.new.self) (lookup (same_part q) s)) same)
    (λ b h. absurd (subst (λ z. CoversOf g.S.Spec.object z b) (sym c.in_default.ensures.value) h))

pub returns-clause-knows : goal.returns-clause-knows
returns-clause-knows g c =
    let k = c.part-part.result in
    let same = ap (λ m. m.entries) c.get_mut.follows.holds-at-none in
    now_known g.S.Spec.object g.S.Parted.part_of c.args.op.now k c.args.samples.now.entries _ c.add-2.new.self c.part-part.ensures
    (λ q. c.in_ok-insert.ensures.updates.0 q ∙ ap (λ s. cond (same_part k q) (Some c.add-2.new.self) (lookup (same_part q) s)) same)
    c.add-2.ensures.covers
