use Rattle.std.proofs.Common.{IsSome, Some, ap, refl, subst, sym, ◌∙◌}
use Rattle.std.specs.Map.{lookup}
use Rattle.pp_log_shared.specs.Uncommitted.{KeepsOpen, open_in, same_part}
use Rattle.pp_log_shared.proofs.Uncommitted.{kept_unknown, less_at, told_at}
use Rattle.pp_log_shared.proofs.open_parts.OpenParts.take.Goals as goal

pub returns-in-Some : goal.returns-in-Some
returns-in-Some g c = λ x y kept out.
    let o = g.S.Spec.object in
    let label_of = g.S.Parted.label_of in
    let part_of = g.S.Parted.part_of in
    let k = c.part.result in
    let slots = c.args.self.now.slots.entries in
    let lent = c.get_mut.follows.holds c.forget.new.slot in
    let written = lent.3 (subst (λ s. IsSome s) c.in-Some.ensures.value refl) in
    let told = told_at o label_of part_of slots x k (Some c.in-Some.slot.now) (sym c.in-Some.ensures.value) kept in
    less_at o label_of part_of k slots _ x y c.args.entry.now (Some c.forget.new.slot) c.part.ensures c.if-entry.false written.0
    (λ lost. c.forget.ensures (open_in part_of k x) (open_in part_of k y) told lost)
    kept out

pub returns-in_default : goal.returns-in_default
returns-in_default g c = λ x y kept out.
    let o = g.S.Spec.object in
    let label_of = g.S.Parted.label_of in
    let part_of = g.S.Parted.part_of in
    let slots = c.args.self.now.slots.entries in
    let same = ap (λ m. m.entries) c.get_mut.follows.holds-at-none in
    subst (λ s. KeepsOpen o label_of part_of s y) (sym same)
    (kept_unknown o label_of part_of slots x y c.args.entry.now c.if-entry.false
    (ap (λ p. lookup (same_part p) slots) (sym c.part.ensures) ∙ sym c.in_default.ensures.value)
    kept out)
