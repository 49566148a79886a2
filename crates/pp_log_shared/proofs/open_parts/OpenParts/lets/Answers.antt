use Rattle.std.proofs.Common.{sym, ap, ◌∙◌}
use Rattle.std.specs.Map.{lookup}
use Rattle.pp_model.proofs.Names.{names-true}
use Rattle.pp_log_shared.specs.Uncommitted.{same_part}
use Rattle.pp_log_shared.proofs.Uncommitted.{none_in_the_way, none_left, numbers_swap, owner_alone}
use Rattle.pp_log_shared.proofs.Uncommitted.{samples_swap}
use Rattle.pp_log_shared.proofs.open_parts.OpenParts.lets.Goals as goal

pub returns-in_default : goal.returns-in_default
returns-in_default g c = λ _ x kept.
    none_in_the_way g.S.Spec.object g.S.Parted.label_of g.S.Parted.part_of g.met.S.Parted.parted c.args.owner.now c.args.op.now c.args.self.now.slots.entries x
    (ap (λ p. lookup (same_part p) c.args.self.now.slots.entries) (sym c.part-part.ensures) ∙ sym c.in_default.ensures.value) kept

pub returns-then-slot-eq0 : goal.returns-then-slot-eq0
returns-then-slot-eq0 g c = λ _ x kept.
    none_left g.S.Spec.object g.S.Parted.label_of g.S.Parted.part_of g.met.S.Parted.parted c.args.owner.now c.args.op.now c.args.self.now.slots.entries x c.in-Some.slot.now
    (ap (λ p. lookup (same_part p) c.args.self.now.slots.entries) (sym c.part-part.ensures) ∙ sym c.in-Some.ensures.value) c.if-slot-eq0.true kept

pub returns-then-same : goal.returns-then-same
returns-then-same g c = λ _ x kept.
    owner_alone g.S.Spec.object g.S.Parted.label_of g.S.Parted.part_of g.met.S.Parted.parted c.args.owner.now c.args.op.now c.args.self.now.slots.entries x c.in-Some.slot.now
    (ap (λ p. lookup (same_part p) c.args.self.now.slots.entries) (sym c.part-part.ensures) ∙ sym c.in-Some.ensures.value)
    c.if-slot.true (names-true c.in-Some.slot.now.owner c.args.owner.now (sym c.same.ensures ∙ c.if-same.true)) kept

pub returns-then-all_before : goal.returns-then-all_before
returns-then-all_before g c = λ _ x kept.
    samples_swap g.S.Spec.object g.S.Parted.label_of g.S.Parted.part_of g.met.S.Parted.parted c.args.owner.now c.args.op.now c.args.self.now.slots.entries x c.in-Some.slot.now
    (ap (λ p. lookup (same_part p) c.args.self.now.slots.entries) (sym c.part-part.ensures) ∙ sym c.in-Some.ensures.value) (c.all_before.ensures c.if-all_before.true) kept

pub returns-else-all_before : goal.returns-else-all_before
returns-else-all_before g c = λ yes x kept.
    numbers_swap g.S.Spec.object g.S.Parted.label_of g.S.Parted.part_of g.met.S.Parted.parted c.args.owner.now c.args.op.now c.args.self.now.slots.entries x c.in-Some.slot.now
    (ap (λ p. lookup (same_part p) c.args.self.now.slots.entries) (sym c.part-part.ensures) ∙ sym c.in-Some.ensures.value) (c.numbers_let.ensures yes) kept
