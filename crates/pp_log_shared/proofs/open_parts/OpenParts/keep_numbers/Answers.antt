use Rattle.std.proofs.Common.{IsSome, Some, refl, subst, sym}
use Rattle.pp_kind.specs.Parts.{SampleList}
use Rattle.pp_log_shared.specs.declared.open_parts.OpenPart.{OpenPart}
use Rattle.pp_log_shared.specs.Uncommitted.{open_in}
use Rattle.pp_log_shared.proofs.Uncommitted.{kept_at, tells_numbers, told_at}
use Rattle.pp_log_shared.proofs.open_parts.OpenParts.keep_numbers.Goals as goal

pub returns-in-Some : goal.returns-in-Some
returns-in-Some g c = λ kept.
    let o = g.S.Spec.object in
    let label_of = g.S.Parted.label_of in
    let part_of = g.S.Parted.part_of in
    let k = c.part-part.result in
    let x = c.args.entries.now in
    let slots = c.args.self.now.slots.entries in
    let slot = c.in-Some.slot.now in
    let new : OpenPart (SampleList g.row.S-Op.Denot) = record {
      count = slot.count;
      owner = slot.owner;
      alone = slot.alone;
      samples = slot.samples;
      numbers = c.numbers_in-numbers.result;
    } in
    let lent = c.get_mut.follows.holds new in
    let written = lent.3 (subst (λ s. IsSome s) c.in-Some.ensures.value refl) in
    let told = told_at o label_of part_of slots x k (Some slot) (sym c.in-Some.ensures.value) kept in
    kept_at o label_of part_of k slots _ x new written.0
    (tells_numbers o label_of slot new (open_in part_of k x) refl refl refl refl
    c.numbers_in-numbers.ensures told)
    kept
