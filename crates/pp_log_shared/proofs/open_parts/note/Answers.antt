use Rattle.std.proofs.Common.{◌≡◌, true, false, refl, sym, ◌∙◌}
use Rattle.pp_model.proofs.Names.{names-true}
use Rattle.pp_log_shared.proofs.Uncommitted.{tells_more}
use Rattle.pp_log_shared.proofs.open_parts.note.Goals.{then-slot, else-slot}
use Rattle.pp_log_shared.proofs.open_parts.note.Goals as goal

pub returns : goal.returns
returns g c = λ x told.
    tells_more g.S.Spec.object g.S.Parted.label_of c.args.slot.now _ x c.args.entry.now refl refl
    (λ all. elim c.if-slot.branch [
      | then-slot w ↦ (w.if-slot.true, sym (names-true c.args.slot.now.owner c.args.entry.now.owner (sym w.same-slot.ensures ∙ sym w.slot-is ∙ all)))
      | else-slot w ↦ let no : true ≡ false = sym all ∙ w.slot-is ∙ w.if-slot.false in absurd (cc)
    ])
    c.add.ensures.keeps c.add.ensures.covers (c.count_more.ensures x) told
