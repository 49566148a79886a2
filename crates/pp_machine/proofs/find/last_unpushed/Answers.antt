use Rattle.std.proofs.Common.{◌-◌, ◌∙◌, arith, length, sym}
use Rattle.pp_model.proofs.Logs.{is_mark-true}
use Rattle.pp_machine.proofs.Cuts.{last_at, slice_within}
use Rattle.pp_machine.proofs.Judged.{not_last, not_unpushed}
use Rattle.pp_machine.proofs.find.last_unpushed.Goals.{else-last-id-via-then-last-id+else-is_mark}
use Rattle.pp_machine.proofs.find.last_unpushed.Goals.{else-last-id-via-else-last-id}
use Rattle.pp_machine.proofs.find.last_unpushed.Goals as goal

pub returns-then-is_mark : goal.returns-then-is_mark
returns-then-is_mark g c =
    let k = slice_within c.args.entries.now (length c.args.entries.now - 1) c.in_ok-last.last.now (sym c.in_ok-last.ensures.value) in
    record { entry = c.in_ok-last.last.now; here = sym c.in_ok-last.ensures.value; end = omega (arith, k); id_is = c.if-last-id.true; unpushed = is_mark-true _ _ (sym c.if-is_mark.ensures) }

pub returns-else-last-id : goal.returns-else-last-id
returns-else-last-id g c =
    let is = last_at c.args.entries.now ∙ sym c.in_ok-last.ensures.value in
    elim c.else-last-id.branch [
      | else-last-id-via-then-last-id+else-is_mark w ↦ not_unpushed c.args.id c.args.entries.now c.in_ok-last.last.now is w.if-is_mark.ensures
      | else-last-id-via-else-last-id w ↦ not_last c.args.id c.args.entries.now c.in_ok-last.last.now is w.if-last-id.false
    ]
