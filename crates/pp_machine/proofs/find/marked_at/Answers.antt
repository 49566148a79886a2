use Rattle.std.proofs.Common.{sym, ◌∙◌, ap, option_map}
use Rattle.pp_model.proofs.Finding.{place_there}
use Rattle.pp_machine.proofs.Looking.{mark_absent, mark_there, mark_other}
use Rattle.pp_machine.proofs.find.marked_at.Goals as goal

pub returns-in_err-i-clause-entry : goal.returns-in_err-i-clause-entry
returns-in_err-i-clause-entry g c = ap (option_map (λ r. r.1)) c.from_residual.ensures ∙ sym (mark_absent c.args.local.now.1 c.args.id c.args.mark (sym c.in_err-i.ensures))

pub returns-in_err-entry-clause-entry : goal.returns-in_err-entry-clause-entry
returns-in_err-entry-clause-entry g c = absurd (place_there _ c.args.local.now.1 c.in_ok-i.i (sym c.in_ok-i.ensures) (sym c.in_err-entry.ensures))

pub returns-then-is_mark-clause-entry : goal.returns-then-is_mark-clause-entry
returns-then-is_mark-clause-entry g c =
    sym (mark_there c.args.local.now.1 c.args.id c.args.mark c.in_ok-i.i c.in_ok-entry.entry.now (sym c.in_ok-i.ensures) (sym c.in_ok-entry.ensures) (sym c.if-is_mark.ensures))

pub returns-else-is_mark-clause-entry : goal.returns-else-is_mark-clause-entry
returns-else-is_mark-clause-entry g c =
    sym (mark_other c.args.local.now.1 c.args.id c.args.mark c.in_ok-i.i c.in_ok-entry.entry.now c.requires (sym c.in_ok-i.ensures) (sym c.in_ok-entry.ensures) (sym c.if-is_mark.ensures))
