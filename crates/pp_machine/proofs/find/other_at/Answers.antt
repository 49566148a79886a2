use Rattle.std.proofs.Common.{sym, ◌∙◌}
use Rattle.pp_model.proofs.Finding.{place_there}
use Rattle.pp_machine.proofs.Looking.{post_absent, post_there, post_own}
use Rattle.pp_machine.proofs.find.other_at.Goals as goal

pub returns-in_err-i : goal.returns-in_err-i
returns-in_err-i g c = c.from_residual.ensures ∙ sym (post_absent c.args.shared.now.1 c.args.owner.now c.args.id (sym c.in_err-i.ensures))

pub returns-in_err-entry : goal.returns-in_err-entry
returns-in_err-entry g c = absurd (place_there _ c.args.shared.now.1 c.in_ok-i.i (sym c.in_ok-i.ensures) (sym c.in_err-entry.ensures))

pub returns-then-same : goal.returns-then-same
returns-then-same g c =
    sym (post_own c.args.shared.now.1 c.args.owner.now c.args.id c.in_ok-i.i c.in_ok-entry.entry.now c.requires (sym c.in_ok-i.ensures) (sym c.in_ok-entry.ensures) (sym c.if-same.ensures))

pub returns-else-same : goal.returns-else-same
returns-else-same g c =
    sym (post_there c.args.shared.now.1 c.args.owner.now c.args.id c.in_ok-i.i c.in_ok-entry.entry.now (sym c.in_ok-i.ensures) (sym c.in_ok-entry.ensures) (sym c.if-same.ensures))
