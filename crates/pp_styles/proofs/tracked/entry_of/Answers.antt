use Rattle.std.proofs.Common.{◌==◌, sym}
use Rattle.pp_model.proofs.Finding.{place_there}
use Rattle.pp_styles.proofs.Leaving.{if_none, is_of_id, none_of_id, one_of_id}
use Rattle.pp_styles.proofs.tracked.entry_of.Goals as goal

pub returns-in_err-at-clause-none : goal.returns-in_err-at-clause-none
returns-in_err-at-clause-none g c = if_none c.from_residual.result (none_of_id c.args.shared.now.1 c.args.id (sym c.in_err-at.ensures))

pub returns-in_err-entry-clause-none : goal.returns-in_err-entry-clause-none
returns-in_err-entry-clause-none g c = if_none c.from_residual-in_err-entry.result (λ h i is.
    absurd (place_there (λ e. e.id == c.args.id) c.args.shared.now.1 c.in_ok-at.at (sym c.in_ok-at.ensures) (sym c.in_err-entry.ensures)))

pub returns-clause-some : goal.returns-clause-some
returns-clause-some g c =
    one_of_id c.args.shared.now.1 c.len-distinct.ensures.distinct c.args.id c.in_ok-at.at c.in_ok-entry.entry.now (sym c.in_ok-at.ensures) (sym c.in_ok-entry.ensures)

pub returns-clause-there : goal.returns-clause-there
returns-clause-there g c =
    is_of_id c.args.shared.now.1 c.args.id c.in_ok-at.at c.in_ok-entry.entry.now (sym c.in_ok-at.ensures) (sym c.in_ok-entry.ensures)
