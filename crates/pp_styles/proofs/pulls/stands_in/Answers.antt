use Rattle.std.proofs.Common.{◌<◌, length, sym, subst, ◌∙◌, ap, is_some}
use Rattle.pp_log_shared.proofs.Nexts.{read}
use Rattle.pp_styles.proofs.Standing.{standing, stands_there}
use Rattle.pp_styles.proofs.pulls.stands_in.Goals as goal

pub returns-then-entries-hint : goal.returns-then-entries-hint
returns-then-entries-hint g c =
    let size = subst (λ z. c.args.hint.now < length z) c.entries-entries.ensures c.if-hint-entries.true in
    let here = read c.entries-entries.result.now c.args.local.now.1 c.args.hint.now c.index-entries-hint.result c.entries-entries.ensures size c.index-entries-hint.is in
    sym (stands_there c.args.id c.args.local.now.1 c.args.hint.now c.index-entries-hint.result here (ap (λ e. e.id) c.index-entries-hint.is ∙ c.if-entries-hint.true))

pub returns-in_default : goal.returns-in_default
returns-in_default g c = ap is_some (sym c.in_default.is ∙ c.find.ensures) ∙ standing c.args.id c.args.local.now.1

pub returns : goal.returns
returns g c = ap is_some (sym c.in-Some.is ∙ c.find.ensures) ∙ standing c.args.id c.args.local.now.1
