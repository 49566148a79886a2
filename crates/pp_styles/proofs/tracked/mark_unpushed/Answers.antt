use Rattle.std.proofs.Common.{◌∙◌, None, Some, refl, sym}
use Rattle.pp_model.specs.Config.{tx}
use Rattle.pp_styles.specs.Noting.{known}
use Rattle.pp_styles.proofs.Leaving.{lowers_there, none_open}
use Rattle.pp_styles.proofs.tracked.mark_unpushed.Goals as goal

pub returns-in_default : goal.returns-in_default
returns-in_default g c = none_open c.args.tx.now c.args.id c.args.machine.now.shape (known c.args.notes.now) (tx c.args.tx.now c.args.machine.now.config.opened) c.in_default.ensures

pub returns-in_default-find : goal.returns-in_default-find
returns-in_default-find g c =
    lowers_there c.args.tx.now c.args.id c.args.machine.now.shape (tx c.args.tx.now c.args.machine.now.config.opened) c.in-Some.local.now None (known c.args.notes.now) (known c.args.notes.now)
    c.in-Some.ensures (sym c.find.ensures ∙ c.in_default-find.is) refl

pub returns : goal.returns
returns g c =
    lowers_there c.args.tx.now c.args.id c.args.machine.now.shape (tx c.args.tx.now c.args.machine.now.config.opened) c.in-Some.local.now (Some c.in-Some-find.at) (known c.args.notes.now) (known c.lower_pushed.new.self)
    c.in-Some.ensures (sym c.find.ensures ∙ c.in-Some-find.is) c.lower_pushed.ensures
