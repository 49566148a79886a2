use Rattle.std.proofs.Common.{sym, ◌∙◌}
use Rattle.pp_model.specs.Config.{tx}
use Rattle.pp_styles.specs.declared.dependent.Dependent.{Dependent}
use Rattle.pp_styles.proofs.Keeping.{given_up}
use Rattle.pp_styles.proofs.dependent.Dependent.give_up.Goals as goal

pub returns-in_ok-give_up : goal.returns-in_ok-give_up
returns-in_ok-give_up g c kinds =
    let new : Dependent = record { alloc = c.args.self.now.alloc; sources = c.give_up.new.sources } in
    given_up kinds c.args.self.now new c.args.tx.now c.args.source.now (tx c.args.tx.now c.args.machine.now.config.opened)
    (sym c.is_open.ensures ∙ c.if-is_open.true) c.in_ok-give_up.ensures
