use Rattle.std.proofs.Common.{◌∙◌, ap, inl, is_some, sym}
use Rattle.pp_styles.proofs.Standing.{standing}
use Rattle.pp_styles.proofs.looks.is_missing.Goals as goal

pub returns-then-is_some : goal.returns-then-is_some
returns-then-is_some g c = λ off.
    inl (sym (standing c.args.id c.args.local.now.1) ∙ ap is_some (sym c.find.ensures) ∙ sym c.is_some.ensures ∙ c.if-is_some.true)
