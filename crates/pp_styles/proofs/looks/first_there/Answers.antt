use Rattle.std.proofs.Common.{◌≡◌, ◌==◌, ◌∙◌, ℕ, None, arith, position, sym}
use Rattle.pp_styles.proofs.Looking.{none_if, true_next}
use Rattle.pp_styles.proofs.looks.first_there.Goals as goal

pub loop-at-preserved : goal.loop-at-preserved
loop-at-preserved g c =
    let above = c.loop-at.invariant.0 in
    let G = c.args.shared.now.1 in (
      omega arith,
      true_next (λ (id : ℕ). position (λ e. e.id == id) G ≡ None) c.args.ids.now c.args.from c.loop-at.at 0
          (sym c.find.ensures ∙ none_if c.find.result (sym c.is_some.ensures ∙ c.if-is_some.false)) c.loop-at.invariant.1,
    )
