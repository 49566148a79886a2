use Rattle.std.proofs.Common.{inl, inr, subst, sym}
use Rattle.pp_model.specs.Lists.{In}
use Rattle.pp_styles.specs.Noting.{taken_in}
use Rattle.pp_styles.specs.Publishing.{Adds}
use Rattle.pp_styles.proofs.Looking.{adds_none, on_ok}
use Rattle.pp_styles.proofs.published.add_fewer.Goals as goal

pub returns-clause-added : goal.returns-clause-added
returns-clause-added g c =
    let l = c.args.local.now.1 in
    let G = c.args.shared.now.1 in
    let more = c.add_rests-2.new.ids.items in
    on_ok c.add_rests-2.result c.add_rests-2.ensures.added (λ added v among. elim (c.in_ok-names.ensures v among) [
      | inl there ↦ added v (subst (λ w. In v w) (sym c.deref.ensures.value) there)
      | inr none ↦ subst (λ w. Adds l G w (taken_in v c.args.gone.now c.args.object) (taken_in v c.args.passed.now c.args.object) more) (sym none) (adds_none l G (taken_in v c.args.gone.now c.args.object) (taken_in v c.args.passed.now c.args.object) more)
    ])
