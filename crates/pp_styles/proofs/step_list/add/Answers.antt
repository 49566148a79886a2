use Rattle.std.proofs.Common.{◌∷◌, [], map, ap, ◌∙◌}
use Rattle.std.proofs.lemmas.List.{map-append}
use Rattle.pp_core.specs.Steps.{meaning}
use Rattle.pp_styles.proofs.step_list.add.Goals as goal

pub returns : goal.returns
returns g c =
    ap (map meaning) c.in_ok-push.ensures.ok ∙ map-append meaning c.args.list.now (c.args.step ∷ [])
