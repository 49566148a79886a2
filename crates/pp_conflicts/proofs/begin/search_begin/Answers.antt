use Rattle.std.proofs.Common.{ap, option_map}
use Rattle.pp_core.specs.Steps.{meaning}
use Rattle.pp_core.specs.Trees.{tree}
use Rattle.pp_conflicts.proofs.Records.{begin_searched}
use Rattle.pp_conflicts.proofs.begin.search_begin.Goals as goal

pub returns : goal.returns
returns g c =
    begin_searched g.S.Spec.object g.S.Placed.place_of g.S.Placed.SameAt g.met.S.Spec.lawful g.met.S.Placed.placed c.args.parts.now c.requires.keeps (meaning c.args.step.now) c.in-Begin.tx c.in-Begin.thread (option_map tree c.in-Begin.body) (ap meaning c.in-Begin.is) c.judge_begin.result c.judge_begin.ensures c.at_step_if.result c.at_step_if.ensures
