use Rattle.std.proofs.Common.{◌≡◌, map, take}
use Rattle.pp_objects.specs.Objects.{act_at}
use Rattle.pp_objects.proofs.acts.ops_at.Given as goal

abbrev pub invariant-loop-act : goal.invariant-loop-act
invariant-loop-act l = l.ops ≡ map (act_at l.object) (take l.act-index l.acts)
