use Rattle.std.proofs.Common.{◌≡◌, map, take}
use Rattle.pp_objects.specs.One.{one}
use Rattle.pp_objects.proofs.objects.empty_states.Given as goal

abbrev pub invariant-loop-kind : goal.invariant-loop-kind
invariant-loop-kind l = l.states.items ≡ map one.start (take l.kind-index l.kinds)
