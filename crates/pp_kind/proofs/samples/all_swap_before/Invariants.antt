use Rattle.std.proofs.Common.{All, take}
use Rattle.pp_kind.specs.Object.{Swaps}
use Rattle.pp_kind.proofs.samples.all_swap_before.Given as goal

abbrev pub invariant-loop-sample : goal.invariant-loop-sample
invariant-loop-sample g l = All (λ s. Swaps g.S.Spec.object s l.op) (take l.sample-index l.samples)
