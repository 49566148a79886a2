use Rattle.std.proofs.Common.{take}
use Rattle.pp_attempts.specs.Trying.{IsUntried}
use Rattle.pp_attempts.specs.Views.{Pairwise}
use Rattle.pp_attempts.proofs.view.untried.Given as goal

abbrev pub invariant-loop-peak : goal.invariant-loop-peak
invariant-loop-peak g l = Pairwise IsUntried (take l.peak-index l.peaks) l.views.items
