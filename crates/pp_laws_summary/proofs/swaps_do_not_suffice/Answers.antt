use Rattle.pp_laws_summary.proofs.Premises.{swaps_insufficient}
use Rattle.pp_laws_summary.proofs.swaps_do_not_suffice.Goals as goal

pub returns : goal.returns
returns v = λ k. swaps_insufficient k
