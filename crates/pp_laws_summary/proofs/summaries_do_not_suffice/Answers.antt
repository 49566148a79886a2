use Rattle.pp_laws_summary.proofs.Premises.{summaries_insufficient}
use Rattle.pp_laws_summary.proofs.summaries_do_not_suffice.Goals as goal

pub returns : goal.returns
returns v = λ k. summaries_insufficient k
