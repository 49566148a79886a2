use Rattle.pp_run.proofs.Numbers.{number_is, number_told}
use Rattle.pp_run.proofs.law.words_law.Goals as goal

pub returns : goal.returns
returns c = λ word n. (number_told word n, number_is word n)
