use Rattle.pp_cmd_swaps.proofs.Swapping.{one_swaps}
use Rattle.pp_cmd_swaps.proofs.law.one_answer_law.Goals as goal

pub returns : goal.returns
returns c = λ bytes s s' t t' a b. one_swaps bytes s s' t t' a b
