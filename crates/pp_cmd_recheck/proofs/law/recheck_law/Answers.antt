use Rattle.pp_cmd_recheck.proofs.Rechecking.{one_recheck, some_recheck, shows_sound}
use Rattle.pp_cmd_recheck.proofs.law.recheck_law.Goals as goal

pub returns : goal.returns
returns c = record {
  once = λ bytes s r t u a b. one_recheck bytes s r t u a b;
  some = λ bytes. some_recheck bytes;
  sound = λ bytes h a. shows_sound bytes h a;
}
