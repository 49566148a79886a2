use Rattle.std.proofs.Common.{true, sym, arith}
use Rattle.pp_body.proofs.Tracks.{last_is}
use Rattle.pp_body.proofs.walk.last_state_of.Goals as goal

pub returns-in-len1-up : goal.returns-in-len1-up
returns-in-len1-up c = sym (last_is 0 true c.args.reached.now 0 (omega arith))
