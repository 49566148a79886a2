use Rattle.std.proofs.lemmas.Result.{on_ok_weaker}
use Rattle.std.proofs.Common.{arith}
use Rattle.pp_cmd_drill.proofs.Listing.{one_pull}
use Rattle.pp_cmd_drill.proofs.pairs.add_pull.Goals as goal

pub returns : goal.returns
returns c =
    on_ok_weaker c.add_all.result (one_pull c.args.before c.args.a.now.number c.args.steps.now.items c.add_all.new.steps.items _ (omega arith) c.pull.ensures) c.add_all.ensures
