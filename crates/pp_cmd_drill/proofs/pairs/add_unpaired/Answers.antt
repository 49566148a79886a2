use Rattle.std.proofs.lemmas.Result.{on_ok_weaker}
use Rattle.pp_cmd_drill.proofs.Listing.{unpaired_added}
use Rattle.pp_cmd_drill.proofs.pairs.add_unpaired.Goals as goal

pub returns : goal.returns
returns c =
    on_ok_weaker c.add_all-3.result (unpaired_added c.args.before c.in_ok-a.a.number c.args.steps.now.items c.add_all.new.steps.items c.add_pull.new.steps.items c.add_all-2.new.steps.items c.add_all-3.new.steps.items
    _ _ _ c.in_ok-a.ensures.number c.begin_first.ensures c.first_apps.ensures c.ending.ensures
    c.in_ok-add_all.ensures c.in_ok-add_pull.ensures c.in_ok-add_all-2.ensures) c.add_all-3.ensures
