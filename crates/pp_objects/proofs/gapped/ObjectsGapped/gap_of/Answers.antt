use Rattle.pp_objects.proofs.GapsAmong.{apart_left, same_left}
use Rattle.pp_objects.proofs.gapped.ObjectsGapped.gap_of.Goals as goal

pub returns-in-Same : goal.returns-in-Same
returns-in-Same c = same_left c.args.op.now c.args.undo.now c.gap_of.result c.in-Same.is
    c.gap_of.ensures

pub returns-in-Apart : goal.returns-in-Apart
returns-in-Apart c = apart_left c.args.op.now c.args.undo.now c.in-Apart.act c.gap_of.result
    c.in-Apart.is c.gap_of.ensures
