use Rattle.pp_objects.proofs.GapsAmong.{apart_crossed, same_crossed}
use Rattle.pp_objects.proofs.gapped.ObjectsGapped.cross.Goals as goal

pub returns-in-Same : goal.returns-in-Same
returns-in-Same c = same_crossed c.args.gap.now c.args.op.now c.in-Same.undo c.cross.result
    c.if-op-object.false c.in-Same.is c.cross.ensures

pub returns-in-Apart : goal.returns-in-Apart
returns-in-Apart c = apart_crossed c.args.gap.now c.args.op.now c.in-Apart.act c.cross.result
    c.if-op-object.false c.in-Apart.is c.cross.ensures
