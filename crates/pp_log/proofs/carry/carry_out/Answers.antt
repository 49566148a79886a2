use Rattle.std.proofs.Common.{arith}
use Rattle.pp_log.proofs.Carried.{out_alone, part_first, part_last, part_next}
use Rattle.pp_log.proofs.carry.carry_out.Goals as goal

pub returns-then-keeps_alone : goal.returns-then-keeps_alone
returns-then-keeps_alone g c =
    out_alone g.S.Spec.object g.met.S.Spec.lawful g.S.Placed.place_of c.args.op.now (c.keeps_alone.ensures c.if-keeps_alone.true)
    c.args.from c.args.undos.now.items c.remove.new.self.items c.remove.result c.remove.ensures.items c.remove.ensures.value

pub loop-at-init : goal.loop-at-init
loop-at-init g c = part_first g.S.Spec.object g.S.Placed.place_of c.args.op.now c.args.from c.args.undos.now.items c.requires

pub loop-at-preserved : goal.loop-at-preserved
loop-at-preserved g c =
    part_next g.S.Spec.object g.S.Placed.place_of c.args.op.now c.args.from c.args.undos.now.items
    c.loop-at.at c.loop-at.undos.items c.loop-at.invariant c.carry_over.new.undos.items
    (let test = c.loop-at-test.true in omega arith) c.carry_over.ensures.size c.carry_over.ensures.carries

pub returns : goal.returns
returns g c = part_last g.S.Spec.object g.S.Placed.place_of c.args.op.now c.args.from c.args.undos.now.items
    c.loop-at.at c.loop-at.undos.items c.pop.new.self.items c.in-Some.undo (let test = c.loop-at-test.false in omega arith) c.loop-at.invariant c.in-Some.ensures.items
