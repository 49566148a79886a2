use Rattle.std.proofs.Common.{◌<◌, ◌-◌, ℕ, length, get_or, arith}
use Rattle.std.proofs.lemmas.List.{get_or_default}
use Rattle.pp_log.proofs.Batches.{over_first, over_last, over_next}
use Rattle.pp_log.proofs.carry.carry_all_over.Goals as goal

pub loop-left-init : goal.loop-left-init
loop-left-init g c =
    over_first g.S.Spec.object g.met.S.Spec.lawful g.S.Placed.place_of c.args.batch.now c.args.at c.args.undos.now.items (length c.args.batch.now) (omega arith)

pub loop-left-preserved : goal.loop-left-preserved
loop-left-preserved g c =
    let k : ℕ = c.loop-left.left - 1 in
    let test = c.loop-left-test.true in
    let bound = c.loop-left.invariant.within in
    let before = c.requires.before in
    let lt : k < length c.args.batch.now = omega arith in
    let first : ℕ = c.args.at - length c.args.batch.now in
    let batch = c.args.batch.now in
    let e = get_or batch k c.index-batch-left.result in
    over_next g.S.Spec.object g.met.S.Spec.lawful g.S.Placed.place_of c.args.batch.now c.args.at c.args.undos.now.items k e lt (get_or_default batch k c.index-batch-left.result e lt)
    c.loop-left.left first c.loop-left.undos.items c.carry_over.new.undos.items (omega arith) (omega arith) c.carry_over.ensures.size c.carry_over.ensures.carries c.loop-left.invariant

pub returns-clause-carries : goal.returns-clause-carries
returns-clause-carries g c =
    over_last g.S.Spec.object g.met.S.Spec.lawful g.S.Placed.place_of c.args.batch.now c.args.at c.args.undos.now.items
    c.loop-left.left c.loop-left.undos.items (let test = c.loop-left-test.false in omega arith) c.loop-left.invariant
