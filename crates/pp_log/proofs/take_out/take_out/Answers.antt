use Rattle.std.proofs.Common.{[], ◌++◌, length, ap, arith, length-append}
use Rattle.pp_log.specs.Parts.{with_first}
use Rattle.pp_log.proofs.Gaps.{first_there, last_passes}
use Rattle.pp_log.proofs.take_out.take_out.Goals as goal

pub take_last-requires-clause-there : goal.take_last-requires-clause-there
take_last-requires-clause-there g c =
    let place = g.S.Placed.place_of in
    let f = g.T.Side.item_of in
    let y = c.args.entries.now in
    let h = c.requires.whole in
    record {
      start = h.start;
      items = h.before ++ with_first place f y;
      behind = [];
      whole = h.whole;
      passes = last_passes g.S.Spec.object place f y c.index-entries-0.result h.start
          c.args.state.now h.before c.args.from c.args.place.now c.op-op.result.now c.requires.some
          c.index-entries-0.is h.size h.whole (omega arith) c.op-op.ensures;
      one_place = tt;
    }

pub returns-then-is_last-clause-takes : goal.returns-then-is_last-clause-takes
returns-then-is_last-clause-takes g c = λ b before size whole.
    let place = g.S.Placed.place_of in
    let f = g.T.Side.item_of in
    let y = c.args.entries.now in
    let passes = last_passes g.S.Spec.object place f y c.index-entries-0.result b c.args.state.now
    before c.args.from c.args.place.now c.op-op.result.now c.requires.some c.index-entries-0.is size
    whole (omega arith) c.op-op.ensures in
    c.in_ok-take_last.ensures.takes b (before ++ with_first place f y) [] passes tt whole

pub returns-then-is_last-clause-cost : goal.returns-then-is_last-clause-cost
returns-then-is_last-clause-cost g c =
    let h = c.requires.whole in
    let all = h.whole.all in
    let size = h.size in
    let both = length-append h.before
    (with_first g.S.Placed.place_of g.T.Side.item_of c.args.entries.now) in
    (omega arith, omega arith, λ one. omega arith)

pub returns-then-branch-clause-takes : goal.returns-then-branch-clause-takes
returns-then-branch-clause-takes g c = c.in_ok-leave_by_gap.ensures.takes c.if-branch.true

pub returns-then-branch-clause-cost : goal.returns-then-branch-clause-cost
returns-then-branch-clause-cost g c =
    let place = g.S.Placed.place_of in
    let f = g.T.Side.item_of in
    let y = c.args.entries.now in
    let h = c.requires.whole in
    let all = h.whole.all in
    let size = h.size in
    let both = length-append h.before (with_first place f y) in
    let first = ap length
    (first_there place f y c.index-entries-0.result c.requires.some c.index-entries-0.is) in
    (omega arith, omega arith, λ one. absurd (omega arith))
