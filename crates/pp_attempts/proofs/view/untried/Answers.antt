use Rattle.std.proofs.Common.{refl, arith}
use Rattle.pp_attempts.specs.Trying.{IsUntried}
use Rattle.pp_attempts.proofs.Fronts.{in_there, take_there}
use Rattle.pp_attempts.proofs.Viewing.{pairwise_pushed}
use Rattle.pp_attempts.proofs.view.untried.Goals as goal

pub overflow_cast-len : goal.overflow_cast-len
overflow_cast-len g c =
    let p = c.peak-item.result in
    let few = c.requires p (in_there c.args.peaks.now c.loop-peak.peak-index p c.loop-peak-test.true c.peak-item.is) in
    let len = c.len.ensures in
    omega (arith, few, len)

pub loop-peak-preserved : goal.loop-peak-preserved
loop-peak-preserved g c =
    let p = c.peak-item.result in
    pairwise_pushed IsUntried _ _ c.loop-peak.views.items c.push.new.self.items p _
    (take_there c.args.peaks.now c.loop-peak.peak-index p c.loop-peak-test.true c.peak-item.is) c.in_ok-push.ensures.items
    c.loop-peak.invariant (record { tx = refl; ops = c.len.ensures; after = refl })
