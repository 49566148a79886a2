use Rattle.std.proofs.Common.{arith, subst, take_all}
use Rattle.pp_styles.specs.Dropping.{KeepsThere}
use Rattle.pp_styles.proofs.Dropping.{none_there, there_next}
use Rattle.pp_styles.proofs.pulled.ids_there.Goals as goal

pub loop-id-init : goal.loop-id-init
loop-id-init g c = none_there c.args.local.now.1 c.new-there.result.keys c.new-there.ensures.empty

pub loop-id-preserved : goal.loop-id-preserved
loop-id-preserved g c =
    there_next c.args.local.now.1 c.args.ids.now c.loop-id.id-index _ c.loop-id-test.true c.loop-id.there.keys c.loop-id.invariant c.add_if_there.new.there.keys c.in_ok-add_if_there.ensures

pub returns : goal.returns
returns g c =
    subst (λ w. KeepsThere c.args.local.now.1 w c.loop-id.there.keys) (take_all c.loop-id.id-index c.args.ids.now (omega (arith, c.loop-id-test.false))) c.loop-id.invariant
