use Rattle.std.proofs.Common.{refl}
use Rattle.pp_kind_queue.specs.Movers.{figures_of}
use Rattle.pp_kind_queue.specs.laws.Swapping.{may_swap_exact}
use Rattle.pp_kind_queue.proofs.movers.gate.Goals as goal

pub returns : goal.returns
returns c = λ a is passed. (may_swap_exact a c.args.op.now).0
    (let h = c.gate.ensures (figures_of a) (figures_of a).to refl passed in cc)
