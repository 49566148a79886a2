use Rattle.std.proofs.Common.{refl}
use Rattle.pp_kind.proofs.Gates.{there_or_apart}
use Rattle.std.specs.Ordering.{int_eq}
use Rattle.pp_kind_map.specs.Operations.{key_of}
use Rattle.pp_kind_map.specs.Movers.{table_lets, figures_of}
use Rattle.pp_kind_map.specs.laws.Lawful.{may_swap_exact}
use Rattle.pp_kind_map.proofs.movers.gate.Goals as goal

pub returns : goal.returns
returns c = λ a is passed. (may_swap_exact a c.args.op.now).0
    (there_or_apart (int_eq (key_of a) (key_of c.args.op.now)) (table_lets a c.args.op.now)
    (let h = c.gate.ensures (figures_of a) (figures_of a).to refl passed in cc))
