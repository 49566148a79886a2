use Rattle.pp_kind.specs.Parts.{Covers}
use Rattle.pp_log_local.proofs.Searching.{none_stands_first}
use Rattle.pp_log_local.proofs.local.Local.first_not_before.Goals as goal

pub returns-then-all_before : goal.returns-then-all_before
returns-then-all_before g c =
    none_stands_first g.S.Spec.object (Covers g.S.Spec.object c.self.inside.samples) c.self.inside.log c.args.self.now c.self.view_is c.self.inside.own_count c.self.inside.unpushed_from c.self.inside.pushed_to c.self.invariant c.args.op.now g.met.S.Spec.lawful (c.all_before.ensures c.if-all_before.true)
