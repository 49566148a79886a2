use Rattle.std.proofs.Common.{◌≤◌, ◌+◌, Some, None, ◌∙◌, ap, arith}
use Rattle.pp_kind.specs.Parts.{Covers}
use Rattle.pp_log_local.proofs.Searching.{none_staying_from, none_stays_behind, staying_between}
use Rattle.pp_log_local.proofs.local.Local.first_staying_behind.Goals as goal

pub returns-then-saturating_sub-le1 : goal.returns-then-saturating_sub-le1
returns-then-saturating_sub-le1 g c =
    let h = c.saturating_sub.ensures in
    let few = c.if-saturating_sub-le1.true in
    let end : c.self.inside.pushed_to ≤ c.args.i + 1 = omega arith in
    none_staying_from g.S.Spec.object (Covers g.S.Spec.object c.self.inside.samples) c.self.inside.log c.args.self.now c.self.view_is c.self.inside.own_count c.self.inside.unpushed_from c.self.inside.pushed_to c.self.invariant c.args.op.now (c.args.i + 1) end

pub returns-then-all_before : goal.returns-then-all_before
returns-then-all_before g c =
    none_stays_behind g.S.Spec.object (Covers g.S.Spec.object c.self.inside.samples) c.self.inside.log c.args.self.now c.self.view_is c.self.inside.own_count c.self.inside.unpushed_from c.self.inside.pushed_to c.self.invariant c.args.op.now g.met.S.Spec.lawful (c.args.i + 1) (c.all_before.ensures c.if-all_before.true)

pub returns-in_default : goal.returns-in_default
returns-in_default g c =
    staying_between g.S.Spec.object (Covers g.S.Spec.object c.self.inside.samples) c.self.inside.log c.args.self.now c.self.view_is c.self.inside.own_count c.self.inside.unpushed_from c.self.inside.pushed_to c.self.invariant c.args.op.now (c.args.i + 1) c.entries.result.now None (c.entries.ensures ∙ ap (λ z. z.1) c.self.view_is) c.in_default.ensures

pub returns : goal.returns
returns g c =
    staying_between g.S.Spec.object (Covers g.S.Spec.object c.self.inside.samples) c.self.inside.log c.args.self.now c.self.view_is c.self.inside.own_count c.self.inside.unpushed_from c.self.inside.pushed_to c.self.invariant c.args.op.now (c.args.i + 1) c.entries.result.now (Some c.in-Some.k) (c.entries.ensures ∙ ap (λ z. z.1) c.self.view_is) c.in-Some.ensures
