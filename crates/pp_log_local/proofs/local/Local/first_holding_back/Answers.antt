use Rattle.std.proofs.Common.{◌≤◌, Some, None, ◌∙◌, ap, arith}
use Rattle.pp_kind.specs.Parts.{Covers}
use Rattle.pp_log_local.proofs.Searching.{held_between, none_held_before, none_holds_back}
use Rattle.pp_log_local.proofs.local.Local.first_holding_back.Goals as goal

pub returns-then-i-start : goal.returns-then-i-start
returns-then-i-start g c =
    none_held_before g.S.Spec.object (Covers g.S.Spec.object c.self.inside.samples) c.self.inside.log c.args.self.now c.self.view_is c.self.inside.own_count c.self.inside.unpushed_from c.self.inside.pushed_to c.self.invariant c.args.op.now c.args.i c.if-i-start.true

pub returns-then-all_behind : goal.returns-then-all_behind
returns-then-all_behind g c =
    none_holds_back g.S.Spec.object (Covers g.S.Spec.object c.self.inside.samples) c.self.inside.log c.args.self.now c.self.view_is c.self.inside.own_count c.self.inside.unpushed_from c.self.inside.pushed_to c.self.invariant c.args.op.now g.met.S.Spec.lawful c.args.i (c.all_behind.ensures c.if-all_behind.true)

pub returns-in_default : goal.returns-in_default
returns-in_default g c =
    let start : c.self.inside.unpushed_from ≤ c.args.i = let h = c.if-i-start.false in omega arith in
    held_between g.S.Spec.object (Covers g.S.Spec.object c.self.inside.samples) c.self.inside.log c.args.self.now c.self.view_is c.self.inside.own_count c.self.inside.unpushed_from c.self.inside.pushed_to c.self.invariant c.args.op.now c.args.i c.entries.result.now None start (c.entries.ensures ∙ ap (λ z. z.1) c.self.view_is) c.in_default.ensures

pub returns : goal.returns
returns g c =
    let start : c.self.inside.unpushed_from ≤ c.args.i = let h = c.if-i-start.false in omega arith in
    held_between g.S.Spec.object (Covers g.S.Spec.object c.self.inside.samples) c.self.inside.log c.args.self.now c.self.view_is c.self.inside.own_count c.self.inside.unpushed_from c.self.inside.pushed_to c.self.invariant c.args.op.now c.args.i c.entries.result.now (Some c.in-Some.k) start (c.entries.ensures ∙ ap (λ z. z.1) c.self.view_is) c.in-Some.ensures
