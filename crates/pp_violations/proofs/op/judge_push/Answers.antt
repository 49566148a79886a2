use Rattle.std.proofs.Common.{◌∙◌, ◌<◌, ap, length, slice_get, subst, sym, IsTrue}
use Rattle.pp_kind.proofs.Fitting.{ranged_in}
use Rattle.pp_model.specs.Config.{shared_ops}
use Rattle.pp_machine.specs.declared.detail.Detail.TheVariants.{Nothing}
use Rattle.pp_machine.specs.Evidence.{swap_or}
use Rattle.pp_machine.proofs.Cuts.{read_there, slice_within}
use Rattle.pp_model.proofs.Finding.{stands_in}
use Rattle.pp_violations.proofs.Judging.{in_ops, push_blocked, push_fine, push_illegal}
use Rattle.pp_violations.proofs.op.judge_push.Goals as goal

pub bounds-entries-k : goal.bounds-entries-k
bounds-entries-k g c =
    let b = c.in-Some.ensures.some in
    let w = slice_within c.args.shared.now.1 c.in-Some.k b.entry b.is in
    subst (λ l. c.in-Some.k < length l) (sym c.entries.ensures) w

pub swap_detail-requires-clause-first : goal.swap_detail-requires-clause-first
swap_detail-requires-clause-first g c =
    let b = c.in-Some.ensures.some in
    let u = read_there c.entries.result.now c.in-Some.k c.index-entries-k.result b.entry (ap (λ l. slice_get l c.in-Some.k) c.entries.ensures ∙ b.is) c.index-entries-k.is in
    let inside = stands_in c.args.shared.now.1 c.in-Some.k b.entry b.is in
    subst (λ z. IsTrue (g.S.Spec.object.ranged z.op)) u (ranged_in g.S.Spec.object (shared_ops c.args.shared.now.1) c.len-length.ensures.ranged b.entry.op (in_ops b.entry c.args.shared.now.1 inside))

pub returns-in-Some : goal.returns-in-Some
returns-in-Some g c =
    let b = c.in-Some.ensures.some in
    let u = read_there c.entries.result.now c.in-Some.k c.index-entries-k.result b.entry (ap (λ l. slice_get l c.in-Some.k) c.entries.ensures ∙ b.is) c.index-entries-k.is in
    push_blocked g.S.Spec.object g.met.S.Spec.lawful g.S.Placed.place_of g.S.Placed.SameAt g.met.S.Placed.placed c.args.shared.now.0 c.args.tx.now c.args.id c.args.op.now c.args.shared.now.1 c.requires.asked c.len-length.ensures.allowed c.in-Some.k b
    c.in_ok-detail.detail (c.in_ok-detail.ensures ∙ ap (λ z. swap_or z.id (g.S.Spec.object.refuting z.op c.args.op.now) Nothing) (sym u))

pub returns-then-not-legal : goal.returns-then-not-legal
returns-then-not-legal g c =
    push_illegal g.S.Spec.object g.met.S.Spec.lawful g.S.Placed.place_of g.S.Placed.SameAt g.met.S.Placed.placed c.args.shared.now.0 c.args.tx.now c.args.id c.args.op.now c.args.shared.now.1 c.requires.asked c.len-length.ensures.allowed c.in_default.ensures.none
    c.legal.result c.legal.ensures c.if-not-legal.true c.gives-answer.result c.gives-answer.ensures

pub returns : goal.returns
returns g c =
    push_fine g.S.Spec.object g.met.S.Spec.lawful g.S.Placed.place_of g.S.Placed.SameAt g.met.S.Placed.placed c.args.shared.now.0 c.args.tx.now c.args.id c.args.op.now c.args.shared.now.1 c.requires.asked c.len-length.ensures.allowed c.in_default.ensures.none
    c.legal.result c.legal.ensures c.if-not-legal.false
