use Rattle.std.proofs.Common.{◌+◌, ap, arith, length, sym}
use Rattle.pp_laws_summary.specs.LocalLogs.{unpushed}
use Rattle.pp_snapshots.proofs.Moving.{own_within}
use Rattle.pp_snapshots.proofs.StepCounts.{alone_count, commit_counts}
use Rattle.pp_snapshots.proofs.steps.commit_steps.Goals as goal

pub returns-in_default-clause-count : goal.returns-in_default-clause-count
returns-in_default-clause-count g c = λ ks.
    alone_count g.S.Spec.object g.S.Placed.place_of g.S.Placed.SameAt g.met.S.Spec.lawful g.met.S.Placed.placed c.args.parts.now c.requires.keeps c.args.tx.now (sym c.in_default.ensures) (λ y. length (unpushed y.own) + 1)

pub overflow_add-result : goal.overflow_add-result
overflow_add-result g c =
    let own = own_within g.S.Spec.object g.S.Placed.place_of g.S.Placed.SameAt g.met.S.Spec.lawful g.met.S.Placed.placed c.args.parts.now c.requires.keeps c.args.tx.now c.in-Some.it.now (sym c.in-Some.ensures) in
    let is = ap (λ l. length l) c.as_slice-own.ensures in
    let few = c.requires.keeps.few in
    let count = c.requires.few in
    omega (arith, own, is, few, count)

pub returns-clause-count : goal.returns-clause-count
returns-clause-count g c =
    commit_counts g.S.Spec.object g.S.Placed.place_of g.S.Placed.SameAt g.met.S.Spec.lawful g.met.S.Placed.placed c.args.parts.now c.requires.keeps c.args.tx.now c.in-Some.it.now (sym c.in-Some.ensures) _ (ap (λ l. length l + 1) c.as_slice-own.ensures)

pub returns-clause-bound : goal.returns-clause-bound
returns-clause-bound g c =
    let own = own_within g.S.Spec.object g.S.Placed.place_of g.S.Placed.SameAt g.met.S.Spec.lawful g.met.S.Placed.placed c.args.parts.now c.requires.keeps c.args.tx.now c.in-Some.it.now (sym c.in-Some.ensures) in
    let is = ap (λ l. length l) c.as_slice-own.ensures in
    let few = c.requires.keeps.few in
    omega (arith, own, is, few)
