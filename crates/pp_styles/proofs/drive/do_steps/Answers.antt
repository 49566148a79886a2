use Rattle.std.proofs.Common.{◌≡◌, ◌+◌, suc, length, drop, refl, sym, subst, ◌∙◌, arith}
use Rattle.std.proofs.lemmas.Option.{slice_get_read}
use Rattle.pp_core.specs.Steps.{meaning}
use Rattle.pp_machine.specs.Stepping.{IsAsked}
use Rattle.pp_styles.specs.Meanings.{meanings}
use Rattle.pp_styles.proofs.Driven.{at_first, at_rest, below, element, from_there, full_there, halted}
use Rattle.pp_styles.proofs.Driven.{none_left, only_these, tried, went_on}
use Rattle.pp_styles.proofs.drive.do_steps.Goals as goal

pub loop-step-init : goal.loop-step-init
loop-step-init g c =
    at_first c.args.limit g.S.Spec.object g.S.Placed.place_of c.args.machine (meanings c.args.list.now) c.args.ticks.now c.requires.few

-- ---- a run may have no step more

pub returns-then-count-limit-clause-drives : goal.returns-then-count-limit-clause-drives
returns-then-count-limit-clause-drives g c =
    let xs = c.args.list.now in
    let i = c.loop-step.step-index in
    let s = c.step-item.result in
    let next : i + 1 ≡ suc i = omega arith in
    let here = slice_get_read xs (length xs) i s refl c.loop-step-test.true c.step-item.is in
    let so = at_rest c.args.limit g.S.Spec.object g.S.Placed.place_of c.args.machine (meanings xs) c.args.ticks.now _ _ c.loop-step.machine c.loop-step.ticks (from_there xs i (i + 1) s here next) c.loop-step.invariant in
    full_there c.args.limit g.S.Spec.object g.S.Placed.place_of c.args.machine (meanings xs) c.args.ticks.now (meaning s) (meanings (drop (i + 1) xs)) c.loop-step.machine c.loop-step.machine c.loop-step.ticks c.loop-step.ticks so
    (sym c.count.ensures.count ∙ c.if-count-limit.true)

pub returns-then-count-limit-clause-most : goal.returns-then-count-limit-clause-most
returns-then-count-limit-clause-most g c =
    only_these c.args.limit g.S.Spec.object g.S.Placed.place_of c.args.machine (meanings c.args.list.now) c.args.ticks.now _ c.loop-step.machine c.loop-step.ticks c.loop-step.invariant

-- ---- a step

pub step-requires-clause-asked : goal.step-requires-clause-asked
step-requires-clause-asked g c =
    let xs = c.args.list.now in
    let here = slice_get_read xs (length xs) c.loop-step.step-index c.step-item.result refl c.loop-step-test.true c.step-item.is in
    subst (λ v. IsAsked g.S.Spec.object v.shape (meaning c.step-item.result)) (sym c.loop-step.invariant.done.is)
    (c.requires.asked (meaning c.step-item.result) (element meaning xs c.loop-step.step-index c.step-item.result here))

pub step-requires-clause-few : goal.step-requires-clause-few
step-requires-clause-few g c =
    let less = below c.loop-step.machine.count c.count.result c.args.limit c.loop-step.invariant.done.few c.count.ensures.count c.if-count-limit.false in
    let fits = c.ranges.limit in
    omega (arith, less, fits)

pub loop-step-preserved : goal.loop-step-preserved
loop-step-preserved g c =
    let xs = c.args.list.now in
    let i = c.loop-step.step-index in
    let s = c.step-item.result in
    let next : i + 1 ≡ suc i = omega arith in
    let here = slice_get_read xs (length xs) i s refl c.loop-step-test.true c.step-item.is in
    let so = at_rest c.args.limit g.S.Spec.object g.S.Placed.place_of c.args.machine (meanings xs) c.args.ticks.now _ _ c.loop-step.machine c.loop-step.ticks (from_there xs i (i + 1) s here next) c.loop-step.invariant in
    let few = below c.loop-step.machine.count c.count.result c.args.limit c.loop-step.invariant.done.few c.count.ensures.count c.if-count-limit.false in
    went_on c.args.limit g.S.Spec.object g.S.Placed.place_of c.args.machine (meanings xs) c.args.ticks.now (meaning s) (meanings (drop (i + 1) xs)) c.loop-step.machine c.in_ok-next.next c.loop-step.ticks c.step.new.ticks so few
    c.in_ok-next.outcome (sym c.halt_of.ensures ∙ c.in_default.is) c.in_ok-next.ensures.effect c.in_ok-next.ensures.cost c.step.ensures.bound

pub returns-in-Some-clause-drives : goal.returns-in-Some-clause-drives
returns-in-Some-clause-drives g c =
    let xs = c.args.list.now in
    let i = c.loop-step.step-index in
    let s = c.step-item.result in
    let next : i + 1 ≡ suc i = omega arith in
    let here = slice_get_read xs (length xs) i s refl c.loop-step-test.true c.step-item.is in
    let so = at_rest c.args.limit g.S.Spec.object g.S.Placed.place_of c.args.machine (meanings xs) c.args.ticks.now _ _ c.loop-step.machine c.loop-step.ticks (from_there xs i (i + 1) s here next) c.loop-step.invariant in
    let few = below c.loop-step.machine.count c.count.result c.args.limit c.loop-step.invariant.done.few c.count.ensures.count c.if-count-limit.false in
    halted c.args.limit g.S.Spec.object g.S.Placed.place_of c.args.machine (meanings xs) c.args.ticks.now (meaning s) (meanings (drop (i + 1) xs)) c.loop-step.machine c.in_ok-next.next c.loop-step.ticks c.step.new.ticks so few
    c.in_ok-next.outcome c.in-Some.halt (sym c.halt_of.ensures ∙ c.in-Some.is) c.in_ok-next.ensures.effect c.in_ok-next.ensures.cost c.in_ok-next.ensures.shown

pub returns-in-Some-clause-most : goal.returns-in-Some-clause-most
returns-in-Some-clause-most g c =
    let xs = c.args.list.now in
    let i = c.loop-step.step-index in
    let s = c.step-item.result in
    let next : i + 1 ≡ suc i = omega arith in
    let here = slice_get_read xs (length xs) i s refl c.loop-step-test.true c.step-item.is in
    let so = at_rest c.args.limit g.S.Spec.object g.S.Placed.place_of c.args.machine (meanings xs) c.args.ticks.now _ _ c.loop-step.machine c.loop-step.ticks (from_there xs i (i + 1) s here next) c.loop-step.invariant in
    let few = below c.loop-step.machine.count c.count.result c.args.limit c.loop-step.invariant.done.few c.count.ensures.count c.if-count-limit.false in
    tried c.args.limit g.S.Spec.object g.S.Placed.place_of c.args.machine (meanings xs) c.args.ticks.now (meaning s) (meanings (drop (i + 1) xs)) c.loop-step.machine c.in_ok-next.next c.loop-step.ticks c.step.new.ticks so few
    c.step.ensures.bound

pub returns-in_err-next-clause-most : goal.returns-in_err-next-clause-most
returns-in_err-next-clause-most g c =
    let xs = c.args.list.now in
    let i = c.loop-step.step-index in
    let s = c.step-item.result in
    let next : i + 1 ≡ suc i = omega arith in
    let here = slice_get_read xs (length xs) i s refl c.loop-step-test.true c.step-item.is in
    let so = at_rest c.args.limit g.S.Spec.object g.S.Placed.place_of c.args.machine (meanings xs) c.args.ticks.now _ _ c.loop-step.machine c.loop-step.ticks (from_there xs i (i + 1) s here next) c.loop-step.invariant in
    let few = below c.loop-step.machine.count c.count.result c.args.limit c.loop-step.invariant.done.few c.count.ensures.count c.if-count-limit.false in
    tried c.args.limit g.S.Spec.object g.S.Placed.place_of c.args.machine (meanings xs) c.args.ticks.now (meaning s) (meanings (drop (i + 1) xs)) c.loop-step.machine c.loop-step.machine c.loop-step.ticks c.step.new.ticks so few
    c.step.ensures.bound

-- ---- the end

pub returns-clause-drives : goal.returns-clause-drives
returns-clause-drives g c =
    let xs = c.args.list.now in
    let so = at_rest c.args.limit g.S.Spec.object g.S.Placed.place_of c.args.machine (meanings xs) c.args.ticks.now _ _ c.loop-step.machine c.loop-step.ticks (none_left xs c.loop-step.step-index (omega arith)) c.loop-step.invariant in
    so.done

pub returns-clause-most : goal.returns-clause-most
returns-clause-most g c =
    only_these c.args.limit g.S.Spec.object g.S.Placed.place_of c.args.machine (meanings c.args.list.now) c.args.ticks.now _ c.loop-step.machine c.loop-step.ticks c.loop-step.invariant
