use Rattle.std.proofs.Common.{◌≡◌, ◌<◌, ◌∙◌, ℕ, List, get_or, set, ◌-◌, ◌+◌, length, replicate, sum}
use Rattle.std.proofs.Common.{take, sym, ap, subst, arith, eqb-true}
use Rattle.pp_certificate_exchanges.specs.Exchanges.{position}
use Rattle.pp_certificate_exchanges.specs.Towers.{base}
use Rattle.pp_certificate_exchanges.proofs.Marks.{draws_none, draw_in, draw_there, draw_some, draws_more, sum-bits}
use Rattle.pp_certificate_exchanges.proofs.Marks.{empty_passes, some_is, Draws}
use Rattle.pp_certificate_exchanges.proofs.passes.passed.Goals as goal

pub returns-then-is_empty : goal.returns-then-is_empty
returns-then-is_empty g c =
    c.new-counts.ensures.items ∙ sym (empty_passes c.args.log.now c.args.target.now
    (eqb-true (length c.args.log.now) 0 (sym c.if-is_empty.ensures)) c.requires.permutes)

pub loop-item-init : goal.loop-item-init
loop-item-init g c =
    let ones : base c.in_ok-present.present ≡ replicate (length c.args.log.now) 1 =
    c.in_ok-present.ensures.base ∙ c.in_ok-vec.ensures.items_if_clones_equal (λ y h. h) in
    record {
      summed = c.in_ok-present.ensures.summed;
      draws = subst (λ (w : List ℕ). Draws c.args.log.now c.args.target.now w
          c.new-counts.result.items 0) (sym ones)
          (draws_none c.args.log.now c.args.target.now c.requires.permutes c.new-counts.result.items
          c.new-counts.ensures.items);
    }

pub take_one-requires-clause-small : goal.take_one-requires-clause-small
take_one-requires-clause-small g c =
    omega (
      arith,
      sum-bits (base c.loop-item.present) c.loop-item.invariant.draws.bits,
      c.loop-item.invariant.draws.long,
      c.requires.few,
    )

pub unreachable-requires : goal.unreachable-requires
unreachable-requires g c =
    let i = draw_in c.args.log.now c.args.target.now c.requires.permutes (base c.loop-item.present)
    c.loop-item.counts.items c.loop-item.item-index c.item-item.result
    c.loop-item.invariant.draws c.loop-item-test.true c.item-item.is in
    let e = c.in-None.ensures.value ∙ c.in_ok-positions.ensures c.item-item.result i in
    cc

pub take_one-requires-clause-there : goal.take_one-requires-clause-there
take_one-requires-clause-there g c =
    let i = draw_in c.args.log.now c.args.target.now c.requires.permutes (base c.loop-item.present)
    c.loop-item.counts.items c.loop-item.item-index c.item-item.result
    c.loop-item.invariant.draws c.loop-item-test.true c.item-item.is in
    let at = some_is c.in-Some.position.now (position c.item-item.result.id c.args.log.now)
    (c.in-Some.ensures.value ∙ c.in_ok-positions.ensures c.item-item.result i) in
    subst (λ n. n < length (base c.loop-item.present)) (sym at)
    (draw_there c.args.log.now c.args.target.now c.requires.permutes (base c.loop-item.present)
    c.loop-item.counts.items c.loop-item.item-index c.item-item.result
    c.loop-item.invariant.draws c.loop-item-test.true c.item-item.is)

pub take_one-requires-clause-some : goal.take_one-requires-clause-some
take_one-requires-clause-some g c =
    let i = draw_in c.args.log.now c.args.target.now c.requires.permutes (base c.loop-item.present)
    c.loop-item.counts.items c.loop-item.item-index c.item-item.result
    c.loop-item.invariant.draws c.loop-item-test.true c.item-item.is in
    let at = some_is c.in-Some.position.now (position c.item-item.result.id c.args.log.now)
    (c.in-Some.ensures.value ∙ c.in_ok-positions.ensures c.item-item.result i) in
    subst (λ n. 0 < get_or (base c.loop-item.present) n 0) (sym at)
    (draw_some c.args.log.now c.args.target.now c.requires.permutes (base c.loop-item.present)
    c.loop-item.counts.items c.loop-item.item-index c.item-item.result
    c.loop-item.invariant.draws c.loop-item-test.true c.item-item.is)

pub loop-item-preserved : goal.loop-item-preserved
loop-item-preserved g c =
    let ms : List ℕ = base c.loop-item.present in
    let i = draw_in c.args.log.now c.args.target.now c.requires.permutes ms c.loop-item.counts.items
    c.loop-item.item-index c.item-item.result c.loop-item.invariant.draws c.loop-item-test.true
    c.item-item.is in
    let at = some_is c.in-Some.position.now (position c.item-item.result.id c.args.log.now)
    (c.in-Some.ensures.value ∙ c.in_ok-positions.ensures c.item-item.result i) in
    let drawn = draws_more c.args.log.now c.args.target.now c.requires.permutes ms
    c.loop-item.counts.items c.loop-item.item-index c.item-item.result
    c.loop-item.invariant.draws c.loop-item-test.true c.item-item.is
    (base c.take_one.new.tower) c.take_one.result (c.take_one.ensures.before
    ∙ ap (λ n. sum (take n ms)) at) (c.take_one.ensures.base
    ∙ ap (λ n. set ms n (get_or ms n 0 - 1)) at) in
    record {
      summed = c.take_one.ensures.summed;
      draws = subst (λ (w : List ℕ). Draws c.args.log.now c.args.target.now
          (base c.take_one.new.tower) w (c.loop-item.item-index + 1))
          (sym c.in_ok-push-in-Some.ensures.items) drawn;
    }
