use Rattle.std.proofs.Common.{◌≡◌, ◌+◌, ◌<◌, ◌≤◌, suc, length, get_or, Err, arith, add-zero, subst}
use Rattle.pp_certificate_checker.specs.Certificates.{AreExchanged, Position, Pair}
use Rattle.pp_certificate_checker.proofs.Turning.{all_taken, no_position, no_swap, one_swap}
use Rattle.pp_certificate_checker.proofs.exchange.exchange_all.Goals as goal
use Rattle.pp_certificate_checker.proofs.exchange.exchange_all.Goals.{then-i-len-via-then-i-len}
use Rattle.pp_certificate_checker.proofs.exchange.exchange_all.Goals.{then-i-len-via-else-i-len+then-len-i-lt2}

pub loop-position-init : goal.loop-position-init
loop-position-init g c = λ shape count r h.
    subst (λ n. AreExchanged g.S.Spec.object shape c.args.list.now.items n c.args.positions.now r)
    (add-zero count) h

pub returns-then-i-len : goal.returns-then-i-len
returns-then-i-len g c =
    let past : length c.loop-position.list.items
    ≤ get_or c.args.positions.now c.loop-position.position-index 0 + 1 =
    elim c.then-i-len.branch [
      | then-i-len-via-then-i-len w ↦ omega arith
      | then-i-len-via-else-i-len+then-len-i-lt2 w ↦ omega arith
    ] in
    λ shape count. c.loop-position.invariant shape count (Err Position)
    (no_position g.S.Spec.object shape c.args.positions.now c.loop-position.position-index count
    c.loop-position-test.true c.loop-position.list.items past)

pub returns-then-not-swaps : goal.returns-then-not-swaps
returns-then-not-swaps g c =
    let there : suc (get_or c.args.positions.now c.loop-position.position-index 0)
    < length c.loop-position.list.items =
    omega arith in
    let a = c.index.result.now in
    let b = c.index-in-loop-position.result.now in
    λ shape count. c.loop-position.invariant shape count (Err (Pair a.id b.id))
    (no_swap g.S.Spec.object shape c.args.positions.now c.loop-position.position-index count
    c.loop-position-test.true c.loop-position.list.items a b there c.index.ensures
    c.index-in-loop-position.ensures (λ s. let t = c.if-not-swaps.ensures.only s in cc))

pub loop-position-preserved : goal.loop-position-preserved
loop-position-preserved g c =
    let there : suc (get_or c.args.positions.now c.loop-position.position-index 0)
    < length c.loop-position.list.items =
    omega arith in
    λ shape count r h. c.loop-position.invariant shape count r
    (one_swap g.S.Spec.object shape c.args.positions.now c.loop-position.position-index count
    c.loop-position-test.true c.loop-position.list.items c.index.result.now
    c.index-in-loop-position.result.now there c.index.ensures c.index-in-loop-position.ensures
    (c.swaps.ensures.swaps c.if-not-swaps.false) c.swap.new.self.items c.swap.ensures.items r h)

pub returns : goal.returns
returns g c =
    let end : c.loop-position.position-index ≡ length c.args.positions.now = omega arith in
    λ shape count. c.loop-position.invariant shape count _
    (all_taken g.S.Spec.object shape c.args.positions.now c.loop-position.position-index count
    c.loop-position.list.items end)
