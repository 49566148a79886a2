use Rattle.std.proofs.Common.{◌≡◌, ◌∙◌, ◌<◌, ◌≢◌, ◌+◌, ◌-◌, sum, take, ap, sym, subst, ℕ, suc, List}
use Rattle.std.proofs.Common.{get_or, length, arith}
use Rattle.std.proofs.lemmas.List.{get_or_read, get_or-set_other}
use Rattle.pp_certificate_exchanges.proofs.Heights.{height}
use Rattle.std.proofs.lemmas.List.Sums.{sum_by-take-le}
use Rattle.pp_certificate_exchanges.specs.Towers.{base, IsSummed, pairs}
use Rattle.pp_certificate_exchanges.proofs.Pairs.{upward, lowered, even_place, odd_place}
use Rattle.pp_certificate_exchanges.proofs.tower.+take_one.Goals as goal

pub take_one-before-requires : goal.take_one-before-requires
take_one-before-requires t c =
    let k : (base c.in-Level.above.value ≡ pairs c.in-Level.counts.items)
    × IsSummed c.in-Level.above.value = rw c.in-Level.is at c.requires.summed in
    let e : base c.deref_mut.result.now ≡ pairs c.in-Level.counts.items =
    ap base c.deref_mut.ensures.value ∙ k.0 in
    let b : base c.args.tower.now ≡ c.in-Level.counts.items = ap base c.in-Level.is in
    let small : sum c.in-Level.counts.items < 4294967296 =
    subst (λ (w : List ℕ). sum w < 4294967296) b c.requires.small in
    let there : c.args.i < length c.in-Level.counts.items =
    subst (λ (w : List ℕ). c.args.i < length w) b c.requires.there in
    let some : 0 < get_or c.in-Level.counts.items c.args.i 0 =
    subst (λ (w : List ℕ). 0 < get_or w c.args.i 0) b c.requires.some in
    let u = upward c.in-Level.counts.items (base c.deref_mut.result.now) c.args.i e small there
    some in
    let low : height c.deref_mut.result.now ≡ height c.in-Level.above.value =
    ap height c.deref_mut.ensures.value in
    let high : height c.args.tower.now ≡ suc (height c.in-Level.above.value) =
    ap height c.in-Level.is in (
      omega (arith, low, high, c.decreases),
      (
        subst IsSummed (sym c.deref_mut.ensures.value) k.1,
        (u.0, (u.1, u.2)),
      ),
    )

pub returns-then-i-eq0-clause-before : goal.returns-then-i-eq0-clause-before
returns-then-i-eq0-clause-before t c =
    let k : (base c.in-Level.above.value ≡ pairs c.in-Level.counts.items)
    × IsSummed c.in-Level.above.value = rw c.in-Level.is at c.requires.summed in
    let e : base c.deref_mut.result.now ≡ pairs c.in-Level.counts.items =
    ap base c.deref_mut.ensures.value ∙ k.0 in
    let b : base c.args.tower.now ≡ c.in-Level.counts.items = ap base c.in-Level.is in
    even_place c.in-Level.counts.items (base c.deref_mut.result.now) c.args.i
    c.take_one-before.result e c.if-i-eq0.true c.take_one-before.ensures.before
    ∙ ap (λ (w : List ℕ). sum (take c.args.i w)) (sym b)

pub returns-then-i-eq0-clause-summed : goal.returns-then-i-eq0-clause-summed
returns-then-i-eq0-clause-summed t c =
    let k : (base c.in-Level.above.value ≡ pairs c.in-Level.counts.items)
    × IsSummed c.in-Level.above.value = rw c.in-Level.is at c.requires.summed in
    let e : base c.deref_mut.result.now ≡ pairs c.in-Level.counts.items =
    ap base c.deref_mut.ensures.value ∙ k.0 in
    let b : base c.args.tower.now ≡ c.in-Level.counts.items = ap base c.in-Level.is in
    let there : c.args.i < length c.in-Level.counts.items =
    subst (λ (w : List ℕ). c.args.i < length w) b c.requires.there in
    let some : 0 < get_or c.in-Level.counts.items c.args.i 0 =
    subst (λ (w : List ℕ). 0 < get_or w c.args.i 0) b c.requires.some in (
      lowered c.in-Level.counts.items (base c.deref_mut.result.now)
          (base c.take_one-before.new.tower) c.args.i c.index_mut.result.now e there some
          (get_or_read c.in-Level.counts.items c.args.i c.index_mut.result.now there
          c.index_mut.ensures.value 0) c.take_one-before.ensures.base,
      c.take_one-before.ensures.summed,
    )

pub returns-else-i-eq0-clause-summed : goal.returns-else-i-eq0-clause-summed
returns-else-i-eq0-clause-summed t c =
    let k : (base c.in-Level.above.value ≡ pairs c.in-Level.counts.items)
    × IsSummed c.in-Level.above.value = rw c.in-Level.is at c.requires.summed in
    let e : base c.deref_mut.result.now ≡ pairs c.in-Level.counts.items =
    ap base c.deref_mut.ensures.value ∙ k.0 in
    let b : base c.args.tower.now ≡ c.in-Level.counts.items = ap base c.in-Level.is in
    let there : c.args.i < length c.in-Level.counts.items =
    subst (λ (w : List ℕ). c.args.i < length w) b c.requires.there in
    let some : 0 < get_or c.in-Level.counts.items c.args.i 0 =
    subst (λ (w : List ℕ). 0 < get_or w c.args.i 0) b c.requires.some in (
      lowered c.in-Level.counts.items (base c.deref_mut.result.now)
          (base c.take_one-before.new.tower) c.args.i c.index_mut.result.now e there some
          (get_or_read c.in-Level.counts.items c.args.i c.index_mut.result.now there
          c.index_mut.ensures.value 0) c.take_one-before.ensures.base,
      c.take_one-before.ensures.summed,
    )

pub returns-else-i-eq0-clause-before : goal.returns-else-i-eq0-clause-before
returns-else-i-eq0-clause-before t c =
    let k : (base c.in-Level.above.value ≡ pairs c.in-Level.counts.items)
    × IsSummed c.in-Level.above.value = rw c.in-Level.is at c.requires.summed in
    let e : base c.deref_mut.result.now ≡ pairs c.in-Level.counts.items =
    ap base c.deref_mut.ensures.value ∙ k.0 in
    let b : base c.args.tower.now ≡ c.in-Level.counts.items = ap base c.in-Level.is in
    let there : c.args.i < length c.in-Level.counts.items =
    subst (λ (w : List ℕ). c.args.i < length w) b c.requires.there in
    let o = odd_place c.in-Level.counts.items (base c.deref_mut.result.now) c.args.i
    c.take_one-before.result e c.if-i-eq0.false there c.take_one-before.ensures.before in
    let apart : c.args.i - 1 ≢ c.args.i = omega arith in
    let near : c.args.i - 1 < length c.in-Level.counts.items = omega arith in
    let same : c.index.result.now ≡ get_or c.in-Level.counts.items (c.args.i - 1) 0 =
    get_or_read c.in-Level.counts.items (c.args.i - 1) c.index.result.now near
    (c.index.ensures ∙ get_or-set_other c.in-Level.counts.items c.args.i (c.args.i - 1)
    (c.index_mut.result.now - 1) c.index.result.now apart) 0 in
    ap (λ n. c.take_one-before.result + n) same ∙ o
    ∙ ap (λ (w : List ℕ). sum (take c.args.i w)) (sym b)

pub overflow_add-result : goal.overflow_add-result
overflow_add-result t c =
    let k : (base c.in-Level.above.value ≡ pairs c.in-Level.counts.items)
    × IsSummed c.in-Level.above.value = rw c.in-Level.is at c.requires.summed in
    let e : base c.deref_mut.result.now ≡ pairs c.in-Level.counts.items =
    ap base c.deref_mut.ensures.value ∙ k.0 in
    let b : base c.args.tower.now ≡ c.in-Level.counts.items = ap base c.in-Level.is in
    let there : c.args.i < length c.in-Level.counts.items =
    subst (λ (w : List ℕ). c.args.i < length w) b c.requires.there in
    let o = odd_place c.in-Level.counts.items (base c.deref_mut.result.now) c.args.i
    c.take_one-before.result e c.if-i-eq0.false there c.take_one-before.ensures.before in
    let small : sum c.in-Level.counts.items < 4294967296 =
    subst (λ (w : List ℕ). sum w < 4294967296) b c.requires.small in
    let apart : c.args.i - 1 ≢ c.args.i = omega arith in
    let near : c.args.i - 1 < length c.in-Level.counts.items = omega arith in
    let same : c.index.result.now ≡ get_or c.in-Level.counts.items (c.args.i - 1) 0 =
    get_or_read c.in-Level.counts.items (c.args.i - 1) c.index.result.now near
    (c.index.ensures ∙ get_or-set_other c.in-Level.counts.items c.args.i (c.args.i - 1)
    (c.index_mut.result.now - 1) c.index.result.now apart) 0 in
    omega (arith, o, same, small, sum_by-take-le (λ (n : ℕ). n) c.in-Level.counts.items c.args.i)
