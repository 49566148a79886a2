use Rattle.std.proofs.Common.{◌≡◌, ◌-◌, ◌+◌, ◌<◌, ◌++◌, ◌∙◌, ap, arith, get_or, length, refl, sym}
use Rattle.std.proofs.lemmas.List.{get_or_default}
use Rattle.std.proofs.lemmas.Option.{slice_get_read}
use Rattle.pp_styles.specs.Meanings.{meanings}
use Rattle.pp_styles.proofs.Dropping.{all_dropped, taken_here, unpulls_here}
use Rattle.pp_styles.proofs.Growing.{grown}
use Rattle.pp_styles.proofs.drops.unpull_at.Goals as goal

pub walk-preserved-then-position-from : goal.walk-preserved-then-position-from
walk-preserved-then-position-from g c =
    let t = c.args.tx.now in
    let u = c.args.source.now in
    let l = c.args.entries.now in
    let at = c.args.at.now in
    let n = c.walk.rest in
    let m = n - 1 in
    let from = c.walk.from in
    let p = get_or at m 0 in
    let left = c.walk.invariant.0 in
    let few = left.few in
    let within = left.within in
    let some = c.walk-test.true in
    let less = c.if-position-from.true in
    let next : n ≡ m + 1 = omega arith in
    let size : m < length at = omega arith in
    let is_p : p ≡ get_or at m p = get_or_default at m 0 p size in
    let there : p < length l = omega arith in
    let here = slice_get_read l (length l) p c.index-entries-position.result refl there c.index-entries-position.is in (
      taken_here t u l at n m from next left p is_p less,
      grown _ _ _ c.in_ok-unpull_one.ensures c.walk.invariant.1 (unpulls_here t u l at n m from next left p is_p c.requires.sorted less c.index-entries-position.result here),
    )

pub returns : goal.returns
returns g c =
    c.walk.invariant.1
    ∙ ap (λ w. meanings c.args.list.now ++ w)
    (all_dropped c.args.tx.now c.args.source.now c.args.entries.now c.args.at.now c.walk.rest c.walk.from (omega (arith, c.walk-test.false)) c.walk.invariant.0)
