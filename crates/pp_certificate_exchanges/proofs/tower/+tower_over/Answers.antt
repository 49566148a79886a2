use Rattle.std.proofs.Common.{◌≡◌, length, sum, ap, arith, rules, List, ℕ}
use Rattle.pp_certificate_exchanges.specs.Towers.{pairs}
use Rattle.pp_certificate_exchanges.proofs.Pairs.{length-pairs, sum-pairs}
use Rattle.pp_certificate_exchanges.proofs.tower.+tower_over.Goals as goal

pub tower_over-requires : goal.tower_over-requires
tower_over-requires t c =
    let e : c.in_ok-sums.field-0.items ≡ pairs c.args.counts.items = search rules in
    let l : length c.in_ok-sums.field-0.items ≡ length (pairs c.args.counts.items) =
    ap (λ (w : List ℕ). length w) e in
    let k = length-pairs c.args.counts.items (omega (arith, c.requires.some)) in (
      omega (arith, l, k.1),
      (
        omega (arith, l, k.0),
        omega
            (arith, c.requires.small, sum-pairs c.args.counts.items, ap (λ (w : List ℕ). sum w) e),
      ),
    )
