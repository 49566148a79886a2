use Rattle.std.proofs.Common.{◌≡◌, ◌<◌, ◌≤◌, ◌+◌, ◌∙◌, ap, arith, get_or, length, sym, take}
use Rattle.pp_summary.specs.Seen.{seen_total}
use Rattle.pp_summary.proofs.Counts.{total_next, total_taken}
use Rattle.pp_summary.proofs.seen.total.Goals as goal

pub overflow_add-total : goal.overflow_add-total
overflow_add-total c =
    let lt : c.loop-k.k < length c.args.entries.now = omega arith in
    let next = total_next c.args.entries.now c.loop-k.k lt in
    let most = total_taken (c.loop-k.k + 1) c.args.entries.now in
    let so_far : c.loop-k.total ≡ seen_total (take c.loop-k.k c.args.entries.now) = c.loop-k.invariant in
    omega (arith, next, most, so_far, c.requires.few)

pub loop-k-preserved : goal.loop-k-preserved
loop-k-preserved c =
    let lt : c.loop-k.k < length c.args.entries.now = omega arith in
    ap (λ n. n + (get_or c.args.entries.now c.loop-k.k (0, 0)).1) c.loop-k.invariant ∙ sym (total_next c.args.entries.now c.loop-k.k lt)
