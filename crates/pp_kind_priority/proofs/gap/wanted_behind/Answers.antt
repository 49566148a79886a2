use Rattle.std.proofs.Common.{◌≢◌, ◌∙◌, ◌+◌, ◌-◌, ◌^◌, ◌<◌, sym, w64, of_z, FitsSigned, rules}
use Rattle.std.proofs.Common.{Some, ap, arith}
use Rattle.pp_kind_priority.specs.declared.op.PrioOp.TheVariants.{Insert, Take, Least}
use Rattle.pp_kind_priority.specs.declared.gap.PrioGap.TheVariants as gap
use Rattle.pp_kind_priority.proofs.Gaps.{put_counted, taken_again, seen_again, led_by, stored_alike}
use Rattle.pp_kind_priority.proofs.Gaps.{put_other, taken_other, seen_other}
use Rattle.pp_kind_priority.proofs.gap.wanted_behind.Goals as goal

pub returns-then-put-value : goal.returns-then-put-value
returns-then-put-value c =
    let fits : FitsSigned w64 c.args.value = search rules in
    let also : FitsSigned w64 c.in-Insert.put = search rules in
    let same = stored_alike c.args.value c.in-Insert.put fits also c.if-put-value.true in
    put_counted c.args.value c.args.copies c.args.op.now (c.args.copies + 1 < 2 ^ 64)
    c.checked_add.result (c.in-Insert.is ∙ ap Insert same) c.checked_add.ensures

pub returns-else-put-value : goal.returns-else-put-value
returns-else-put-value c =
    let other : c.args.value ≢ c.in-Insert.put =
    λ e. c.if-put-value.false (ap (of_z w64) (sym e)) in
    let n = c.args.copies in
    led_by (gap.Insert c.args.value n) (gap.Insert c.args.value n) c.args.op.now
    (Insert c.in-Insert.put) c.in-Insert.is (put_other c.args.value c.in-Insert.put n other)

pub returns-then-taken-value : goal.returns-then-taken-value
returns-then-taken-value c =
    let found = rw c.in-Take-Some.is at c.in-Take-Some.value-is in
    let fits : FitsSigned w64 c.args.value = search rules in
    let also : FitsSigned w64 c.in-Take-Some.taken = search rules in
    let same = stored_alike c.args.value c.in-Take-Some.taken fits also c.if-taken-value.true in
    let most = c.max.ensures in
    let n = c.args.copies in
    let m = c.max.result - 1 in
    led_by (gap.Insert c.args.value n) (gap.Insert c.args.value m) c.args.op.now
    (Take (Some c.args.value)) (c.in-Take-Some.is ∙ ap Take (found ∙ ap Some same))
    (taken_again c.args.value n m (omega arith) (omega arith))

pub returns-else-taken-value : goal.returns-else-taken-value
returns-else-taken-value c =
    let found = rw c.in-Take-Some.is at c.in-Take-Some.value-is in
    let other : c.args.value ≢ c.in-Take-Some.taken =
    λ e. c.if-taken-value.false (ap (of_z w64) (sym e)) in
    let n = c.args.copies in
    led_by (gap.Insert c.args.value n) (gap.Insert c.args.value n) c.args.op.now
    (Take (Some c.in-Take-Some.taken)) (c.in-Take-Some.is ∙ ap Take found)
    (taken_other c.args.value c.in-Take-Some.taken n other)

pub returns-then-seen-value : goal.returns-then-seen-value
returns-then-seen-value c =
    let found = rw c.in-Least-Some.is at c.in-Least-Some.value-is in
    let fits : FitsSigned w64 c.args.value = search rules in
    let also : FitsSigned w64 c.in-Least-Some.seen = search rules in
    let same = stored_alike c.args.value c.in-Least-Some.seen fits also c.if-seen-value.true in
    let most = c.max-then-seen-value.ensures in
    let n = c.args.copies in
    let m = c.max-then-seen-value.result in
    led_by (gap.Insert c.args.value n) (gap.Insert c.args.value m) c.args.op.now
    (Least (Some c.args.value))
    (c.in-Least-Some.is ∙ ap Least (found ∙ ap Some same))
    (seen_again c.args.value n m (omega arith) (omega arith))

pub returns-else-seen-value : goal.returns-else-seen-value
returns-else-seen-value c =
    let found = rw c.in-Least-Some.is at c.in-Least-Some.value-is in
    let other : c.args.value ≢ c.in-Least-Some.seen =
    λ e. c.if-seen-value.false (ap (of_z w64) (sym e)) in
    let n = c.args.copies in
    led_by (gap.Insert c.args.value n) (gap.Insert c.args.value n) c.args.op.now
    (Least (Some c.in-Least-Some.seen)) (c.in-Least-Some.is ∙ ap Least found)
    (seen_other c.args.value c.in-Least-Some.seen n other)
