use Rattle.std.proofs.Common.{◌∙◌, w64, FitsSigned, rules, Some, ap}
use Rattle.pp_kind_priority.specs.declared.op.PrioOp.TheVariants.{Insert, Take, Least}
use Rattle.pp_kind_priority.specs.declared.gap.PrioGap.TheVariants as gap
use Rattle.pp_kind_priority.proofs.Gaps.{put_beside, taken_below, seen_below, led_by, stored_below}
use Rattle.pp_kind_priority.proofs.gap.is_legal_with.Goals as goal

pub returns-in-Insert : goal.returns-in-Insert
returns-in-Insert c = λ legal.
    led_by (gap.Take c.args.value) (gap.Take c.args.value) c.args.op.now
    (Insert c.in-Insert.value) c.in-Insert.is (put_beside c.args.value c.in-Insert.value)

pub returns-in-Take-Some : goal.returns-in-Take-Some
returns-in-Take-Some c = λ legal.
    let fits : FitsSigned w64 c.args.value = search rules in
    let also : FitsSigned w64 c.in-Take-Some.taken = search rules in
    let found = rw c.in-Take-Some.is at c.in-Take-Some.value-is in
    let low = stored_below c.args.value c.in-Take-Some.taken fits also legal in
    led_by (gap.Take c.args.value) (gap.Take c.args.value) c.args.op.now
    (Take (Some c.in-Take-Some.taken)) (c.in-Take-Some.is ∙ ap Take found)
    (taken_below c.args.value c.in-Take-Some.taken low)

pub returns-in-Least-Some : goal.returns-in-Least-Some
returns-in-Least-Some c = λ legal.
    let fits : FitsSigned w64 c.args.value = search rules in
    let also : FitsSigned w64 c.in-Least-Some.seen = search rules in
    let found = rw c.in-Least-Some.is at c.in-Least-Some.value-is in
    let low = stored_below c.args.value c.in-Least-Some.seen fits also legal in
    led_by (gap.Take c.args.value) (gap.Take c.args.value) c.args.op.now
    (Least (Some c.in-Least-Some.seen)) (c.in-Least-Some.is ∙ ap Least found)
    (seen_below c.args.value c.in-Least-Some.seen low)
