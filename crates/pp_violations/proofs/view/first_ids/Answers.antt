use Rattle.std.proofs.Common.{◌≡◌, ◌==◌, ◌∙◌, ◌<◌, ap, arith, length, take, min}
use Rattle.std.specs.List.{list_any}
use Rattle.std.proofs.lemmas.List.{take_min}
use Rattle.pp_model.specs.Serial.{has_id}
use Rattle.pp_violations.proofs.Views.{has_read}
use Rattle.pp_violations.proofs.view.first_ids.Goals as goal

pub loop-k-preserved : goal.loop-k-preserved
loop-k-preserved c = λ j.
    let lt : c.loop-k.k < length c.args.ids.now = omega arith in
    c.in_ok-add_id.ensures j ∙ has_read j c.args.ids.now c.loop-k.k lt (list_any (λ i. j == i) c.loop-k.set) (c.loop-k.invariant j)

pub returns : goal.returns
returns c = λ j.
    let end : c.loop-k.k ≡ min c.args.count (length c.args.ids.now) = omega arith in
    c.loop-k.invariant j ∙ ap (λ n. has_id j (take n c.args.ids.now)) end ∙ ap (λ l. has_id j l) (take_min c.args.count c.args.ids.now)
