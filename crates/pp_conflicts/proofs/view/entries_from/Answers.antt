use Rattle.std.proofs.Common.{◌≤◌, ◌<◌, ◌++◌, ◌∷◌, [], ◌∙◌, ap, arith, drop, length, sym}
use Rattle.std.proofs.lemmas.List.{take_all}
use Rattle.pp_snapshots.proofs.Manies.{drop_take_more, drop_take_none}
use Rattle.pp_conflicts.proofs.view.entries_from.Goals as goal

pub loop-k-init : goal.loop-k-init
loop-k-init g c = c.new-list.ensures.items ∙ sym (drop_take_none c.args.entries.now c.args.from)

pub loop-k-preserved : goal.loop-k-preserved
loop-k-preserved g c =
    let l = c.args.entries.now in
    let lt : c.loop-k.k < length l = omega arith in
    c.in_ok-push.ensures.items ∙ ap (λ w. w ++ c.index-entries-k.result ∷ []) c.loop-k.invariant
    ∙ sym (drop_take_more l c.args.from c.loop-k.k c.index-entries-k.result c.loop-k.auto.k lt c.index-entries-k.is)

pub returns : goal.returns
returns g c =
    let l = c.args.entries.now in
    let all : length l ≤ c.loop-k.k = omega arith in
    c.loop-k.invariant ∙ ap (λ w. drop c.args.from w) (take_all c.loop-k.k l all)
