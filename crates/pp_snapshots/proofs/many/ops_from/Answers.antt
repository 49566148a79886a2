use Rattle.std.proofs.Common.{◌≡◌, ◌+◌, ◌≤◌, ◌<◌, ◌++◌, ◌∷◌, [], ap, sym, ◌∙◌, arith, drop, get_or, length, subst, take}
use Rattle.std.proofs.lemmas.List.{drop-map, map-append, take_all}
use Rattle.pp_snapshots.specs.Many.{ops_made}
use Rattle.pp_snapshots.proofs.Kept.{made_here}
use Rattle.pp_snapshots.proofs.Manies.{drop_take_more, drop_take_none}
use Rattle.pp_snapshots.proofs.many.ops_from.Goals as goal

pub loop-k-init : goal.loop-k-init
loop-k-init g c = c.new-later.ensures.items ∙ ap ops_made (sym (drop_take_none c.in-Some.done.now.made.items c.args.from))

pub loop-k-preserved : goal.loop-k-preserved
loop-k-preserved g c =
    let l = c.in-Some.done.now.made.items in
    let k = c.loop-k.k in
    let m = c.index-made.result.now in
    let lt : k < length l = omega arith in
    let before = drop c.args.from (take k l) in
    let more : drop c.args.from (take (k + 1) l) ≡ before ++ m ∷ [] = drop_take_more l c.args.from k m c.loop-k.auto.k lt c.index-made.ensures in
    c.in_ok-push.ensures.items
    ∙ ap (λ w. w ++ m.op ∷ []) c.loop-k.invariant
    ∙ sym (map-append (λ x. x.op) before (m ∷ []))
    ∙ ap ops_made (sym more)

pub returns : goal.returns
returns g c =
    let d = c.in-Some.done.now in
    let l = d.made.items in
    let all : length l ≤ c.loop-k.k = omega arith in
    let there = c.in-Some.ensures.lookup in
    let lists = c.args.places.now.items in
    let same = c.deref.ensures.value in
    let value : d ≡ get_or lists c.args.place d = there.1 ∙ ap (λ w. get_or w c.args.place d) same in
    let within : c.args.place < length lists = subst (λ w. c.args.place < length w) same there.3.0 in
    c.loop-k.invariant
    ∙ ap (λ w. ops_made (drop c.args.from w)) (take_all c.loop-k.k l all)
    ∙ sym (drop-map (λ m. m.op) c.args.from l)
    ∙ ap (λ w. drop c.args.from (ops_made w)) (sym (made_here lists c.args.place d within value))
