use Rattle.std.proofs.Common.{◌≡◌, ◌+◌, ◌≤◌, ◌<◌, ◌++◌, ◌∷◌, [], ap, sym, ◌∙◌, arith, drop, length, subst, take}
use Rattle.std.proofs.lemmas.List.{drop-map, length-drop, length-map, length-take-le, map-append, take_all}
use Rattle.pp_snapshots.specs.ByPart.{AddsListed}
use Rattle.pp_snapshots.specs.Many.{ops_made}
use Rattle.pp_snapshots.proofs.Listed.{adds_more}
use Rattle.pp_snapshots.proofs.Manies.{drop_take_more}
use Rattle.pp_snapshots.proofs.by_part.add_from.Goals as goal

pub loop-k-preserved : goal.loop-k-preserved
loop-k-preserved g c =
    let part = g.S.Parted.part_of in
    let l = c.args.done.now.made.items in
    let from = c.args.from in
    let k = c.loop-k.k in
    let m = c.index-made.result.now in
    let old = c.args.lists.now.entries in
    let lt : k < length l = omega arith in
    let le : k ≤ length l = omega arith in
    let before = drop from (take k l) in
    let more : drop from (take (k + 1) l) ≡ before ++ m ∷ [] = drop_take_more l from k m c.loop-k.auto.k lt c.index-made.ensures in
    let count = length-map before (λ x. x.op) in
    let dropped = length-drop from (take k l) in
    let taken = length-take-le k l le in
    let at : from + length (ops_made before) ≡ k = omega (arith, count, dropped, taken) in
    let mid = c.loop-k.lists.entries in
    let new = c.add.new.lists.entries in
    subst (λ w. AddsListed part old from w new) (sym (ap ops_made more ∙ map-append (λ x. x.op) before (m ∷ [])))
    (adds_more part old mid new from (ops_made before) (m.op ∷ []) c.loop-k.invariant (subst (λ i. AddsListed part mid i (m.op ∷ []) new) (sym at) c.in_ok-add.ensures))

pub returns : goal.returns
returns g c =
    let part = g.S.Parted.part_of in
    let l = c.args.done.now.made.items in
    let from = c.args.from in
    let all : length l ≤ c.loop-k.k = omega arith in
    subst (λ w. AddsListed part c.args.lists.now.entries from w c.loop-k.lists.entries) (ap (λ w. ops_made (drop from w)) (take_all c.loop-k.k l all) ∙ sym (drop-map (λ m. m.op) from l)) c.loop-k.invariant
