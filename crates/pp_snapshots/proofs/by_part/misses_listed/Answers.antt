use Rattle.std.proofs.Common.{◌≡◌, ◌+◌, ◌-◌, ◌<◌, ◌≤◌, ◌++◌, ◌∷◌, [], ◌∙◌, ap, arith, drop, length, sym, take}
use Rattle.std.proofs.lemmas.List.{drop_all}
use Rattle.pp_snapshots.specs.ByPart.{listed_in, listed_of, numbered_of}
use Rattle.pp_snapshots.proofs.Listed.{last_says, none_left, unlisted}
use Rattle.pp_snapshots.proofs.Manies.{cut_at}
use Rattle.pp_snapshots.proofs.by_part.misses_listed.Goals as goal

pub returns-in_default : goal.returns-in_default
returns-in_default g c = λ h is.
    let part = g.S.Parted.part_of in
    let op = c.args.op.now in
    let H = h (g.S.Placed.place_of op) in
    let here = ap (λ p. listed_of p c.args.by_part.now.lists.entries) c.part.ensures in
    sym (unlisted part op 0 c.args.from H (sym is ∙ sym here ∙ ap listed_in (sym c.in_default.ensures.value)))

pub returns-then-count-eq0 : goal.returns-then-count-eq0
returns-then-count-eq0 g c = λ h is.
    let part = g.S.Parted.part_of in
    let op = c.args.op.now in
    let H = h (g.S.Placed.place_of op) in
    let l = c.in-Some.list.now.ops.items in
    let here = ap (λ p. listed_of p c.args.by_part.now.lists.entries) c.part.ensures in
    let none : length l ≤ 0 = omega arith in
    sym (unlisted part op 0 c.args.from H (sym is ∙ sym here ∙ ap listed_in (sym c.in-Some.ensures.value) ∙ none_left l none))

pub returns : goal.returns
returns g c = λ h is.
    let part = g.S.Parted.part_of in
    let op = c.args.op.now in
    let H = h (g.S.Placed.place_of op) in
    let l = c.in-Some.list.now.ops.items in
    let e = c.index-last.result.now in
    let here = ap (λ p. listed_of p c.args.by_part.now.lists.entries) c.part.ensures in
    let k = c.len-count.result - 1 in
    let lt : k < length l = omega arith in
    let end : length l ≤ k + 1 = omega arith in
    let cut : l ≡ take k l ++ (e ∷ drop (k + 1) l) = cut_at l k e lt c.index-last.ensures in
    let whole : numbered_of part op 0 H ≡ take k l ++ e ∷ [] = sym is ∙ sym here ∙ ap listed_in (sym c.in-Some.ensures.value) ∙ cut ∙ ap (λ w. take k l ++ (e ∷ w)) (drop_all (k + 1) l end) in
    sym (last_says part op c.args.from H (take k l) e whole)
