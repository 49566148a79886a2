use Rattle.std.proofs.Common.{◌≡◌, ◌+◌, ◌<◌, ◌≤◌, ◌++◌, ◌∷◌, [], ◌∙◌, ap, append-nil, append_assoc, arith, drop, length, sym, take}
use Rattle.std.proofs.lemmas.Bool.{le-leb, lt-leb}
use Rattle.std.proofs.lemmas.List.{drop_all, length-append}
use Rattle.pp_snapshots.specs.ByPart.{listed_in, listed_of, numbered_of}
use Rattle.pp_snapshots.specs.Costs.{ops_of_part}
use Rattle.pp_snapshots.proofs.Listed.{firsts, firsts_go, firsts_of, firsts_stop}
use Rattle.pp_snapshots.proofs.by_part.first_of_part.Goals as goal

pub returns-in_default : goal.returns-in_default
returns-in_default g c = λ h is.
    let part = g.S.Parted.part_of in
    let op = c.args.op.now in
    let n = c.args.seen in
    let H = h (g.S.Placed.place_of op) in
    let here = ap (λ p. listed_of p c.args.by_part.now.lists.entries) c.part.ensures in
    let none : [] ≡ numbered_of part op 0 H = ap listed_in c.in_default.ensures.value ∙ here ∙ is in
    let told : [] ≡ ops_of_part part op (take n H) = firsts_of part op n H [] none in
    let size = ap (λ l. length l) (sym told) in
    (c.new-first.ensures.items ∙ told, le-leb (length (ops_of_part part op (take n H))) c.args.most (omega (arith, size)))

pub returns-then-seen-one : goal.returns-then-seen-one
returns-then-seen-one g c = λ h is.
    let part = g.S.Parted.part_of in
    let op = c.args.op.now in
    let n = c.args.seen in
    let H = h (g.S.Placed.place_of op) in
    let l = c.in-Some.list.now.ops.items in
    let here = ap (λ p. listed_of p c.args.by_part.now.lists.entries) c.part.ensures in
    let told = firsts_of part op n H l (ap listed_in c.in-Some.ensures.value ∙ here ∙ is) in
    let k = c.loop-k.k in
    let e = c.index-one.result.now in
    let lt : k < length l = omega arith in
    let le : n ≤ e.number = omega arith in
    let first = c.loop-k.first.items in
    let inv = c.loop-k.invariant in
    let all : first ≡ ops_of_part part op (take n H) = sym (append-nil first) ∙ ap (λ w. first ++ w) (sym (firsts_stop n l k e lt c.index-one.ensures le)) ∙ sym inv.0 ∙ told in
    let size = ap (λ l. length l) all in
    (all, le-leb (length (ops_of_part part op (take n H))) c.args.most (omega (arith, size, inv.1, inv.2)))

pub returns-then-most-k : goal.returns-then-most-k
returns-then-most-k g c = λ h is.
    let part = g.S.Parted.part_of in
    let op = c.args.op.now in
    let n = c.args.seen in
    let H = h (g.S.Placed.place_of op) in
    let l = c.in-Some.list.now.ops.items in
    let here = ap (λ p. listed_of p c.args.by_part.now.lists.entries) c.part.ensures in
    let told = firsts_of part op n H l (ap listed_in c.in-Some.ensures.value ∙ here ∙ is) in
    let k = c.loop-k.k in
    let e = c.index-one.result.now in
    let lt : k < length l = omega arith in
    let le : e.number < n = omega arith in
    let first = c.loop-k.first.items in
    let inv = c.loop-k.invariant in
    let rest = firsts n (drop (k + 1) l) in
    let all : first ++ (e.op ∷ rest) ≡ ops_of_part part op (take n H) = ap (λ w. first ++ w) (sym (firsts_go n l k e lt c.index-one.ensures le)) ∙ sym inv.0 ∙ told in
    let size = ap (λ l. length l) (sym all) ∙ length-append first (e.op ∷ rest) in
    lt-leb (length (ops_of_part part op (take n H))) c.args.most (omega (arith, size, inv.1, inv.2))

pub loop-k-preserved : goal.loop-k-preserved
loop-k-preserved g c =
    let n = c.args.seen in
    let l = c.in-Some.list.now.ops.items in
    let k = c.loop-k.k in
    let e = c.index-one.result.now in
    let lt : k < length l = omega arith in
    let le : e.number < n = omega arith in
    let first = c.loop-k.first.items in
    let inv = c.loop-k.invariant in
    let rest = firsts n (drop (k + 1) l) in
    let pushed = c.in_ok-push.ensures.items in
    let size = ap (λ l. length l) pushed ∙ length-append first (e.op ∷ []) in (
      inv.0 ∙ ap (λ w. first ++ w) (firsts_go n l k e lt c.index-one.ensures le) ∙ sym (append_assoc first (e.op ∷ []) rest) ∙ ap (λ w. w ++ rest) (sym pushed),
      omega (arith, size, inv.1),
      omega arith,
    )

pub returns : goal.returns
returns g c = λ h is.
    let part = g.S.Parted.part_of in
    let op = c.args.op.now in
    let n = c.args.seen in
    let H = h (g.S.Placed.place_of op) in
    let l = c.in-Some.list.now.ops.items in
    let here = ap (λ p. listed_of p c.args.by_part.now.lists.entries) c.part.ensures in
    let told = firsts_of part op n H l (ap listed_in c.in-Some.ensures.value ∙ here ∙ is) in
    let k = c.loop-k.k in
    let end : length l ≤ k = omega arith in
    let first = c.loop-k.first.items in
    let inv = c.loop-k.invariant in
    let all : first ≡ ops_of_part part op (take n H) = sym (append-nil first) ∙ ap (λ w. first ++ firsts n w) (sym (drop_all k l end)) ∙ sym inv.0 ∙ told in
    let size = ap (λ l. length l) all in
    (all, le-leb (length (ops_of_part part op (take n H))) c.args.most (omega (arith, size, inv.1, inv.2)))
