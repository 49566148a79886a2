use Rattle.std.proofs.Common.{◌≡◌, ◌≤◌, ◌+◌, ◌++◌, ◌∷◌, [], ℕ, map, length, ap, subst, ◌∙◌, arith}
use Rattle.std.proofs.lemmas.List.{map-append}
use Rattle.std.proofs.lemmas.List.Sorted.{IsPermutation-map}
use Rattle.pp_attempts.specs.Trying.{ArePositions}
use Rattle.pp_attempts.proofs.LiningUp.{one_position_more, positions_permuted}
use Rattle.pp_attempts.proofs.order.by_first_id.Goals as goal

pub loop-position-preserved : goal.loop-position-preserved
loop-position-preserved g c =
    let ps = c.args.peaks.now in
    let n = c.loop-position.position in
    let os = c.loop-position.order.items in
    let further : n + 1 ≤ length ps = omega (arith, c.loop-position-test.true) in
    let one = (c.map_or-first.result, n) ∷ [] in
    let pushed : map (λ o. o.1) c.push.new.self.items ≡ map (λ o. o.1) os ++ n ∷ [] =
    ap (λ w. map (λ o. o.1) w) {y = os ++ one} c.in_ok-push.ensures.items ∙ map-append (λ o. o.1) os one in
    record {
      within = further;
      positions = one_position_more ps n (map (λ o. o.1) os) (map (λ o. o.1) c.push.new.self.items) c.index-peaks-position.result
          (c.loop-position-test.true, c.index-peaks-position.is) pushed c.loop-position.invariant.positions;
    }

pub returns : goal.returns
returns g c =
    let ps = c.args.peaks.now in
    let within = c.loop-position.invariant.within in
    let all : c.loop-position.position ≡ length ps = omega (arith, within, c.loop-position-test.false) in
    positions_permuted ps (length ps) (map (λ o. o.1) c.loop-position.order.items) (map (λ o. o.1) c.sort.new.self.items)
    (IsPermutation-map (λ o. o.1) c.loop-position.order.items c.sort.new.self.items c.in_ok-sort.ensures.permutation)
    (subst (λ (n : ℕ). ArePositions ps n (map (λ o. o.1) c.loop-position.order.items)) all c.loop-position.invariant.positions)
