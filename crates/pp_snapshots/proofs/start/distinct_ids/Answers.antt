use Rattle.std.proofs.Common.{◌≡◌, ◌<◌, ◌+◌, ◌-◌, ◌∙◌, ℕ, drop, length, map, reverse, subst, sym, arith}
use Rattle.pp_model.specs.Object.{HasDistinctIds}
use Rattle.pp_summary.proofs.Starting.{distinct_back, ids_back, repeated}
use Rattle.pp_snapshots.proofs.start.distinct_ids.Goals as goal

pub returns-then-contains-clause-none : goal.returns-then-contains-clause-none
returns-then-contains-clause-none g c =
    let k : ℕ = c.loop-left.left - 1 in
    let lt : k < length c.args.items.now = omega arith in
    let back : c.loop-left.left ≡ k + 1 = omega arith in
    repeated c.args.items.now k c.index-items-left.result lt c.index-items-left.is c.loop-left.ids
    (subst (λ (n : ℕ). reverse c.loop-left.ids ≡ map (λ q. q.id) (drop n c.args.items.now)) back c.loop-left.invariant.ids)
    (sym c.contains.ensures ∙ c.if-contains.true)

pub insert-requires : goal.insert-requires
insert-requires g c = sym c.contains.ensures ∙ c.if-contains.false

pub loop-left-preserved : goal.loop-left-preserved
loop-left-preserved g c =
    let k : ℕ = c.loop-left.left - 1 in
    let lt : k < length c.args.items.now = omega arith in
    let back : c.loop-left.left ≡ k + 1 = omega arith in
    let ids = subst (λ (n : ℕ). reverse c.loop-left.ids ≡ map (λ q. q.id) (drop n c.args.items.now)) back c.loop-left.invariant.ids in
    let new = sym c.contains.ensures ∙ c.if-contains.false in
    record {
      within = omega arith;
      ids = ids_back c.args.items.now k c.index-items-left.result lt c.index-items-left.is c.loop-left.ids ids c.insert.new.self c.in_ok-insert.ensures.ok;
      distinct = distinct_back c.args.items.now k c.index-items-left.result lt c.index-items-left.is c.loop-left.ids ids new
          (subst (λ (n : ℕ). HasDistinctIds (drop n c.args.items.now)) back c.loop-left.invariant.distinct);
    }

pub returns-clause-some : goal.returns-clause-some
returns-clause-some g c =
    let none_left : c.loop-left.left ≡ 0 = omega arith in
    subst (λ (n : ℕ). HasDistinctIds (drop n c.args.items.now)) none_left c.loop-left.invariant.distinct
