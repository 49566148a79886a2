use Rattle.std.proofs.Common.{◌≡◌, ◌<◌, ◌+◌, ◌-◌, ℕ, drop, length, map, reverse, subst, arith}
use Rattle.pp_machine.proofs.Starting.{differs_from_later, ids_back}
use Rattle.pp_machine.proofs.machine.start.used_ids.Goals as goal

pub insert-requires : goal.insert-requires
insert-requires g c =
    let k : ℕ = c.loop-left.left - 1 in
    let lt : k < length c.args.items.now = omega arith in
    let back : c.loop-left.left ≡ k + 1 = omega arith in
    differs_from_later c.args.items.now k c.index-items-left.result lt c.index-items-left.is c.requires c.loop-left.ids
    (subst (λ (n : ℕ). reverse c.loop-left.ids ≡ map (λ q. q.id) (drop n c.args.items.now)) back c.loop-left.invariant.ids)

pub loop-left-preserved : goal.loop-left-preserved
loop-left-preserved g c =
    let k : ℕ = c.loop-left.left - 1 in
    let lt : k < length c.args.items.now = omega arith in
    let back : c.loop-left.left ≡ k + 1 = omega arith in
    record {
      within = omega arith;
      ids =
          ids_back c.args.items.now k c.index-items-left.result lt c.index-items-left.is c.loop-left.ids c.insert.new.self
          (subst (λ (n : ℕ). reverse c.loop-left.ids ≡ map (λ q. q.id) (drop n c.args.items.now)) back c.loop-left.invariant.ids) c.in_ok-insert.ensures.ok;
    }
