use Rattle.std.proofs.Common.{sym, ap, subst, drop, ◌∙◌}
use Rattle.pp_log.proofs.Lists.{all_behind}
use Rattle.pp_log_shared.specs.Blocking.{IsSettled}
use Rattle.pp_log_shared.specs.Uncommitted.{KeepsOpen}
use Rattle.pp_log_shared.proofs.Settled.{known_behind, known_of_all, settled_push}
use Rattle.pp_log_shared.proofs.shared.Shared.push.Goals as goal

pub invariant_of-self-else-wanted : goal.invariant_of-self-else-wanted
invariant_of-self-else-wanted g c =
    let list = ap (λ z. z.1) c.in_ok-append.ensures.ok in
    let kept = subst (λ s. KeepsOpen g.S.Spec.object g.S.Parted.label_of g.S.Parted.part_of s c.self.inside.log.1) (sym c.make_room.ensures.same) c.self.invariant.opens in
    record {
      settles = subst (λ z. IsSettled z c.self.inside.settled) (sym list) (settled_push c.self.inside.log.1 c.args.entry c.self.inside.settled c.self.invariant.settles);
      opens = subst (λ z. KeepsOpen g.S.Spec.object g.S.Parted.label_of g.S.Parted.part_of c.add-wanted.new.self.slots.entries z) (sym list) (c.add-wanted.ensures c.requires.uncommitted c.self.inside.log.1 kept);
    }

pub invariant_of-self-else-len-saturating_add : goal.invariant_of-self-else-len-saturating_add
invariant_of-self-else-len-saturating_add g c =
    let list = ap (λ z. z.1) c.in_ok-append.ensures.ok in
    let kept = subst (λ s. KeepsOpen g.S.Spec.object g.S.Parted.label_of g.S.Parted.part_of s c.self.inside.log.1) (sym c.make_room.ensures.same) c.self.invariant.opens in
    record {
      settles = subst (λ z. IsSettled z c.self.inside.settled) (sym list) (settled_push c.self.inside.log.1 c.args.entry c.self.inside.settled c.self.invariant.settles);
      opens = subst (λ z. KeepsOpen g.S.Spec.object g.S.Parted.label_of g.S.Parted.part_of c.add-wanted.new.self.slots.entries z) (sym list) (c.add-wanted.ensures c.requires.uncommitted c.self.inside.log.1 kept);
    }

pub invariant_of-self-then-len-saturating_add : goal.invariant_of-self-then-len-saturating_add
invariant_of-self-then-len-saturating_add g c =
    let o = g.S.Spec.object in
    let label_of = g.S.Parted.label_of in
    let part_of = g.S.Parted.part_of in
    let list = ap (λ z. z.1) c.in_ok-append.ensures.ok in
    let kept = subst (λ s. KeepsOpen o label_of part_of s c.self.inside.log.1) (sym c.make_room.ensures.same) c.self.invariant.opens in
    let opens = subst (λ z. KeepsOpen o label_of part_of c.add-wanted.new.self.slots.entries z) (sym list) (c.add-wanted.ensures c.requires.uncommitted c.self.inside.log.1 kept) in
    let settles = subst (λ z. IsSettled z c.self.inside.settled) (sym list) (settled_push c.self.inside.log.1 c.args.entry c.self.inside.settled c.self.invariant.settles) in
    let x = c.append.new.self.1 in
    let n = c.self.inside.settled in
    let here = sym (ap (drop n) c.entries-entries.ensures) ∙ sym (all_behind c.entries-entries.result.now n) in
    record {
      settles = settles;
      opens = known_of_all o label_of part_of c.keep_numbers.new.self.slots.entries x n settles
          (subst (KeepsOpen o label_of part_of c.keep_numbers.new.self.slots.entries) (sym here)
          (c.keep_numbers.ensures (subst (KeepsOpen o label_of part_of c.add-wanted.new.self.slots.entries) here (known_behind o label_of part_of c.add-wanted.new.self.slots.entries x n settles opens))));
    }
