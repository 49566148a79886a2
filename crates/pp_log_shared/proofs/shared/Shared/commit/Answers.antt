use Rattle.std.proofs.Common.{◌≡◌, ◌<◌, ◌≤◌, ◌+◌, drop, get_or, length, sym, subst, ◌∙◌}
use Rattle.pp_model.specs.Object.{HasDistinctIds}
use Rattle.pp_log_shared.proofs.Committing.{all_of_owner, held_from, ids_left}
use Rattle.pp_log_shared.proofs.shared.Shared.commit.Goals as goal

pub commit_entry-requires : goal.commit_entry-requires
commit_entry-requires g c = subst HasDistinctIds (sym c.loop-item.invariant.items) c.len.ensures.distinct

pub loop-item-preserved : goal.loop-item-preserved
loop-item-preserved g c =
    let i = c.loop-item.item-index in
    let p = c.item-item.result in
    let list = c.as_slice-item-items.ensures in
    let lt : i < length c.args.own.now = subst (λ z. i < length z) list c.loop-item-test.true in
    let is : p ≡ get_or c.args.own.now i p = subst (λ z. p ≡ get_or z i p) list c.item-item.is in
    record {
      shape = c.commit_entry.ensures.shape ∙ c.loop-item.invariant.shape;
      items = c.commit_entry.ensures.items ∙ c.loop-item.invariant.items;
      end = c.commit_entry.ensures.end ∙ c.loop-item.invariant.end;
      left = ids_left c.args.owner.now p (drop (i + 1) c.args.own.now) c.loop-item.self c.commit_entry.new.self c.commit_entry.ensures (held_from c.args.owner.now i c.args.own.now p c.loop-item.self.1 lt is c.loop-item.invariant.left);
    }

pub returns : goal.returns
returns g c =
    let past : length c.args.own.now ≤ c.loop-item.item-index = subst (λ z. length z ≤ c.loop-item.item-index) c.as_slice-item-items.ensures c.loop-item-test.false in
    c.settle_front.ensures ∙ all_of_owner c.args.owner.now c.loop-item.item-index c.args.own.now c.args.self.now c.loop-item.self c.loop-item.invariant.shape c.loop-item.invariant.end past c.loop-item.invariant.left
