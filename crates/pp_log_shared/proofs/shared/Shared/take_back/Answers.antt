use Rattle.std.proofs.Common.{map, sym, ap, ◌∙◌, subst, arith}
use Rattle.pp_model.specs.Config.{shared_item}
use Rattle.pp_model.specs.Object.{HasDistinctIds}
use Rattle.pp_log_shared.specs.Blocking.{IsSettled}
use Rattle.pp_log_shared.specs.Uncommitted.{KeepsOpen}
use Rattle.pp_log_shared.proofs.Leaving.{none_own}
use Rattle.pp_log_shared.proofs.shared.Shared.take_back.Goals as goal

pub returns-then-len-eq0-clause-cost : goal.returns-then-len-eq0-clause-cost
returns-then-len-eq0-clause-cost g c =
    let none = none_own g.S.Spec.object c.args.own.now c.args.self.1 c.requires (sym c.len.ensures.len ∙ c.if-len-eq0.true) in
    omega arith

pub settled_without-settled-requires-clause-distinct : goal.settled_without-settled-requires-clause-distinct
settled_without-settled-requires-clause-distinct g c = subst (λ z. HasDistinctIds (map shared_item z.1)) (sym c.self.view_is) c.len.ensures.distinct

pub forget_own-requires-clause-distinct : goal.forget_own-requires-clause-distinct
forget_own-requires-clause-distinct g c = subst (λ z. HasDistinctIds (map shared_item z.1)) (sym c.self.view_is) c.len.ensures.distinct

pub invariant_of-result : goal.invariant_of-result
invariant_of-result g c =
    let list = ap (λ z. z.1) c.in_ok-log.ensures.log in
    record {
      settles = subst (λ z. IsSettled z c.settled_without-settled.result) (sym list) c.settled_without-settled.ensures;
      opens = subst (λ z. KeepsOpen g.S.Spec.object g.S.Parted.label_of g.S.Parted.part_of c.forget_own.new.parts.slots.entries z) (sym list) (c.forget_own.ensures c.self.invariant.opens);
    }
