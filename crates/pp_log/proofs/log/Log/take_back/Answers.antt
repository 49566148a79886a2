use Rattle.std.proofs.Common.{map, sym, ◌∙◌, ap, subst}
use Rattle.pp_log.specs.Keeps.{KeepsAll}
use Rattle.pp_log.specs.Leaving.{MayLeave, without_items}
use Rattle.pp_log.proofs.Lists.{pair}
use Rattle.pp_log.proofs.Others.{without_mapped}
use Rattle.pp_log.proofs.log.Log.take_back.Goals as goal

pub leave_out-requires : goal.leave_out-requires
leave_out-requires g c =
    let may = subst (MayLeave g.S.Spec.object c.args.own.now) (sym (ap (λ p. map g.T.Side.item_of p.1) c.self.view_is)) c.requires in
    record { stand = may.stand; order = may.order; distinct = c.self.invariant.keeps.distinct; index = c.self.invariant.index }

pub take_all_back-requires : goal.take_all_back-requires
take_all_back-requires g c =
    let f = g.T.Side.item_of in
    record {
      log = map f c.self.inside.entries.items;
      keeps = c.self.invariant;
      may = subst (MayLeave g.S.Spec.object c.args.own.now) (sym (ap (λ p. map f p.1) c.self.view_is)) c.requires;
    }

pub invariant_of-result : goal.invariant_of-result
invariant_of-result g c =
    let o = g.S.Spec.object in
    let f = g.T.Side.item_of in
    let own = c.args.own.now in
    let x = c.self.inside.entries.items in
    let may = subst (MayLeave o own) (sym (ap (λ p. map f p.1) c.self.view_is)) c.requires in
    let left = c.in_ok-take_all_back.ensures.leaves (map f x) c.self.invariant may in
    let others = ap (map f) c.leave_out.ensures ∙ without_mapped f own x in
    subst (λ y. KeepsAll o g.S.Placed.place_of c.take_all_back.new.state y c.take_all_back.new.places.items c.take_all_back.new.ids) (sym others) left.0

pub returns-clause-log : goal.returns-clause-log
returns-clause-log g c =
    let o = g.S.Spec.object in
    let f = g.T.Side.item_of in
    let own = c.args.own.now in
    let x = c.self.inside.entries.items in
    let may = subst (MayLeave o own) (sym (ap (λ p. map f p.1) c.self.view_is)) c.requires in
    let left = c.in_ok-take_all_back.ensures.leaves (map f x) c.self.invariant may in
    let shape = left.1 ∙ ap (λ p. p.0) c.self.view_is in
    let log = c.leave_out.ensures ∙ ap (λ p. without_items f own p.1) c.self.view_is in
    ap (λ sh. pair sh c.leave_out.new.entries.items) shape ∙ ap (λ y. pair c.args.self.0 y) log
