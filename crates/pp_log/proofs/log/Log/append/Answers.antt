use Rattle.std.proofs.Common.{◌≡◌, [], ◌∷◌, ◌++◌, IsTrue, map, sym, ◌∙◌, ap, subst, Some, refl}
use Rattle.std.specs.List.{slice_get, slice_set}
use Rattle.std.proofs.lemmas.Option.{slice_get-get_or}
use Rattle.pp_log.specs.Index.{IsIndexOf}
use Rattle.pp_log.specs.Keeps.{KeepsAll}
use Rattle.pp_log.specs.Room.{ids_of}
use Rattle.pp_log.proofs.Distinct.{IsNew}
use Rattle.pp_log.proofs.Grown.{grown, ids-append, with_room, keeps_reached, seen_more}
use Rattle.pp_log.proofs.Ids.{new_id}
use Rattle.pp_log.proofs.Maps.{legal_seen, new_seen, few_seen}
use Rattle.std.proofs.lemmas.List.{map_push}
use Rattle.pp_log.proofs.log.Log.append.Goals as goal

pub invariant_of-self : goal.invariant_of-self
invariant_of-self g c =
    let room = c.in_err-make_room.ensures in
    with_room g.S.Spec.object g.S.Placed.place_of c.self.inside.state _ _ _ _ _ _ c.self.invariant (ap (map g.T.Side.item_of) room.entries) room.same room.ids

pub apply-requires-clause-fits : goal.apply-requires-clause-fits
apply-requires-clause-fits g c =
    (legal_seen g.S.Spec.object g.T.Side.item_of c.self.inside.state c.self.inside.entries.items c.args.self.now c.args.entry c.item-item.result c.self.view_is c.self.invariant.keeps.is c.item-item.ensures c.requires.allowed).0

pub apply-requires-clause-reached : goal.apply-requires-clause-reached
apply-requires-clause-reached g c =
    keeps_reached g.S.Spec.object g.S.Placed.place_of c.self.inside.state (map g.T.Side.item_of c.self.inside.entries.items) c.self.inside.places.items c.self.invariant.keeps
    (few_seen g.T.Side.item_of _ c.self.inside.entries.items c.args.self.now c.self.view_is c.requires.few)

pub invariant_of-self-in_err-undo : goal.invariant_of-self-in_err-undo
invariant_of-self-in_err-undo g c =
    let room = c.in_ok-make_room.ensures in
    let keeps = with_room g.S.Spec.object g.S.Placed.place_of c.self.inside.state _ _ _ _ _ _ c.self.invariant (ap (map g.T.Side.item_of) room.entries) room.same room.ids in
    subst (λ t. KeepsAll g.S.Spec.object g.S.Placed.place_of t (map g.T.Side.item_of c.make_room.new.entries.items) c.make_room.new.places.items c.make_room.new.ids) (sym c.in_err-undo.ensures.applied) keeps

pub unreachable-requires : goal.unreachable-requires
unreachable-requires g c =
    let legal = legal_seen g.S.Spec.object g.T.Side.item_of c.self.inside.state c.self.inside.entries.items c.args.self.now c.args.entry c.item-item.result c.self.view_is c.self.invariant.keeps.is c.item-item.ensures c.requires.allowed in
    let applied = rw c.in_default.is at c.in_ok-undo.ensures.applied in
    applied.0 legal.1

pub keep-requires : goal.keep-requires
keep-requires g c =
    let room = c.in_ok-make_room.ensures in
    let q = c.index_mut.result.now in
    room.place_room q (slice_get-get_or c.make_room.new.places.items c.from-p.result q room.there ∙ ap Some (sym c.index_mut.ensures.value))

pub invariant_of-self-2 : goal.invariant_of-self-2
invariant_of-self-2 g c =
    let o = g.S.Spec.object in
    let f = g.T.Side.item_of in
    let x = c.self.inside.entries.items in
    let s = c.self.inside.state in
    let e = c.item-item.result in
    let room = c.in_ok-make_room.ensures in
    let q = c.index_mut.result.now in
    let ps = c.make_room.new.places.items in
    let legal = legal_seen o f s x c.args.self.now c.args.entry e c.self.view_is c.self.invariant.keeps.is c.item-item.ensures c.requires.allowed in
    let ranged = subst (λ d. IsTrue (o.ranged d.op)) (sym c.item-item.ensures) c.requires.ranged in
    let new : IsNew e.id (map f x) = new_seen f (o.shape s) x c.args.self.now c.args.entry e c.self.view_is c.item-item.ensures c.requires.new in
    let few = few_seen f _ x c.args.self.now c.self.view_is c.requires.few in
    let same = with_room o g.S.Placed.place_of s _ _ _ _ _ _ c.self.invariant refl room.same room.ids in
    let at : slice_get ps c.from-p.result ≡ Some q = slice_get-get_or ps c.from-p.result q room.there ∙ ap Some (sym c.index_mut.ensures.value) in
    let applied = rw c.in-Done.is at c.in_ok-undo.ensures.applied in
    let more = grown o g.S.Placed.place_of g.S.Placed.SameAt g.met.S.Spec.lawful g.met.S.Placed.placed s c.apply.new.state (map f x) ps e c.from-p.result q c.keep.new.self c.in-Done.undo same.keeps legal ranged new few (sym (c.from-p.ensures ∙ c.place.ensures)) room.there at applied.2 applied.1 c.keep.ensures.ids c.keep.ensures.undos in
    let items : map f c.push.new.self.items ≡ map f x ++ e ∷ [] =
    ap (map f) (c.push.ensures.items ∙ ap (λ z. z ++ c.args.entry ∷ []) room.entries) ∙ map_push f x c.args.entry ∙ ap (λ d. map f x ++ d ∷ []) (sym c.item-item.ensures) in
    let index = subst (λ z. IsIndexOf c.push-2.new.self z) (sym (ids-append (map f x) (e ∷ []))) (c.push-2.ensures (ids_of (map f x)) same.index (new_id (map f x) e.id new)) in
    subst (λ z. KeepsAll o g.S.Placed.place_of c.apply.new.state z (slice_set ps c.from-p.result c.keep.new.self) c.push-2.new.self) (sym items) (record { keeps = more.0; index = index })

pub returns-clause-ok : goal.returns-clause-ok
returns-clause-ok g c =
    let o = g.S.Spec.object in
    let s = c.self.inside.state in
    let legal = legal_seen o g.T.Side.item_of s c.self.inside.entries.items c.args.self.now c.args.entry c.item-item.result c.self.view_is c.self.invariant.keeps.is c.item-item.ensures c.requires.allowed in
    let applied = rw c.in-Done.is at c.in_ok-undo.ensures.applied in
    let shape = ap o.shape applied.2 ∙ g.met.S.Spec.lawful.next_shape s c.item-item.result.op legal in
    seen_more (o.shape s) (o.shape c.apply.new.state) c.self.inside.entries.items c.push.new.self.items c.args.entry c.args.self.now c.self.view_is shape (c.push.ensures.items ∙ ap (λ z. z ++ c.args.entry ∷ []) c.in_ok-make_room.ensures.entries)
