use Rattle.std.proofs.Common.{◌≡◌, ◌++◌, ◌∷◌, [], ap, sym, ◌∙◌, arith, length, subst}
use Rattle.pp_laws_summary.specs.Places.{ops_at}
use Rattle.pp_model.specs.Object.{ops}
use Rattle.pp_snapshots.specs.Many.{AreAsked, AreThere, TellsBehind}
use Rattle.pp_snapshots.proofs.Apart.{silent_tells}
use Rattle.pp_snapshots.proofs.Asking.{ok_then, one_asked, one_there}
use Rattle.pp_snapshots.proofs.op.ask_silent.Goals as goal

pub may_follow-requires-clause-asked : goal.may_follow-requires-clause-asked
may_follow-requires-clause-asked g c =
    let o = g.S.Spec.object in
    let place = g.S.Placed.place_of in
    let past = c.args.past.now in
    let own = c.args.own.now in
    let op = c.args.op.now in
    let p = c.place-place.result in
    let all_is : c.deref.result.now ≡ op ∷ [] = c.deref.ensures.value ∙ c.in_ok-push.ensures.items ∙ ap (λ l. l ++ op ∷ []) c.new-asked.ensures.items in
    subst (AreAsked o past) (sym all_is) (one_asked o place past op c.requires.asked)

pub may_follow-requires-clause-there : goal.may_follow-requires-clause-there
may_follow-requires-clause-there g c =
    let o = g.S.Spec.object in
    let place = g.S.Placed.place_of in
    let past = c.args.past.now in
    let own = c.args.own.now in
    let op = c.args.op.now in
    let p = c.place-place.result in
    let all_is : c.deref.result.now ≡ op ∷ [] = c.deref.ensures.value ∙ c.in_ok-push.ensures.items ∙ ap (λ l. l ++ op ∷ []) c.new-asked.ensures.items in
    subst (AreThere place p) (sym all_is) (one_there place p op (sym c.place-place.ensures))

pub may_follow-requires-clause-room : goal.may_follow-requires-clause-room
may_follow-requires-clause-room g c =
    let o = g.S.Spec.object in
    let place = g.S.Placed.place_of in
    let past = c.args.past.now in
    let own = c.args.own.now in
    let op = c.args.op.now in
    let p = c.place-place.result in
    let all_is : c.deref.result.now ≡ op ∷ [] = c.deref.ensures.value ∙ c.in_ok-push.ensures.items ∙ ap (λ l. l ++ op ∷ []) c.new-asked.ensures.items in
    let size = ap (λ l. length l) all_is in
    omega (arith, size, c.requires.few)

pub returns-clause-tells : goal.returns-clause-tells
returns-clause-tells g c =
    let o = g.S.Spec.object in
    let place = g.S.Placed.place_of in
    let past = c.args.past.now in
    let own = c.args.own.now in
    let op = c.args.op.now in
    let p = c.place-place.result in
    let all_is : c.deref.result.now ≡ op ∷ [] = c.deref.ensures.value ∙ c.in_ok-push.ensures.items ∙ ap (λ l. l ++ op ∷ []) c.new-asked.ensures.items in
    ok_then c.may_follow.result (λ good. TellsBehind o place past p c.count_at-all.result c.deref.result.now good c.may_follow.new.past)
    (λ good. TellsBehind o place past (place op) c.args.seen (ops_at place (place op) (ops own) ++ op ∷ []) good c.may_follow.new.past)
    (λ good told. silent_tells o place g.S.Placed.SameAt g.met.S.Spec.lawful g.met.S.Placed.placed past c.may_follow.new.past op c.args.seen p c.count_at-all.result
    (ops own) c.deref.result.now good (λ s. g.met.S.PartByPart.always_legal s op c.requires.silent) c.requires.asked.0 c.place-place.ensures c.count_at-all.ensures all_is c.requires.have told)
    c.may_follow.ensures.tells
