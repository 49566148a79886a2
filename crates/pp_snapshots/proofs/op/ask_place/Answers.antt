use Rattle.std.proofs.Common.{◌≡◌, ◌++◌, ◌∷◌, [], ap, sym, ◌∙◌, arith, length, subst, ◌==◌}
use Rattle.std.proofs.lemmas.List.{length-append, length-map}
use Rattle.pp_laws_summary.specs.Places.{ops_at}
use Rattle.pp_model.specs.Object.{ops}
use Rattle.pp_snapshots.specs.Many.{AreAsked, AreThere}
use Rattle.pp_snapshots.proofs.Asking.{are_there, filter_short, joined_asked, joined_there, one_asked, one_there, part_asked}
use Rattle.pp_snapshots.proofs.op.ask_place.Goals as goal

pub may_follow-requires-clause-asked : goal.may_follow-requires-clause-asked
may_follow-requires-clause-asked g c =
    let o = g.S.Spec.object in
    let place = g.S.Placed.place_of in
    let past = c.args.past.now in
    let own = c.args.own.now in
    let op = c.args.op.now in
    let p = c.place-place.result in
    let own_is = c.in_ok-asked.ensures in
    let all_is : c.deref.result.now ≡ ops_at place p (ops own) ++ op ∷ [] = c.deref.ensures.value ∙ c.in_ok-push.ensures.items ∙ ap (λ l. l ++ op ∷ []) own_is in
    subst (AreAsked o past) (sym all_is) (joined_asked o place past (ops_at place p (ops own)) (op ∷ []) (part_asked o place past p (ops own) c.requires.own) (one_asked o place past op c.requires.asked))

pub may_follow-requires-clause-there : goal.may_follow-requires-clause-there
may_follow-requires-clause-there g c =
    let o = g.S.Spec.object in
    let place = g.S.Placed.place_of in
    let past = c.args.past.now in
    let own = c.args.own.now in
    let op = c.args.op.now in
    let p = c.place-place.result in
    let own_is = c.in_ok-asked.ensures in
    let all_is : c.deref.result.now ≡ ops_at place p (ops own) ++ op ∷ [] = c.deref.ensures.value ∙ c.in_ok-push.ensures.items ∙ ap (λ l. l ++ op ∷ []) own_is in
    subst (AreThere place p) (sym all_is) (joined_there place p (ops_at place p (ops own)) (op ∷ []) (are_there place p (ops own)) (one_there place p op (sym c.place-place.ensures)))

pub may_follow-requires-clause-room : goal.may_follow-requires-clause-room
may_follow-requires-clause-room g c =
    let o = g.S.Spec.object in
    let place = g.S.Placed.place_of in
    let past = c.args.past.now in
    let own = c.args.own.now in
    let op = c.args.op.now in
    let p = c.place-place.result in
    let own_is = c.in_ok-asked.ensures in
    let all_is : c.deref.result.now ≡ ops_at place p (ops own) ++ op ∷ [] = c.deref.ensures.value ∙ c.in_ok-push.ensures.items ∙ ap (λ l. l ++ op ∷ []) own_is in
    let size = ap (λ l. length l) all_is ∙ length-append (ops_at place p (ops own)) (op ∷ []) in
    let short = filter_short (λ a. place a == p) (ops own) in
    let same = length-map own (λ e. e.op) in
    omega (arith, size, short, same, c.requires.few)
