use Rattle.std.proofs.Common.{◌≡◌, ◌++◌, ◌∷◌, [], ap, sym, ◌∙◌, arith, length, subst}
use Rattle.std.proofs.lemmas.List.{length-append, length-map}
use Rattle.pp_kind_parts.specs.Alone.{same_part}
use Rattle.pp_laws_summary.specs.Places.{ops_at}
use Rattle.pp_model.specs.Object.{ops}
use Rattle.pp_model.proofs.Lists.{from_filter}
use Rattle.pp_snapshots.specs.Costs.{ops_of_part}
use Rattle.pp_snapshots.specs.Many.{AreAsked, AreThere, TellsBehind}
use Rattle.pp_snapshots.proofs.Apart.{part_tells, part_there}
use Rattle.pp_snapshots.proofs.Asking.{filter_short, joined_asked, joined_there, ok_then, one_asked, one_there}
use Rattle.pp_snapshots.proofs.op.ask_part.Goals as goal

pub may_follow-requires-clause-asked : goal.may_follow-requires-clause-asked
may_follow-requires-clause-asked g c =
    let o = g.S.Spec.object in
    let place = g.S.Placed.place_of in
    let part = g.S.Parted.part_of in
    let past = c.args.past.now in
    let own = c.args.own.now in
    let op = c.args.op.now in
    let p = c.place-place.result in
    let mine = ops_of_part part op (ops own) in
    let all_is : c.deref.result.now ≡ mine ++ op ∷ [] = c.deref.ensures.value ∙ c.in_ok-push.ensures.items ∙ ap (λ l. l ++ op ∷ []) c.in_ok-asked.ensures in
    subst (AreAsked o past) (sym all_is)
    (joined_asked o place past mine (op ∷ []) (λ a i. c.requires.own a (from_filter (λ b. same_part (part b) (part op)) a (ops own) i).0) (one_asked o place past op c.requires.asked))

pub may_follow-requires-clause-there : goal.may_follow-requires-clause-there
may_follow-requires-clause-there g c =
    let o = g.S.Spec.object in
    let place = g.S.Placed.place_of in
    let part = g.S.Parted.part_of in
    let past = c.args.past.now in
    let own = c.args.own.now in
    let op = c.args.op.now in
    let p = c.place-place.result in
    let mine = ops_of_part part op (ops own) in
    let all_is : c.deref.result.now ≡ mine ++ op ∷ [] = c.deref.ensures.value ∙ c.in_ok-push.ensures.items ∙ ap (λ l. l ++ op ∷ []) c.in_ok-asked.ensures in
    subst (AreThere place p) (sym all_is)
    (joined_there place p mine (op ∷ [])
    (λ a i. part_there o place g.S.Placed.SameAt g.met.S.Spec.lawful g.met.S.Placed.placed part g.met.S.Parted.parted g.met.S.PartByPart.alone op a (from_filter (λ b. same_part (part b) (part op)) a (ops own) i).1
    ∙ sym c.place-place.ensures)
    (one_there place p op (sym c.place-place.ensures)))

pub may_follow-requires-clause-room : goal.may_follow-requires-clause-room
may_follow-requires-clause-room g c =
    let o = g.S.Spec.object in
    let place = g.S.Placed.place_of in
    let part = g.S.Parted.part_of in
    let past = c.args.past.now in
    let own = c.args.own.now in
    let op = c.args.op.now in
    let p = c.place-place.result in
    let mine = ops_of_part part op (ops own) in
    let all_is : c.deref.result.now ≡ mine ++ op ∷ [] = c.deref.ensures.value ∙ c.in_ok-push.ensures.items ∙ ap (λ l. l ++ op ∷ []) c.in_ok-asked.ensures in
    let size = ap (λ l. length l) all_is ∙ length-append mine (op ∷ []) in
    let short = filter_short (λ a. same_part (part a) (part op)) (ops own) in
    let same = length-map own (λ e. e.op) in
    omega (arith, size, short, same, c.requires.few)

pub returns-clause-tells : goal.returns-clause-tells
returns-clause-tells g c =
    let o = g.S.Spec.object in
    let place = g.S.Placed.place_of in
    let part = g.S.Parted.part_of in
    let past = c.args.past.now in
    let own = c.args.own.now in
    let op = c.args.op.now in
    let p = c.place-place.result in
    let mine = ops_of_part part op (ops own) in
    let all_is : c.deref.result.now ≡ mine ++ op ∷ [] = c.deref.ensures.value ∙ c.in_ok-push.ensures.items ∙ ap (λ l. l ++ op ∷ []) c.in_ok-asked.ensures in
    ok_then c.may_follow.result (λ good. TellsBehind o place past p c.count_at-all.result c.deref.result.now good c.may_follow.new.past)
    (λ good. TellsBehind o place past (place op) c.args.seen (ops_at place (place op) (ops own) ++ op ∷ []) good c.may_follow.new.past)
    (λ good told. part_tells o place g.S.Placed.SameAt g.met.S.Spec.lawful g.met.S.Placed.placed part g.met.S.Parted.parted g.met.S.PartByPart.alone past c.may_follow.new.past op c.args.seen p c.count_at-all.result
    (ops own) c.deref.result.now good c.place-place.ensures c.count_at-all.ensures all_is c.requires.misses c.requires.have told)
    c.may_follow.ensures.tells
