use Rattle.std.proofs.Common.{◌≡◌, ◌⊎◌, drop, subst, sym}
use Rattle.pp_model.specs.Lists.{In}
use Rattle.pp_styles.specs.Publishing.{publications}
use Rattle.pp_styles.proofs.Leaving.{passes_back, passes_none}
use Rattle.pp_styles.proofs.tracked.unpass_unpulled.Goals as goal

pub returns-in_default : goal.returns-in_default
returns-in_default g c =
    passes_none g.S.Placed.place_of c.args.shared.now.1 c.args.tx.now c.args.id c.in_default.ensures.none (publications c.args.published.now)

pub returns : goal.returns
returns g c =
    let p = publications c.args.published.now in
    let q = publications c.give_back.new.self in
    let t = c.args.tx.now in
    let v = c.in-Some.entry.now.owner in
    passes_back g.S.Placed.place_of c.args.shared.now.1 t c.args.id c.in-Some.entry.now c.in-Some.ensures.some c.place.result (sym c.place.ensures) c.in-Some.ensures.there p q c.give_back.ensures.kept c.give_back.ensures.ids c.give_back.ensures.gone c.give_back.ensures.passed
    (λ kept. subst (λ o. (q.passed t v o ≡ 0) ⊎ In c.args.id (drop (q.passed t v o) (p.ids v o))) c.place.ensures (c.give_back.ensures.again kept))
