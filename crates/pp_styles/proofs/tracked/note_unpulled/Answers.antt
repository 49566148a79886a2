use Rattle.std.proofs.Common.{◌≡◌, ◌⊎◌, ◌∙◌, ap, arith, drop, not, subst, sym}
use Rattle.pp_model.specs.Lists.{In}
use Rattle.pp_styles.specs.Noting.{known}
use Rattle.pp_styles.proofs.Leaving.{forgets_pushed, forgets_taken, untaken_again, untaken_fresh, untaken_none}
use Rattle.pp_styles.proofs.tracked.note_unpulled.Goals as goal

pub returns-in_default : goal.returns-in_default
returns-in_default g c =
    let k = known c.lower_pushed.new.self in
    let G = c.args.machine.now.config.shared in
    let most_is = c.saturating_sub-most.ensures in
    let count_is = c.pushed.ensures in
    let shared_is : c.shared.result.now.1 ≡ G = ap (λ v. v.1) c.shared.ensures in
    forgets_pushed g.S.Placed.place_of G c.args.tx.now c.args.id c.saturating_sub-most.result (known c.args.notes.now) k c.lower_pushed.ensures (omega (arith, most_is, count_is))
    (untaken_none g.S.Placed.place_of G c.args.tx.now c.args.id (λ e i. c.in_default.ensures.none e (subst (λ w. In e w) (sym shared_is) i)) k)

pub returns-then-not-entry : goal.returns-then-not-entry
returns-then-not-entry g c =
    let k = known c.lower_pushed.new.self in
    let G = c.args.machine.now.config.shared in
    let most_is = c.saturating_sub-most.ensures in
    let count_is = c.pushed.ensures in
    let shared_is : c.shared.result.now.1 ≡ G = ap (λ v. v.1) c.shared.ensures in
    forgets_pushed g.S.Placed.place_of G c.args.tx.now c.args.id c.saturating_sub-most.result (known c.args.notes.now) k c.lower_pushed.ensures (omega (arith, most_is, count_is))
    (untaken_fresh g.S.Placed.place_of G c.args.tx.now c.args.id c.in-Some.entry.now (λ e i. c.in-Some.ensures.some e (subst (λ w. In e w) (sym shared_is) i)) k c.if-not-entry.true)

pub returns : goal.returns
returns g c =
    let k = known c.lower_pushed.new.self in
    let new = known c.give_back.new.self in
    let G = c.args.machine.now.config.shared in
    let most_is = c.saturating_sub-most.ensures in
    let count_is = c.pushed.ensures in
    let e = c.in-Some.entry.now in
    let there = c.in-Some.ensures.there in
    let shared_is : c.shared.result.now.1 ≡ G = ap (λ v. v.1) c.shared.ensures in
    forgets_taken g.S.Placed.place_of G c.args.tx.now c.args.id c.saturating_sub-most.result c.place.result (known c.args.notes.now) k new c.lower_pushed.ensures (omega (arith, most_is, count_is))
    c.give_back.ensures.lowers (e, subst (λ w. In e w) shared_is there.0, there.1, c.if-not-entry.false, sym c.place.ensures)
    (untaken_again g.S.Placed.place_of G c.args.tx.now c.args.id e (λ h i. c.in-Some.ensures.some h (subst (λ w. In h w) (sym shared_is) i)) new
    (subst (λ o. (new.taken c.args.tx.now o ≡ 0) ⊎ In c.args.id (drop (new.taken c.args.tx.now o) (new.ids o))) c.place.ensures c.give_back.ensures.again))
