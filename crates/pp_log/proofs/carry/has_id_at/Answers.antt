use Rattle.std.proofs.Common.{◌≡◌, ◌<◌, true, false, length, get_or, sym, ◌∙◌, ap, arith}
use Rattle.std.proofs.lemmas.Bool.{eq-eqb, eqb-true}
use Rattle.std.proofs.lemmas.Bool.Decides.{nat_tests}
use Rattle.std.proofs.lemmas.Option.{get_or_from_slice_get, slice_get-get_or, slice_get_within}
use Rattle.pp_log.proofs.carry.has_id_at.Goals as goal

pub returns-then-at-items-clause-yes : goal.returns-then-at-items-clause-yes
returns-then-at-items-clause-yes g c = λ t.
    let items = c.args.items.now in
    let r = c.index-items-at.result in
    let within : c.args.at < length items = (let test = c.if-at-items.true in omega arith) in
    (get_or items c.args.at r, slice_get-get_or items c.args.at r within, eqb-true (get_or items c.args.at r).id c.args.id t)

pub returns-then-at-items-clause-no : goal.returns-then-at-items-clause-no
returns-then-at-items-clause-no g c = λ f h.
    let items = c.args.items.now in
    let r = c.index-items-at.result in
    let there = get_or_from_slice_get items c.args.at h.0 r h.1 in
    let t = eq-eqb (get_or items c.args.at r).id c.args.id (ap (λ d. d.id) there ∙ h.2) in
    let k : true ≡ false = sym t ∙ f in
    cc

pub returns-else-at-items-clause-no : goal.returns-else-at-items-clause-no
returns-else-at-items-clause-no g c = λ f h.
    let within = slice_get_within c.args.items.now c.args.at h.0 h.1 in
    grind (arith, nat_tests)
