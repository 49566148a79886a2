use Rattle.std.proofs.Common.{◌∙◌, IfOk, ap, arith, length, subst, sym}
use Rattle.pp_kind.specs.Object.{AllRanged, IsAllowed}
use Rattle.pp_model.specs.Object.{ops}
use Rattle.pp_violations.specs.Searches.{AreItemsAsked, SearchesPulls}
use Rattle.pp_conflicts.proofs.Seen.{own_items, view_allowed, view_ranged}
use Rattle.pp_conflicts.proofs.pull.search_missing.Goals as goal

pub search_pulls-requires-clause-own : goal.search_pulls-requires-clause-own
search_pulls-requires-clause-own g c =
    subst (λ l. AreItemsAsked g.S.Spec.object c.args.parts.now.shape l) (sym (c.in_ok-own.ensures ∙ c.as_slice.ensures)) (own_items g.S.Spec.object g.S.Placed.place_of g.S.Placed.SameAt g.met.S.Spec.lawful g.met.S.Placed.placed c.args.parts.now c.requires.keeps c.requires.found.0 c.args.it.now c.requires.found.1)

pub search_pulls-requires-clause-allowed : goal.search_pulls-requires-clause-allowed
search_pulls-requires-clause-allowed g c =
    subst (λ l. IsAllowed g.S.Spec.object c.args.parts.now.shape (ops l)) (sym (c.deref.ensures.value ∙ c.in_ok-view.ensures)) (view_allowed g.S.Spec.object g.S.Placed.place_of g.S.Placed.SameAt g.met.S.Spec.lawful g.met.S.Placed.placed c.args.parts.now c.requires.keeps c.requires.found.0 c.args.it.now c.requires.found.1 c.args.place)

pub search_pulls-requires-clause-ranged : goal.search_pulls-requires-clause-ranged
search_pulls-requires-clause-ranged g c =
    subst (λ l. AllRanged g.S.Spec.object (ops l)) (sym (c.deref.ensures.value ∙ c.in_ok-view.ensures)) (view_ranged g.S.Spec.object g.S.Placed.place_of g.S.Placed.SameAt g.met.S.Spec.lawful g.met.S.Placed.placed c.args.parts.now c.requires.keeps c.requires.found.0 c.args.it.now c.requires.found.1 c.args.place)

pub search_pulls-requires-clause-few : goal.search_pulls-requires-clause-few
search_pulls-requires-clause-few g c =
    let d = ap (λ l. length l) (c.deref.ensures.value ∙ c.in_ok-view.ensures) in
    omega (arith, d, c.requires.room, c.requires.few)

pub returns-clause-searches : goal.returns-clause-searches
returns-clause-searches g c =
    subst (λ w. IfOk c.search_pulls.result (SearchesPulls g.S.Spec.object g.S.Placed.place_of c.args.parts.now.shape (ops w) c.args.it.now.own c.args.entries.now)) (c.deref.ensures.value ∙ c.in_ok-view.ensures)
    (subst (λ l. IfOk c.search_pulls.result (SearchesPulls g.S.Spec.object g.S.Placed.place_of c.args.parts.now.shape (ops c.deref.result.now) l c.args.entries.now)) (c.in_ok-own.ensures ∙ c.as_slice.ensures) c.search_pulls.ensures.searches)

pub returns-clause-bound : goal.returns-clause-bound
returns-clause-bound g c =
    let d = ap (λ l. length l) (c.deref.ensures.value ∙ c.in_ok-view.ensures) in
    omega (arith, d, c.requires.room, c.search_pulls.ensures.bound)
