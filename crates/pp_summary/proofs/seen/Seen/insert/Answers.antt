use Rattle.std.proofs.Common.{◌∙◌, Some, ap, cond, nat_eq, subst, sym}
use Rattle.std.specs.Map.{lookup}
use Rattle.pp_summary.specs.Seen.{HaveOwnPlaces, IsFirst}
use Rattle.pp_summary.proofs.Counts.{lookup_more, lookup_other_count, own_places_more, own_places_set}
use Rattle.pp_summary.proofs.seen.Seen.insert.Goals as goal

pub returns-in-Some : goal.returns-in-Some
returns-in-Some c = λ q.
    let first = subst (λ l. IsFirst c.args.place l c.in-Some.k) c.deref.ensures.value c.in-Some.ensures.found in
    lookup_other_count c.args.place c.args.count c.self.inside.entries.items c.in-Some.k first q
    ∙ ap (λ s. cond (nat_eq c.args.place q) (Some c.args.count) (lookup (nat_eq q) s.entries)) c.self.view_is

pub returns : goal.returns
returns c = λ q.
    let none = ap (lookup (nat_eq c.args.place)) (sym c.deref.ensures.value) ∙ c.in_default.ensures.none in
    ap (lookup (nat_eq q)) c.in_ok-push.ensures.items
    ∙ lookup_more c.args.place c.args.count c.self.inside.entries.items none q
    ∙ ap (λ s. cond (nat_eq c.args.place q) (Some c.args.count) (lookup (nat_eq q) s.entries)) c.self.view_is

pub invariant_of-self : goal.invariant_of-self
invariant_of-self c =
    let first = subst (λ l. IsFirst c.args.place l c.in-Some.k) c.deref.ensures.value c.in-Some.ensures.found in
    own_places_set c.args.place c.args.count c.self.inside.entries.items c.in-Some.k first c.self.invariant

pub invariant_of-self-in_err-push : goal.invariant_of-self-in_err-push
invariant_of-self-in_err-push c = subst (λ l. HaveOwnPlaces l) (sym c.in_err-push.ensures.items) c.self.invariant

pub invariant_of-self-2 : goal.invariant_of-self-2
invariant_of-self-2 c =
    let none = ap (lookup (nat_eq c.args.place)) (sym c.deref.ensures.value) ∙ c.in_default.ensures.none in
    subst (λ l. HaveOwnPlaces l) (sym c.in_ok-push.ensures.items)
    (own_places_more c.args.place c.args.count c.self.inside.entries.items none c.self.invariant)
