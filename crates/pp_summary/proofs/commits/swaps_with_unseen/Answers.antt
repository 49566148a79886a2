use Rattle.std.proofs.Common.{◌≡◌, ◌<◌, ap, ◌∙◌, sym, subst, drop, length, refl, arith, Some}
use Rattle.std.specs.List.{slice_get}
use Rattle.std.proofs.lemmas.Option.{slice_get_read}
use Rattle.pp_summary.specs.Passing.{HaveEntries, StopsOne}
use Rattle.pp_summary.specs.Shown.{ids_or_none, unseen_at}
use Rattle.pp_summary.proofs.Passing.{unseen_is}
use Rattle.pp_summary.proofs.commits.swaps_with_unseen.Goals as goal

pub swaps_with_entries-requires-clause-entries : goal.swaps_with_entries-requires-clause-entries
swaps_with_entries-requires-clause-entries g c =
    let q = c.place-place.result in
    let lists = c.deref.result.now in
    let done = c.in-Some-get.done.now in
    let found = c.in-Some-get.ensures.lookup in
    let i = c.from.result in
    let within : i < length lists = omega arith in
    let read = slice_get_read lists (length lists) i done refl within found.1 in
    let there : slice_get c.args.commits.now.items q ≡ Some done =
    subst (λ n. slice_get c.args.commits.now.items n ≡ Some done) c.from.ensures (subst (λ r. slice_get r i ≡ Some done) c.deref.ensures.value read) in
    subst (λ r. HaveEntries c.args.shared.now.1 r) (sym c.as_slice.ensures) (subst (λ r. HaveEntries c.args.shared.now.1 r) (ap ids_or_none there) (c.requires.entries q))

pub returns-clause-no : goal.returns-clause-no
returns-clause-no g c = λ h.
    let q = c.place-place.result in
    let lists = c.deref.result.now in
    let done = c.in-Some-get.done.now in
    let found = c.in-Some-get.ensures.lookup in
    let i = c.from.result in
    let within : i < length lists = omega arith in
    let read = slice_get_read lists (length lists) i done refl within found.1 in
    let there : slice_get c.args.commits.now.items q ≡ Some done =
    subst (λ n. slice_get c.args.commits.now.items n ≡ Some done) c.from.ensures (subst (λ r. slice_get r i ≡ Some done) c.deref.ensures.value read) in
    let is = unseen_is q c.args.commits.now.items c.args.it.now.seen.entries c.in-Some.seen done (sym c.in-Some.ensures) there in
    subst (λ r. StopsOne g.S.Spec.object g.S.Placed.place_of c.args.it.now.own c.args.shared.now.1 r) (sym is ∙ ap (λ r. unseen_at r c.args.commits.now.items c.args.it.now.seen.entries) c.place-place.ensures)
    (subst (λ r. StopsOne g.S.Spec.object g.S.Placed.place_of c.args.it.now.own c.args.shared.now.1 (drop c.in-Some.seen r)) c.as_slice.ensures (c.swaps_with_entries.ensures.no h))
