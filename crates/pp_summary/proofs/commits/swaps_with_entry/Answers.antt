use Rattle.std.proofs.Common.{◌==◌, inl, refl, sym}
use Rattle.pp_model.proofs.Finding.{place_there}
use Rattle.pp_summary.proofs.Passing.{none_with_id, passes_alone, stops_alone, with_id}
use Rattle.pp_summary.proofs.commits.swaps_with_entry.Goals as goal

pub unreachable-requires : goal.unreachable-requires
unreachable-requires g c =
    let there = c.requires.entries c.args.id (inl refl) in
    none_with_id c.args.shared.now.1 c.args.id (sym c.in_default.ensures) there.0 there.1 there.2

pub unreachable-requires-in_default-entry : goal.unreachable-requires-in_default-entry
unreachable-requires-in_default-entry g c = place_there (λ e. e.id == c.args.id) c.args.shared.now.1 c.in-Some.position (sym c.in-Some.ensures) (sym c.in_default-entry.ensures)

pub returns-clause-yes : goal.returns-clause-yes
returns-clause-yes g c = λ y.
    let there = with_id c.args.shared.now.1 c.args.id c.in-Some.position c.in-Some-entry.entry.now (sym c.in-Some.ensures) (sym c.in-Some-entry.ensures) in
    passes_alone g.S.Spec.object g.S.Placed.place_of c.args.own.now c.args.shared.now.1 c.args.id c.requires.ids c.in-Some-entry.entry.now there (c.let_pass.ensures.yes y)

pub returns-clause-no : goal.returns-clause-no
returns-clause-no g c = λ n.
    let there = with_id c.args.shared.now.1 c.args.id c.in-Some.position c.in-Some-entry.entry.now (sym c.in-Some.ensures) (sym c.in-Some-entry.ensures) in
    stops_alone g.S.Spec.object g.S.Placed.place_of c.args.own.now c.args.shared.now.1 c.args.id c.in-Some-entry.entry.now there (c.let_pass.ensures.no n)
