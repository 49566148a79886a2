use Rattle.std.proofs.Common.{ℕ, ap, ◌∙◌, ◌∷◌, [], sym, subst, inl, inr, arith, ◌<◌, ◌≤◌, length, refl}
use Rattle.std.specs.List.{slice_get}
use Rattle.std.proofs.lemmas.Option.{get_or_from_slice_get, slice_get-get_or}
use Rattle.pp_model.specs.Lists.{In}
use Rattle.pp_model.proofs.Finding.{stands_in}
use Rattle.pp_summary.specs.Passing.{LetAllPass}
use Rattle.pp_summary.proofs.Items.{below_next, drop_in, in_drop}
use Rattle.pp_summary.proofs.Passing.{stops_among}
use Rattle.pp_summary.proofs.commits.swaps_with_entries.Goals as goal

pub swaps_with_entry-requires-clause-entries : goal.swaps_with_entry-requires-clause-entries
swaps_with_entry-requires-clause-entries g c = λ id i.
    let at = slice_get-get_or c.args.done.now c.loop-k.k 0 (omega arith) in
    elim i [ inl e ↦ c.requires.entries id (subst (λ (w : ℕ). In w c.args.done.now) (sym e) (stands_in c.args.done.now c.loop-k.k _ at)) | inr e ↦ absurd e ]

pub returns-then-not-swaps_with_entry-clause-no : goal.returns-then-not-swaps_with_entry-clause-no
returns-then-not-swaps_with_entry-clause-no g c = λ _.
    let at = slice_get-get_or c.args.done.now c.loop-k.k 0 (omega arith) in
    let from : c.args.from ≤ c.loop-k.k = omega arith in
    stops_among g.S.Spec.object g.S.Placed.place_of c.args.own.now c.args.shared.now.1 _ _ (drop_in c.args.done.now c.args.from c.loop-k.k _ from at) (c.swaps_with_entry.ensures.no c.if-not-swaps_with_entry.true)

pub loop-k-preserved : goal.loop-k-preserved
loop-k-preserved g c = λ j id from below h. elim (below_next j c.loop-k.k below) [
  | inl l ↦ c.loop-k.invariant j id from l h
  | inr e ↦
      let same = get_or_from_slice_get c.args.done.now c.loop-k.k id 0 (ap (slice_get c.args.done.now) (sym e) ∙ h) in
      subst (λ w. LetAllPass g.S.Spec.object g.S.Placed.place_of c.args.own.now c.args.shared.now.1 (w ∷ [])) same (c.swaps_with_entry.ensures.yes c.if-not-swaps_with_entry.false)
]

pub returns-clause-yes : goal.returns-clause-yes
returns-clause-yes g c = λ _ e there i.
    let r = in_drop c.args.done.now c.args.from e.id i in
    let within : r.0 < length c.args.done.now = r.3 in
    c.loop-k.invariant r.0 e.id r.1 (omega arith) r.2 e there (inl refl)
