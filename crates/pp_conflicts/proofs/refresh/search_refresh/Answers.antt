use Rattle.std.proofs.Common.{◌∙◌, refl, sym}
use Rattle.pp_conflicts.proofs.Records.{refresh_absent, refresh_fine, refresh_pull}
use Rattle.pp_conflicts.proofs.Seen.{missing_fine}
use Rattle.pp_conflicts.proofs.refresh.search_refresh.Goals as goal

pub returns-in_default-clause-searches : goal.returns-in_default-clause-searches
returns-in_default-clause-searches g c = refresh_absent g.S.Spec.object g.S.Placed.place_of g.S.Placed.SameAt g.met.S.Spec.lawful g.met.S.Placed.placed c.args.parts.now c.requires.keeps c.args.tx.now (sym c.in_default.ensures) c.args.place c.alone.result c.alone.ensures

pub search_missing-requires-clause-found : goal.search_missing-requires-clause-found
search_missing-requires-clause-found g c = (c.args.tx.now, sym c.in-Some.ensures)

pub search_missing-requires-clause-asked : goal.search_missing-requires-clause-asked
search_missing-requires-clause-asked g c =
    (missing_fine g.S.Spec.object g.S.Placed.place_of g.S.Placed.SameAt g.met.S.Spec.lawful g.met.S.Placed.placed c.args.parts.now c.requires.keeps c.args.tx.now c.in-Some.it.now (sym c.in-Some.ensures) c.args.place c.deref.result.now (λ ks t. c.deref.ensures.value ∙ c.in_ok-missing.ensures ks t)).0

pub search_missing-requires-clause-room : goal.search_missing-requires-clause-room
search_missing-requires-clause-room g c =
    (missing_fine g.S.Spec.object g.S.Placed.place_of g.S.Placed.SameAt g.met.S.Spec.lawful g.met.S.Placed.placed c.args.parts.now c.requires.keeps c.args.tx.now c.in-Some.it.now (sym c.in-Some.ensures) c.args.place c.deref.result.now (λ ks t. c.deref.ensures.value ∙ c.in_ok-missing.ensures ks t)).2

pub returns-in-Ok-clause-searches : goal.returns-in-Ok-clause-searches
returns-in-Ok-clause-searches g c =
    let all = rw c.in-Ok.is at c.in_ok-_state.ensures.searches in
    let at = (missing_fine g.S.Spec.object g.S.Placed.place_of g.S.Placed.SameAt g.met.S.Spec.lawful g.met.S.Placed.placed c.args.parts.now c.requires.keeps c.args.tx.now c.in-Some.it.now (sym c.in-Some.ensures) c.args.place c.deref.result.now (λ ks t. c.deref.ensures.value ∙ c.in_ok-missing.ensures ks t)).1 in
    refresh_fine g.S.Spec.object g.S.Placed.place_of g.S.Placed.SameAt g.met.S.Spec.lawful g.met.S.Placed.placed c.args.parts.now c.requires.keeps c.args.tx.now c.in-Some.it.now (sym c.in-Some.ensures) c.args.place c.deref.result.now (λ ks. c.deref.ensures.value ∙ c.in_ok-missing.ensures ks c.args.tx.now) at all.0

pub returns-clause-searches : goal.returns-clause-searches
returns-clause-searches g c =
    let fails = rw c.in-Err.is at c.in_ok-_state.ensures.searches in
    let at = (missing_fine g.S.Spec.object g.S.Placed.place_of g.S.Placed.SameAt g.met.S.Spec.lawful g.met.S.Placed.placed c.args.parts.now c.requires.keeps c.args.tx.now c.in-Some.it.now (sym c.in-Some.ensures) c.args.place c.deref.result.now (λ ks t. c.deref.ensures.value ∙ c.in_ok-missing.ensures ks t)).1 in
    refresh_pull g.S.Spec.object g.S.Placed.place_of g.S.Placed.SameAt g.met.S.Spec.lawful g.met.S.Placed.placed c.args.parts.now c.requires.keeps c.args.tx.now c.in-Some.it.now (sym c.in-Some.ensures) c.args.place c.deref.result.now (λ ks. c.deref.ensures.value ∙ c.in_ok-missing.ensures ks c.args.tx.now) at c.in-Err.violation fails _ refl
