use Rattle.std.proofs.Common.{◌∙◌, None, Some, ap, refl, subst, sym}
use Rattle.std.specs.Map.{lookup, set_value}
use Rattle.std.specs.Str.{bytes_eq}
use Rattle.pp_summary.proofs.Judging.{slot_stays, some_there}
use Rattle.pp_snapshots.specs.Moving.{Stays}
use Rattle.pp_snapshots.proofs.Moving.{fine_of, set_twice, stays_same}
use Rattle.pp_snapshots.proofs.OnClosing.{retried_moves, retry_good}
use Rattle.pp_snapshots.proofs.OnOp.{not_open}
use Rattle.pp_snapshots.proofs.undo.retry.Goals as goal

pub returns-in_default-clause-answers : goal.returns-in_default-clause-answers
returns-in_default-clause-answers g c =
    let v = c.args.parts.now in (
      (λ ks k. not_open g.S.Spec.object g.S.Placed.place_of g.S.Placed.SameAt g.met.S.Spec.lawful g.met.S.Placed.placed v c.requires.keeps c.args.tx.now (λ x. Unit {0}) (sym c.in_default.ensures.found) k),
      subst (λ z. Stays g.S.Spec.object g.S.Placed.place_of v (record v { slots = z })) (sym c.in_default.ensures.same)
          (stays_same g.S.Spec.object g.S.Placed.place_of g.S.Placed.SameAt g.met.S.Spec.lawful g.met.S.Placed.placed v c.requires.keeps),
    )

pub anew-it-requires : goal.anew-it-requires
anew-it-requires g c =
    (fine_of g.S.Spec.object g.S.Placed.place_of g.S.Placed.SameAt g.met.S.Spec.lawful g.met.S.Placed.placed c.args.parts.now c.requires.keeps c.args.tx.now c.in-Some.it (sym c.in-Some.ensures.found)).taken

pub put_back-requires : goal.put_back-requires
put_back-requires g c =
    some_there _ _ (ap (lookup (bytes_eq c.args.tx.now)) c.in-Some.ensures.emptied ∙ slot_stays c.args.tx.now c.args.parts.now.slots.entries c.in-Some.it None (sym c.in-Some.ensures.found))

pub returns-clause-answers : goal.returns-clause-answers
returns-clause-answers g c =
    let found = sym c.in-Some.ensures.found in
    let t = c.args.tx.now in
    let y = c.anew-it.result in
    let slots = c.put_back.ensures ∙ ap (λ z. set_value (bytes_eq t) z (Some y)) c.in-Some.ensures.emptied ∙ set_twice t c.args.parts.now.slots.entries None (Some y) in (
      retry_good g.S.Spec.object g.S.Placed.place_of g.S.Placed.SameAt g.met.S.Spec.lawful g.met.S.Placed.placed c.args.parts.now c.requires.keeps t c.in-Some.it found,
      retried_moves g.S.Spec.object g.S.Placed.place_of g.S.Placed.SameAt g.met.S.Spec.lawful g.met.S.Placed.placed c.args.parts.now c.requires.keeps t c.in-Some.it found y _ slots
          c.anew-it.ensures.thread c.anew-it.ensures.body c.anew-it.ensures.taken c.anew-it.ensures.own c.anew-it.ensures.seen refl refl refl refl refl refl,
    )
