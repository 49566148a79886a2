use Rattle.std.proofs.Common.{◌∙◌, option_map, refl, sym}
use Rattle.pp_core.specs.Trees.{tree}
use Rattle.pp_snapshots.proofs.Moving.{stays_same}
use Rattle.pp_snapshots.proofs.OnBegin.{begun_good, begun_moves, begun_name, busy_thread}
use Rattle.pp_snapshots.proofs.begin.begin.Goals as goal

pub returns-then-contains_key-clause-answers : goal.returns-then-contains_key-clause-answers
returns-then-contains_key-clause-answers g c = (
  (λ ks k. k.0 (begun_name g.S.Spec.object g.S.Placed.place_of g.S.Placed.SameAt g.met.S.Spec.lawful g.met.S.Placed.placed c.args.parts.now c.requires.keeps c.args.tx.now (sym c.contains_key.ensures ∙ c.if-contains_key.true))),
  stays_same g.S.Spec.object g.S.Placed.place_of g.S.Placed.SameAt g.met.S.Spec.lawful g.met.S.Placed.placed c.args.parts.now c.requires.keeps,
)

pub returns-then-contains-clause-answers : goal.returns-then-contains-clause-answers
returns-then-contains-clause-answers g c = (
  (λ ks k. busy_thread g.S.Spec.object g.S.Placed.place_of g.S.Placed.SameAt g.met.S.Spec.lawful g.met.S.Placed.placed c.args.parts.now c.requires.keeps c.args.thread.now (sym c.contains.ensures ∙ c.if-contains.true) k.1),
  stays_same g.S.Spec.object g.S.Placed.place_of g.S.Placed.SameAt g.met.S.Spec.lawful g.met.S.Placed.placed c.args.parts.now c.requires.keeps,
)

pub returns-clause-answers : goal.returns-clause-answers
returns-clause-answers g c =
    let new = sym c.contains_key.ensures ∙ c.if-contains_key.false in
    let free = sym c.contains.ensures ∙ c.if-contains.false in (
      begun_good g.S.Spec.object g.S.Placed.place_of g.S.Placed.SameAt g.met.S.Spec.lawful g.met.S.Placed.placed c.args.parts.now c.requires.keeps c.args.tx.now c.args.thread.now (option_map tree c.args.body.now) new free,
      begun_moves g.S.Spec.object g.S.Placed.place_of g.S.Placed.SameAt g.met.S.Spec.lawful g.met.S.Placed.placed c.args.parts.now c.requires.keeps c.args.tx.now c.args.thread.now (option_map tree c.args.body.now) c.in_ok-it.it _ new free
          c.in_ok-it.ensures.thread c.in_ok-it.ensures.body c.in_ok-it.ensures.taken c.in_ok-it.ensures.own c.in_ok-it.ensures.seen c.in_ok-put_new.ensures c.in_ok-insert.ensures.updates.0 refl refl refl refl refl,
    )
