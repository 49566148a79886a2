use Rattle.std.proofs.Common.{◌∙◌, option_map, refl, sym}
use Rattle.pp_core.specs.Steps.{Begin}
use Rattle.pp_core.specs.Trees.{tree}
use Rattle.pp_records.specs.Records.{Plain}
use Rattle.pp_summary.specs.Moving.{IsGood}
use Rattle.pp_summary.proofs.Judging.{begun_name, busy_thread, fresh_name, idle_thread}
use Rattle.pp_summary.proofs.Moving.{begun_moves}
use Rattle.pp_summary.proofs.HeldOf.{apart_of}
use Rattle.pp_summary.proofs.begin.begin.Goals as goal

pub returns-then-contains_key : goal.returns-then-contains_key
returns-then-contains_key g c =
    let apart = apart_of g.S.Spec.object g.S.Placed.place_of g.S.Placed.SameAt g.met.S.Placed.placed in
    ((λ k. k.0 (begun_name g.S.Spec.object g.S.Placed.place_of apart c.args.parts.now c.requires.keeps c.args.tx.now (sym c.contains_key.ensures ∙ c.if-contains_key.true))), refl)

pub returns-then-contains : goal.returns-then-contains
returns-then-contains g c =
    let apart = apart_of g.S.Spec.object g.S.Placed.place_of g.S.Placed.SameAt g.met.S.Placed.placed in
    ((λ k. busy_thread g.S.Spec.object g.S.Placed.place_of apart c.args.parts.now c.requires.keeps c.args.thread.now (sym c.contains.ensures ∙ c.if-contains.true) k.1), refl)

pub returns : goal.returns
returns g c =
    let apart = apart_of g.S.Spec.object g.S.Placed.place_of g.S.Placed.SameAt g.met.S.Placed.placed in
    let good : IsGood g.S.Spec.object g.S.Placed.place_of c.args.parts.now (Plain (Begin c.args.tx.now c.args.thread.now (option_map tree c.args.body.now))) = (
      fresh_name g.S.Spec.object g.S.Placed.place_of apart c.args.parts.now c.requires.keeps c.args.tx.now (sym c.contains_key.ensures ∙ c.if-contains_key.false),
      idle_thread g.S.Spec.object g.S.Placed.place_of apart c.args.parts.now c.requires.keeps c.args.thread.now (sym c.contains.ensures ∙ c.if-contains.false),
    ) in (
      good,
      begun_moves g.S.Spec.object g.S.Placed.place_of apart c.args.parts.now c.requires.keeps c.args.tx.now c.args.thread.now (option_map tree c.args.body.now) c.in_ok-it.it _ good
          c.in_ok-it.ensures.thread c.in_ok-it.ensures.body c.in_ok-it.ensures.taken c.in_ok-it.ensures.own c.in_ok-it.ensures.seen c.in_ok-put_new.ensures c.in_ok-insert.ensures.updates.0
          refl refl refl refl refl refl,
    )
