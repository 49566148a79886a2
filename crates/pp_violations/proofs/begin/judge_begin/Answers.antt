use Rattle.std.proofs.Common.{◌∙◌, refl, sym, ap}
use Rattle.pp_summary.proofs.HeldOf.{apart_of}
use Rattle.pp_summary.proofs.Judging.{begun_name, fresh_name}
use Rattle.pp_violations.proofs.Kept.{busy, idle}
use Rattle.pp_violations.proofs.begin.judge_begin.Goals as goal

pub returns-then-contains_key : goal.returns-then-contains_key
returns-then-contains_key g c =
    let apart = apart_of g.S.Spec.object g.S.Placed.place_of g.S.Placed.SameAt g.met.S.Placed.placed in
    record {
      number = 0;
      is_false = λ k. k (begun_name g.S.Spec.object g.S.Placed.place_of apart c.args.parts.now c.requires.keeps c.args.tx.now (sym c.contains_key.ensures ∙ c.if-contains_key.true));
      criterion = ap (λ r. r.criterion) c.bare.ensures;
      detail = ap (λ r. r.detail) c.bare.ensures;
    }

pub returns-then-contains : goal.returns-then-contains
returns-then-contains g c =
    let apart = apart_of g.S.Spec.object g.S.Placed.place_of g.S.Placed.SameAt g.met.S.Placed.placed in
    record {
      number = 1;
      is_false = (
        fresh_name g.S.Spec.object g.S.Placed.place_of apart c.args.parts.now c.requires.keeps c.args.tx.now (sym c.contains_key.ensures ∙ c.if-contains_key.false),
        busy g.S.Spec.object g.S.Placed.place_of c.args.parts.now c.requires.keeps c.args.thread.now (sym c.contains.ensures ∙ c.if-contains.true),
      );
      criterion = ap (λ r. r.criterion) c.bare-then-contains.ensures;
      detail = ap (λ r. r.detail) c.bare-then-contains.ensures;
    }

pub returns : goal.returns
returns g c =
    let apart = apart_of g.S.Spec.object g.S.Placed.place_of g.S.Placed.SameAt g.met.S.Placed.placed in (
      fresh_name g.S.Spec.object g.S.Placed.place_of apart c.args.parts.now c.requires.keeps c.args.tx.now (sym c.contains_key.ensures ∙ c.if-contains_key.false),
      (idle g.S.Spec.object g.S.Placed.place_of c.args.parts.now c.requires.keeps c.args.thread.now (sym c.contains.ensures ∙ c.if-contains.false), refl),
    )
