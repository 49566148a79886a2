use Rattle.std.proofs.Common.{◌∙◌, refl, sym, ap}
use Rattle.pp_snapshots.proofs.OnBegin.{begun_name, busy_thread, fresh_name, idle_thread}
use Rattle.pp_conflicts.proofs.begin.judge_begin.Goals as goal

pub returns-then-contains_key : goal.returns-then-contains_key
returns-then-contains_key g c =
    record {
      number = 0;
      is_false = λ k. k (begun_name g.S.Spec.object g.S.Placed.place_of g.S.Placed.SameAt g.met.S.Spec.lawful g.met.S.Placed.placed c.args.parts.now c.requires.keeps c.args.tx.now (sym c.contains_key.ensures ∙ c.if-contains_key.true));
      criterion = ap (λ r. r.criterion) c.bare.ensures;
      detail = ap (λ r. r.detail) c.bare.ensures;
    }

pub returns-then-contains : goal.returns-then-contains
returns-then-contains g c =
    record {
      number = 1;
      is_false = (
        fresh_name g.S.Spec.object g.S.Placed.place_of g.S.Placed.SameAt g.met.S.Spec.lawful g.met.S.Placed.placed c.args.parts.now c.requires.keeps c.args.tx.now (sym c.contains_key.ensures ∙ c.if-contains_key.false),
        busy_thread g.S.Spec.object g.S.Placed.place_of g.S.Placed.SameAt g.met.S.Spec.lawful g.met.S.Placed.placed c.args.parts.now c.requires.keeps c.args.thread.now (sym c.contains.ensures ∙ c.if-contains.true),
      );
      criterion = ap (λ r. r.criterion) c.bare-then-contains.ensures;
      detail = ap (λ r. r.detail) c.bare-then-contains.ensures;
    }

pub returns : goal.returns
returns g c = (
  fresh_name g.S.Spec.object g.S.Placed.place_of g.S.Placed.SameAt g.met.S.Spec.lawful g.met.S.Placed.placed c.args.parts.now c.requires.keeps c.args.tx.now (sym c.contains_key.ensures ∙ c.if-contains_key.false),
  (idle_thread g.S.Spec.object g.S.Placed.place_of g.S.Placed.SameAt g.met.S.Spec.lawful g.met.S.Placed.placed c.args.parts.now c.requires.keeps c.args.thread.now (sym c.contains.ensures ∙ c.if-contains.false), refl),
)
