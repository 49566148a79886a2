use Rattle.std.proofs.Common.{refl, subst, sym}
use Rattle.pp_snapshots.specs.Moving.{Stays}
use Rattle.pp_snapshots.proofs.Moving.{stays_same}
use Rattle.pp_snapshots.proofs.OnClosing.{abort_good, aborted_moves}
use Rattle.pp_snapshots.proofs.OnOp.{not_open}
use Rattle.pp_snapshots.proofs.undo.abort.Goals as goal

pub returns-in_default-clause-answers : goal.returns-in_default-clause-answers
returns-in_default-clause-answers g c =
    let v = c.args.parts.now in (
      (λ ks k. not_open g.S.Spec.object g.S.Placed.place_of g.S.Placed.SameAt g.met.S.Spec.lawful g.met.S.Placed.placed v c.requires.keeps c.args.tx.now (λ x. Unit {0}) (sym c.in_default.ensures.found) k),
      subst (λ z. Stays g.S.Spec.object g.S.Placed.place_of v (record v { slots = z })) (sym c.in_default.ensures.same)
          (stays_same g.S.Spec.object g.S.Placed.place_of g.S.Placed.SameAt g.met.S.Spec.lawful g.met.S.Placed.placed v c.requires.keeps),
    )

pub returns-clause-answers : goal.returns-clause-answers
returns-clause-answers g c =
    let found = sym c.in-Some.ensures.found in (
      abort_good g.S.Spec.object g.S.Placed.place_of g.S.Placed.SameAt g.met.S.Spec.lawful g.met.S.Placed.placed c.args.parts.now c.requires.keeps c.args.tx.now c.in-Some.it found,
      aborted_moves g.S.Spec.object g.S.Placed.place_of g.S.Placed.SameAt g.met.S.Spec.lawful g.met.S.Placed.placed c.args.parts.now c.requires.keeps c.args.tx.now c.in-Some.it found _ c.in-Some.ensures.emptied c.swap_remove.ensures.updates.0 refl refl refl refl refl,
    )
