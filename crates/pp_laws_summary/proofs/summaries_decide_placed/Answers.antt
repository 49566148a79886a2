use Rattle.pp_kind.specs.Object.{rules_of}
use Rattle.pp_kind.proofs.Places.{tells_states}
use Rattle.pp_laws_summary.proofs.Counts.{counts}
use Rattle.pp_laws_summary.proofs.FailingRuns.{finds}
use Rattle.pp_laws_summary.proofs.Placed.{parts_of}
use Rattle.pp_laws_summary.proofs.SummaryRuns.{decided}
use Rattle.pp_laws_summary.proofs.summaries_decide_placed.Goals as goal

pub returns : goal.returns
returns g v =
    record {
      decide = λ shape style has.
          decided style has (rules_of g.S.Spec.object shape) g.S.Placed.place_of
          (parts_of g.S.Spec.object g.S.Placed.place_of g.S.Placed.SameAt g.met.S.Spec.lawful g.met.S.Placed.placed shape)
          (tells_states g.S.Spec.object g.met.S.Spec.lawful shape);
      count = λ shape style has.
          counts (rules_of g.S.Spec.object shape) g.S.Placed.place_of
          (parts_of g.S.Spec.object g.S.Placed.place_of g.S.Placed.SameAt g.met.S.Spec.lawful g.met.S.Placed.placed shape)
          (tells_states g.S.Spec.object g.met.S.Spec.lawful shape) style has;
      find = λ shape style has.
          finds (rules_of g.S.Spec.object shape) g.S.Placed.place_of
          (parts_of g.S.Spec.object g.S.Placed.place_of g.S.Placed.SameAt g.met.S.Spec.lawful g.met.S.Placed.placed shape)
          (tells_states g.S.Spec.object g.met.S.Spec.lawful shape) style has;
    }
