use Rattle.std.proofs.Common.{◌<◌, ◌≤◌, ◌++◌, ◌∙◌, ap, arith, length, subst, sym, take_all}
use Rattle.pp_log_shared.proofs.Nexts.{read}
use Rattle.pp_model.specs.Lists.{In}
use Rattle.pp_styles.specs.Knowing.{Knowledge, ids_on}
use Rattle.pp_styles.specs.Noting.{ids_in, known}
use Rattle.pp_styles.proofs.Knowing.{listed_next}
use Rattle.pp_styles.proofs.notes.Notes.note_all.Goals as goal

pub loop-done-preserved : goal.loop-done-preserved
loop-done-preserved g c =
    let P = g.S.Placed.place_of in
    let i = c.loop-done.done-index in
    let all = c.as_slice-done-items.result.now in
    let k = known c.loop-done.self in
    let new : Knowledge = record { ids = λ o. ids_in o c.add_ids.new.committed.entries; taken = k.taken; pushed = k.pushed } in
    let size = subst (λ w. i < length w) c.as_slice-done-items.ensures c.loop-done-test.true in
    let here = read all c.args.committed.now i c.done-item.result c.as_slice-done-items.ensures size c.done-item.is in (
      listed_next P k new c.args.committed.now i c.done-item.result here
          (λ o. c.in_ok-add_ids.ensures o ∙ ap (λ w. k.ids o ++ ids_on P o w) c.as_slice.ensures) c.loop-done.invariant.0,
      record { taken = c.loop-done.invariant.1.taken; pushed = c.loop-done.invariant.1.pushed },
    )

pub returns : goal.returns
returns g c =
    let i = c.loop-done.done-index in
    let past = subst (λ w. length w ≤ i) c.as_slice-done-items.ensures (omega (arith, c.loop-done-test.false)) in
    record {
      listed = λ d j. c.loop-done.invariant.0 d (subst (λ w. In d w) (sym (take_all i c.args.committed.now past)) j);
      blank = c.loop-done.invariant.1;
    }
