use Rattle.std.proofs.Common.{◌≡◌, ◌++◌, ◌+◌, List, Bool, arith, sym, ap, subst, ◌∙◌}
use Rattle.std.proofs.Common.{take, drop, length, get_or}
use Rattle.pp_core.specs.Steps.{Step, meaning}
use Rattle.pp_model.specs.Names.{Name}
use Rattle.pp_model.specs.Object.{Item}
use Rattle.pp_model.specs.Serial.{own_of}
use Rattle.pp_attempts.specs.Lists.{list_of, own_after, peak_at}
use Rattle.pp_attempts.specs.Peaks.{IsOrderly, meanings, peaks_behind}
use Rattle.pp_attempts.proofs.Orders.{own_grows}
use Rattle.pp_attempts.proofs.Collecting.{further, meanings_take, meanings_drop, meanings_cut}
use Rattle.pp_attempts.proofs.Collecting.{length-marks, own_within, tops_at, map_drop}
use Rattle.pp_attempts.proofs.collect.collect.Goals as goal

pub bounds-marks-i : goal.bounds-marks-i
bounds-marks-i g c =
    let e = ap (λ (w : List Bool). length w) c.requires.marks ∙ length-marks c.args.steps.now in
    omega (arith, e, c.loop-i-test.true)

pub take-requires-clause-short : goal.take-requires-clause-short
take-requires-clause-short g c = λ t.
    let e = ap (λ (w : List (Item _)). length w) (c.loop-i.invariant.lists t) in
    omega (arith, e, own_within t c.args.steps.now c.loop-i.i, c.loop-i-test.true, c.requires.few)

pub loop-i-preserved : goal.loop-i-preserved
loop-i-preserved g c =
    let steps = c.args.steps.now in
    let i = c.loop-i.i in
    let step = c.index-steps-i.result in
    let past = meanings (take i steps) in
    let rest = meanings (drop (i + 1) steps) in
    let there = c.loop-i-test.true in
    let is = c.index-steps-i.is in
    let orderly = subst (λ (w : List (Step _)). IsOrderly w) (meanings_cut steps i step there is) c.requires.orderly in
    let grown = meanings_take steps i step there is in
    let lists : (t : Name) → list_of t c.take.new.lists.entries ≡ own_of t (meanings (take (i + 1) steps)) = λ t.
    c.in_ok-take.ensures.lists t
    ∙ ap (λ (w : List (Item _)). own_after t (meaning step) w) (c.loop-i.invariant.lists t)
    ∙ sym (own_grows past rest (meaning step) orderly t)
    ∙ ap (λ (w : List (Step _)). own_of t w) (sym grown) in
    let so = c.loop-i.invariant.so_far in
    let top = ap (λ (w : List Bool). get_or w i _) c.requires.marks ∙ tops_at (meanings steps) rest (meaning step) i _ (map_drop steps i ∙ meanings_drop steps i step there is) in
    let few = c.loop-i.invariant.few in
    let more = c.in_ok-take.ensures.total in
    record {
      lists = lists;
      few = omega (arith, few, more);
      so_far = (
        so.0 ++ peak_at _ (meaning step) (λ t. list_of t c.take.new.lists.entries),
        further past (meanings (take (i + 1) steps)) rest (meaning step) _ (λ t. list_of t c.take.new.lists.entries) so.0 _
            grown top lists (ap (λ (w : List (Step _)). so.0 ++ peaks_behind past w) (sym (meanings_drop steps i step there is)) ∙ so.1),
        c.in_ok-take.ensures.added so.0 so.2,
      );
    }
