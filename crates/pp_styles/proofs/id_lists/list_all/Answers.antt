use Rattle.std.proofs.Common.{◌≡◌, ◌<◌, ◌≤◌, ◌==◌, ◌++◌, ◌∷◌, [], arith, length, subst, sym, take_all, if◌then◌else◌}
use Rattle.pp_records.specs.Fronts.{at_name}
use Rattle.pp_log_shared.proofs.Nexts.{read}
use Rattle.pp_model.specs.Lists.{In}
use Rattle.pp_styles.specs.Publishing.{ids_by}
use Rattle.pp_styles.proofs.Looking.{list_next}
use Rattle.pp_styles.proofs.id_lists.list_all.Goals as goal

pub loop-entry-preserved : goal.loop-entry-preserved
loop-entry-preserved g c =
    let P = g.S.Placed.place_of in
    let G = c.args.shared.now.1 in
    let i = c.loop-entry.entry-index in
    let e = c.entry-item.result in
    let all = c.entries-entry-items.result.now in
    let old = c.loop-entry.lists.entries in
    let new = c.add_on.new.lists.entries in
    let size = subst (λ w. i < length w) c.entries-entry-items.ensures c.loop-entry-test.true in
    let here = read all G i e c.entries-entry-items.ensures size c.entry-item.is in
    list_next P (λ v o. ids_by v o old) (λ v o. ids_by v o new) G i e here
    (λ v o. subst (λ n. ids_by v o new ≡ (if o == n then at_name e.owner (ids_by e.owner n old ++ e.id ∷ []) (λ u. ids_by u n old) v else ids_by v o old)) c.place.ensures (c.in_ok-add_on.ensures v o))
    c.loop-entry.invariant

pub returns : goal.returns
returns g c =
    let i = c.loop-entry.entry-index in
    let past = subst (λ w. length w ≤ i) c.entries-entry-items.ensures (omega (arith, c.loop-entry-test.false)) in
    λ e there. c.loop-entry.invariant e (subst (λ w. In e w) (sym (take_all i c.args.shared.now.1 past)) there)
