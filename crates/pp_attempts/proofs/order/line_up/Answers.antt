use Rattle.std.proofs.Common.{◌≡◌, ◌-◌, ◌++◌, ◌∷◌, [], List, arith, drop, get_or, length, rules, take}
use Rattle.std.proofs.Common.{ap, subst, sym, ◌∙◌, refl}
use Rattle.std.proofs.lemmas.List.{length-drop, take_all}
use Rattle.pp_model.specs.Lists.{In}
use Rattle.pp_model.specs.Object.{Item, ops}
use Rattle.pp_attempts.specs.Trying.{AreAlikeTo, Candidate, Share, StandsAt}
use Rattle.pp_attempts.proofs.Fronts.{in_there}
use Rattle.pp_attempts.proofs.LiningUp.{alike_more, position_within, positions_more, rests_more}
use Rattle.pp_attempts.proofs.order.line_up.Goals as goal

pub offset_bounds-peaks-position : goal.offset_bounds-peaks-position
offset_bounds-peaks-position g c =
    let ps = c.args.peaks.now in
    let within = position_within ps c.deref-position-items.result.now c.in_ok-order.order.items c.loop-position.position-index c.loop-position-test.true c.deref-position-items.ensures.value c.in_ok-order.ensures in
    omega (arith, within)

pub bounds-peaks-position : goal.bounds-peaks-position
bounds-peaks-position g c =
    position_within c.args.peaks.now c.deref-position-items.result.now c.in_ok-order.order.items c.loop-position.position-index c.loop-position-test.true c.deref-position-items.ensures.value c.in_ok-order.ensures

pub common-shared-requires : goal.common-shared-requires
common-shared-requires g c = λ i j m n same.
    let ps = c.args.peaks.now in
    let p = c.index-peaks-position.result in
    let within = position_within ps c.deref-position-items.result.now c.in_ok-order.order.items c.loop-position.position-index c.loop-position-test.true c.deref-position-items.ensures.value c.in_ok-order.ensures in
    let q = c.loop-position.invariant.among i m in
    let as_items = c.as_slice-items.ensures ∙ ap (λ x. x.ops) (sym c.index-peaks-position.is) in
    c.requires q.0 p i j q.1 (in_there ps _ p within c.index-peaks-position.is) q.2 (subst (λ (w : List (Item _)). In j w) as_items n) same

pub loop-position-preserved : goal.loop-position-preserved
loop-position-preserved g c =
    let ps = c.args.peaks.now in
    let os = c.deref-position-items.result.now in
    let k = c.loop-position.position-index in
    let candidates = c.loop-position.candidates in
    let cs = candidates.list.items in
    let p = c.index-peaks-position.result in
    let position = (get_or os k (0, 0)).1 in
    let within = position_within ps os c.in_ok-order.order.items k c.loop-position-test.true c.deref-position-items.ensures.value c.in_ok-order.ensures in
    let there : StandsAt ps position p = (within, c.index-peaks-position.is) in
    let as_items = c.as_slice-items.ensures ∙ ap (λ x. x.ops) (sym c.index-peaks-position.is) in
    let shared = c.common-shared.result in
    let items = c.as_slice-items.result.now in
    let m : List _ = ops (take (length items - shared) (drop shared items)) in
    let one : Candidate = record { position = position; shared = shared; from = c.len-from.result; to = c.len.result } in
    let pushed : c.push.new.self.items ≡ cs ++ one ∷ [] = c.in_ok-push.ensures.items in
    let share : Share shared c.loop-position.before.now p.ops = subst (λ (w : List (Item _)). Share shared c.loop-position.before.now w) as_items c.common-shared.ensures.share in
    let from : c.len-from.result ≡ length candidates.ops.items = search rules in
    let end : c.len.result ≡ length c.add_ops.new.list.items = search rules in
    let short = c.common-shared.ensures.within in
    let long = ap (λ (w : List (Item _)). length w) as_items in
    record {
      within = omega (arith, c.loop-position-test.true);
      positions = positions_more os cs c.push.new.self.items k one c.loop-position-test.true refl pushed c.loop-position.invariant.positions;
      alike = λ n ys more. subst (λ w. AreAlikeTo ps [] w n ys) (sym pushed)
          (alike_more ps [] cs one p n ys there (c.loop-position.invariant.alike shared p.ops share) (subst (λ (w : List (Item _)). Share n w ys) as_items more));
      rests = rests_more ps candidates.ops.items m c.add_ops.new.list.items cs c.push.new.self.items one p c.loop-position.invariant.rests c.in_ok-add_ops.ensures pushed there
          (omega (arith, short, long)) from end
          (ap (λ (w : List (Item _)). ops w) (take_all (length items - shared) (drop shared items) (omega (arith, length-drop shared items))) ∙ ap (λ (w : List (Item _)). ops (drop shared w)) as_items);
      among = λ i n. (p, in_there ps position p within c.index-peaks-position.is, subst (λ (w : List (Item _)). In i w) as_items n);
    }
