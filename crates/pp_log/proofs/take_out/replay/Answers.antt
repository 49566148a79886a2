use Rattle.std.proofs.Common.{◌≡◌, ◌-◌, ◌++◌, Some, drop, length, take, sym, ◌∙◌, ap}
use Rattle.std.proofs.Common.{subst, arith, append_assoc, length-append}
use Rattle.std.specs.List.{remove}
use Rattle.std.proofs.lemmas.Option.{slice_get-get_or}
use Rattle.pp_log.specs.Logs.{DiffersFrom}
use Rattle.pp_log.specs.Parts.{items_on, with_first}
use Rattle.pp_log.specs.Runs.{IsRun}
use Rattle.pp_log.specs.TakesOut.{itself}
use Rattle.pp_log.proofs.Edits.{differs_where, never_stops, run_without}
use Rattle.pp_log.proofs.Grown.{ids-remove}
use Rattle.pp_log.proofs.Parted.{stands_behind}
use Rattle.pp_log.proofs.Replayed.{items_parts, left_is, run_before, run_front, size_is, whole_is}
use Rattle.pp_log.proofs.take_out.replay.Goals as goal

pub rewind-requires : goal.rewind-requires
rewind-requires g c =
    let o = g.S.Spec.object in
    let place = g.S.Placed.place_of in
    let f = g.T.Side.item_of in
    let y = c.args.entries.now in
    let e = c.index-entries-0.result in
    let p = c.place-p.result in
    let p_is : p ≡ place (f e).op = c.place-p.ensures ∙ ap place c.op.ensures in
    let from = c.args.from in
    let us = c.args.place.now.undos.items in
    let all = items_on place f p y in
    let rest = take (length y - 1) (drop 1 y) in
    let others = items_on place f p rest in
    let is = whole_is place f y e c.requires.some c.index-entries-0.is p p_is in
    let more = size_is place f y e c.requires.some c.index-entries-0.is p p_is in
    let len = c.in_ok-unwind.ensures.len in
    let h = c.requires.whole in
    let run = subst (λ z. IsRun o h.start (h.before ++ z) us c.args.state.now) is h.whole.run in
    let parts = length-append h.before all in
    let n = h.size in
    let shorter = run_without o h.start c.unwind.new.state (h.before ++ all) c.unwind.new.undos.items from (omega arith) (omega arith) (c.in_ok-unwind.ensures.run h.start h.before h.size run) in
    let left = left_is place f y e c.requires.some c.index-entries-0.is p p_is h.before from h.size in
    let begun = subst (λ z. IsRun o h.start z c.unwind.new.undos.items c.unwind.new.state) left shorter in
    record { start = h.start; before = h.before; size = h.size ∙ sym len; run = begun }

pub returns-in_default-clause-takes : goal.returns-in_default-clause-takes
returns-in_default-clause-takes g c = λ b before size whole.
    let o = g.S.Spec.object in
    let place = g.S.Placed.place_of in
    let f = g.T.Side.item_of in
    let y = c.args.entries.now in
    let e = c.index-entries-0.result in
    let p = c.place-p.result in
    let p_is : p ≡ place (f e).op = c.place-p.ensures ∙ ap place c.op.ensures in
    let from = c.args.from in
    let us = c.args.place.now.undos.items in
    let all = items_on place f p y in
    let rest = take (length y - 1) (drop 1 y) in
    let others = items_on place f p rest in
    let is = whole_is place f y e c.requires.some c.index-entries-0.is p p_is in
    let more = size_is place f y e c.requires.some c.index-entries-0.is p p_is in
    let len = c.in_ok-unwind.ensures.len in
    let run = subst (λ z. IsRun o b (before ++ z) us c.args.state.now) is whole.run in
    let parts = length-append before all in
    let n = size in
    let shorter = run_without o b c.unwind.new.state (before ++ all) c.unwind.new.undos.items from (omega arith) (omega arith) (c.in_ok-unwind.ensures.run b before size run) in
    let left = left_is place f y e c.requires.some c.index-entries-0.is p p_is before from size in
    let begun = subst (λ z. IsRun o b z c.unwind.new.undos.items c.unwind.new.state) left shorter in
    let done = c.in_ok-stop.ensures.run b before (size ∙ sym len) begun in
    let stops = (rw c.in_default.is at c.in_ok-stop.ensures.stops) before (size ∙ sym len) in
    let out = ap (λ z. remove (before ++ z) from) is ∙ left in
    record {
      run = subst (λ z. IsRun o b z c.rewind.new.undos.items c.rewind.new.state) (sym out) done;
      all = stops ∙ ap length (sym out);
      ids = c.remove.ensures.items ∙ ap (λ z. remove z from) whole.ids ∙ ids-remove (before ++ with_first place f y) from;
    }

pub unwind-requires-2-clause-run : goal.unwind-requires-2-clause-run
unwind-requires-2-clause-run g c =
    let o = g.S.Spec.object in
    let place = g.S.Placed.place_of in
    let f = g.T.Side.item_of in
    let y = c.args.entries.now in
    let e = c.index-entries-0.result in
    let p = c.place-p.result in
    let p_is : p ≡ place (f e).op = c.place-p.ensures ∙ ap place c.op.ensures in
    let from = c.args.from in
    let us = c.args.place.now.undos.items in
    let all = items_on place f p y in
    let rest = take (length y - 1) (drop 1 y) in
    let others = items_on place f p rest in
    let is = whole_is place f y e c.requires.some c.index-entries-0.is p p_is in
    let more = size_is place f y e c.requires.some c.index-entries-0.is p p_is in
    let len = c.in_ok-unwind.ensures.len in
    let h = c.requires.whole in
    let run = subst (λ z. IsRun o h.start (h.before ++ z) us c.args.state.now) is h.whole.run in
    let parts = length-append h.before all in
    let n = h.size in
    let shorter = run_without o h.start c.unwind.new.state (h.before ++ all) c.unwind.new.undos.items from (omega arith) (omega arith) (c.in_ok-unwind.ensures.run h.start h.before h.size run) in
    let left = left_is place f y e c.requires.some c.index-entries-0.is p p_is h.before from h.size in
    let begun = subst (λ z. IsRun o h.start z c.unwind.new.undos.items c.unwind.new.state) left shorter in
    let stopped = c.in_ok-stop.ensures.run h.start h.before (h.size ∙ sym len) begun in
    let at = rw c.in-Some.is at c.in_ok-stop.ensures.at in
    let many = at.size in
    let front = items_on place f p (take c.in-Some.stop.at rest) in
    let behind = items_on place f p (drop c.in-Some.stop.at rest) in
    let split = ap (λ z. h.before ++ z) (items_parts place f p rest c.in-Some.stop.at) ∙ sym (append_assoc h.before front behind) in
    let two = length-append h.before front in
    let so_far = run_front o h.start c.rewind.new.state (h.before ++ front) behind c.rewind.new.undos.items (omega arith)
    (subst (λ z. IsRun o h.start z c.rewind.new.undos.items c.rewind.new.state) split stopped) in
    record { start = h.start; before = h.before; size = h.size; run = so_far }

pub rewind-requires-2 : goal.rewind-requires-2
rewind-requires-2 g c =
    let o = g.S.Spec.object in
    let place = g.S.Placed.place_of in
    let f = g.T.Side.item_of in
    let y = c.args.entries.now in
    let e = c.index-entries-0.result in
    let p = c.place-p.result in
    let p_is : p ≡ place (f e).op = c.place-p.ensures ∙ ap place c.op.ensures in
    let from = c.args.from in
    let us = c.args.place.now.undos.items in
    let all = items_on place f p y in
    let rest = take (length y - 1) (drop 1 y) in
    let others = items_on place f p rest in
    let is = whole_is place f y e c.requires.some c.index-entries-0.is p p_is in
    let more = size_is place f y e c.requires.some c.index-entries-0.is p p_is in
    let len = c.in_ok-unwind.ensures.len in
    let h = c.requires.whole in
    let run = subst (λ z. IsRun o h.start (h.before ++ z) us c.args.state.now) is h.whole.run in
    let parts = length-append h.before all in
    let n = h.size in
    let shorter = run_without o h.start c.unwind.new.state (h.before ++ all) c.unwind.new.undos.items from (omega arith) (omega arith) (c.in_ok-unwind.ensures.run h.start h.before h.size run) in
    let left = left_is place f y e c.requires.some c.index-entries-0.is p p_is h.before from h.size in
    let begun = subst (λ z. IsRun o h.start z c.unwind.new.undos.items c.unwind.new.state) left shorter in
    let stopped = c.in_ok-stop.ensures.run h.start h.before (h.size ∙ sym len) begun in
    let at = rw c.in-Some.is at c.in_ok-stop.ensures.at in
    let many = at.size in
    let front = items_on place f p (take c.in-Some.stop.at rest) in
    let behind = items_on place f p (drop c.in-Some.stop.at rest) in
    let split = ap (λ z. h.before ++ z) (items_parts place f p rest c.in-Some.stop.at) ∙ sym (append_assoc h.before front behind) in
    let two = length-append h.before front in
    let so_far = run_front o h.start c.rewind.new.state (h.before ++ front) behind c.rewind.new.undos.items (omega arith)
    (subst (λ z. IsRun o h.start z c.rewind.new.undos.items c.rewind.new.state) split stopped) in
    let len2 = c.in_ok-unwind-2.ensures.len in
    let full = run_before o h.start c.unwind-2.new.state c.args.state.now h.before front all c.unwind-2.new.undos.items us (len2 ∙ sym h.size) run
    (c.in_ok-unwind-2.ensures.run h.start h.before h.size so_far) in
    record { start = h.start; before = h.before; size = h.size ∙ sym len2; run = full }

pub unreachable-requires : goal.unreachable-requires
unreachable-requires g c =
    let o = g.S.Spec.object in
    let place = g.S.Placed.place_of in
    let f = g.T.Side.item_of in
    let y = c.args.entries.now in
    let e = c.index-entries-0.result in
    let p = c.place-p.result in
    let p_is : p ≡ place (f e).op = c.place-p.ensures ∙ ap place c.op.ensures in
    let from = c.args.from in
    let us = c.args.place.now.undos.items in
    let all = items_on place f p y in
    let rest = take (length y - 1) (drop 1 y) in
    let others = items_on place f p rest in
    let is = whole_is place f y e c.requires.some c.index-entries-0.is p p_is in
    let more = size_is place f y e c.requires.some c.index-entries-0.is p p_is in
    let len = c.in_ok-unwind.ensures.len in
    let h = c.requires.whole in
    let run = subst (λ z. IsRun o h.start (h.before ++ z) us c.args.state.now) is h.whole.run in
    let parts = length-append h.before all in
    let n = h.size in
    let shorter = run_without o h.start c.unwind.new.state (h.before ++ all) c.unwind.new.undos.items from (omega arith) (omega arith) (c.in_ok-unwind.ensures.run h.start h.before h.size run) in
    let left = left_is place f y e c.requires.some c.index-entries-0.is p p_is h.before from h.size in
    let begun = subst (λ z. IsRun o h.start z c.unwind.new.undos.items c.unwind.new.state) left shorter in
    let stopped = c.in_ok-stop.ensures.run h.start h.before (h.size ∙ sym len) begun in
    let at = rw c.in-Some.is at c.in_ok-stop.ensures.at in
    let many = at.size in
    let front = items_on place f p (take c.in-Some.stop.at rest) in
    let behind = items_on place f p (drop c.in-Some.stop.at rest) in
    let split = ap (λ z. h.before ++ z) (items_parts place f p rest c.in-Some.stop.at) ∙ sym (append_assoc h.before front behind) in
    let two = length-append h.before front in
    let so_far = run_front o h.start c.rewind.new.state (h.before ++ front) behind c.rewind.new.undos.items (omega arith)
    (subst (λ z. IsRun o h.start z c.rewind.new.undos.items c.rewind.new.state) split stopped) in
    let len2 = c.in_ok-unwind-2.ensures.len in
    let full = run_before o h.start c.unwind-2.new.state c.args.state.now h.before front all c.unwind-2.new.undos.items us (len2 ∙ sym h.size) run
    (c.in_ok-unwind-2.ensures.run h.start h.before h.size so_far) in
    let again = c.in_ok-rewind.ensures.run h.start h.before (h.size ∙ sym len2) full in
    let stops = (rw c.in_default-2.is at c.in_ok-rewind.ensures.stops) h.before (h.size ∙ sym len2) in
    never_stops o h.start c.rewind-2.new.state c.args.state.now (h.before ++ all) c.rewind-2.new.undos.items us c.in_default-2.field-0.answer run
    (h.whole.all ∙ ap (λ z. length (h.before ++ z)) is) again stops

pub returns-clause-takes : goal.returns-clause-takes
returns-clause-takes g c = λ b before size whole.
    let o = g.S.Spec.object in
    let place = g.S.Placed.place_of in
    let f = g.T.Side.item_of in
    let y = c.args.entries.now in
    let e = c.index-entries-0.result in
    let p = c.place-p.result in
    let p_is : p ≡ place (f e).op = c.place-p.ensures ∙ ap place c.op.ensures in
    let from = c.args.from in
    let us = c.args.place.now.undos.items in
    let all = items_on place f p y in
    let rest = take (length y - 1) (drop 1 y) in
    let others = items_on place f p rest in
    let is = whole_is place f y e c.requires.some c.index-entries-0.is p p_is in
    let more = size_is place f y e c.requires.some c.index-entries-0.is p p_is in
    let len = c.in_ok-unwind.ensures.len in
    let run = subst (λ z. IsRun o b (before ++ z) us c.args.state.now) is whole.run in
    let parts = length-append before all in
    let n = size in
    let shorter = run_without o b c.unwind.new.state (before ++ all) c.unwind.new.undos.items from (omega arith) (omega arith) (c.in_ok-unwind.ensures.run b before size run) in
    let left = left_is place f y e c.requires.some c.index-entries-0.is p p_is before from size in
    let begun = subst (λ z. IsRun o b z c.unwind.new.undos.items c.unwind.new.state) left shorter in
    let stopped = c.in_ok-stop.ensures.run b before (size ∙ sym len) begun in
    let at = rw c.in-Some.is at c.in_ok-stop.ensures.at in
    let many = at.size in
    let front = items_on place f p (take c.in-Some.stop.at rest) in
    let behind = items_on place f p (drop c.in-Some.stop.at rest) in
    let split = ap (λ z. before ++ z) (items_parts place f p rest c.in-Some.stop.at) ∙ sym (append_assoc before front behind) in
    let two = length-append before front in
    let so_far = run_front o b c.rewind.new.state (before ++ front) behind c.rewind.new.undos.items (omega arith)
    (subst (λ z. IsRun o b z c.rewind.new.undos.items c.rewind.new.state) split stopped) in
    let len2 = c.in_ok-unwind-2.ensures.len in
    let full = run_before o b c.unwind-2.new.state c.args.state.now before front all c.unwind-2.new.undos.items us (len2 ∙ sym size) run
    (c.in_ok-unwind-2.ensures.run b before size so_far) in
    let again = c.in_ok-rewind.ensures.run b before (size ∙ sym len2) full in
    let stops = (rw c.in-None.is at c.in_ok-rewind.ensures.stops) before (size ∙ sym len2) in
    let stop = (rw c.in-Some.is at c.in_ok-stop.ensures.stops) before (size ∙ sym len) in
    let d = c.index-others-stop.result in
    let there = slice_get-get_or rest c.in-Some.stop.at d at.within ∙ ap Some (sym c.index-others-stop.is) in
    let found = stands_behind place f p rest c.in-Some.stop.at d at.within c.index-others-stop.is before (length c.rewind.new.undos.items) (omega arith) (at.here d there) in
    let out = ap (λ z. remove (before ++ z) from) is ∙ left in (
      record {
        run = subst (λ z. IsRun o b (before ++ z) c.rewind-2.new.undos.items c.rewind-2.new.state) (sym is) again;
        all = stops ∙ ap (λ z. length (before ++ z)) (sym is);
        ids = whole.ids;
      },
      subst (λ z. DiffersFrom o itself b z c.item-id.result.id c.in-Some.stop.answer) (sym out)
          (subst (λ k. DiffersFrom o itself b (before ++ others) k c.in-Some.stop.answer) (ap (λ z. z.id) (sym c.item-id.ensures))
          (differs_where o b c.rewind.new.state (before ++ others) c.rewind.new.undos.items (f d) c.in-Some.stop.answer found stopped stop)),
    )
