use Rattle.std.proofs.Common.{IsTrue, Some, ◌≡◌, ◌≢◌, ◌<◌, ◌+◌, ◌++◌, length, sym, ◌∙◌, ap}
use Rattle.std.proofs.Common.{subst, arith, length-append}
use Rattle.std.proofs.lemmas.Option.{get_or_from_slice_get, slice_get-get_or}
use Rattle.pp_log.specs.Parts.{items_on}
use Rattle.pp_log.specs.Runs.{IsRun}
use Rattle.pp_log.proofs.Parted.{fewer, none_more_there, one_more, stands_behind}
use Rattle.pp_log.proofs.Runs.{run_fits, run_ranged, run_reached, run_more}
use Rattle.pp_log.proofs.run.rewind.Goals as goal
use Rattle.pp_log.proofs.run.rewind.Goals.{then-place+in_ok-undo+in-Done+in-Ok, else-place}

pub apply-requires-clause-fits : goal.apply-requires-clause-fits
apply-requires-clause-fits g c =
    let o = g.S.Spec.object in
    let place = g.S.Placed.place_of in
    let f = g.T.Side.item_of in
    let p = c.args.place in
    let y = c.args.entries.now in
    let d = c.index-entries-at.result in
    let h = c.requires in
    let x = h.before ++ items_on place f p y in
    let us = c.loop-at.undos.items in
    let op_is = c.op-op.ensures in
    let here : place (f d).op ≡ p = ap place (sym op_is) ∙ sym c.place.ensures ∙ c.if-place.true in
    let less = fewer place f p y c.loop-at.at d c.loop-at-test.true c.index-entries-at.is here in
    let all = length-append h.before (items_on place f p y) in
    let size = h.size in
    let more = c.loop-at.invariant.size in
    let left : length us < length x = omega arith in
    let found = stands_behind place f p y c.loop-at.at d c.loop-at-test.true c.index-entries-at.is h.before (length us) (omega arith) here in
    subst (λ a. IsTrue (o.fits (o.shape c.loop-at.state) a)) (sym op_is)
    (run_fits o g.met.S.Spec.lawful h.start c.loop-at.state x us (f d) (c.loop-at.invariant.run h.start h.before h.size h.run) left found)

pub apply-requires-clause-ranged : goal.apply-requires-clause-ranged
apply-requires-clause-ranged g c =
    let o = g.S.Spec.object in
    let place = g.S.Placed.place_of in
    let f = g.T.Side.item_of in
    let p = c.args.place in
    let y = c.args.entries.now in
    let d = c.index-entries-at.result in
    let h = c.requires in
    let x = h.before ++ items_on place f p y in
    let us = c.loop-at.undos.items in
    let op_is = c.op-op.ensures in
    let here : place (f d).op ≡ p = ap place (sym op_is) ∙ sym c.place.ensures ∙ c.if-place.true in
    let less = fewer place f p y c.loop-at.at d c.loop-at-test.true c.index-entries-at.is here in
    let all = length-append h.before (items_on place f p y) in
    let size = h.size in
    let more = c.loop-at.invariant.size in
    let left : length us < length x = omega arith in
    let found = stands_behind place f p y c.loop-at.at d c.loop-at-test.true c.index-entries-at.is h.before (length us) (omega arith) here in
    subst (λ a. IsTrue (o.ranged a)) (sym op_is)
    (run_ranged o g.met.S.Spec.lawful h.start c.loop-at.state x us (f d) (c.loop-at.invariant.run h.start h.before h.size h.run) left found)

pub apply-requires-clause-reached : goal.apply-requires-clause-reached
apply-requires-clause-reached g c =
    let place = g.S.Placed.place_of in
    let f = g.T.Side.item_of in
    let p = c.args.place in
    let y = c.args.entries.now in
    let d = c.index-entries-at.result in
    let h = c.requires in
    let x = h.before ++ items_on place f p y in
    let us = c.loop-at.undos.items in
    let here : place (f d).op ≡ p = ap place (sym c.op-op.ensures) ∙ sym c.place.ensures ∙ c.if-place.true in
    let less = fewer place f p y c.loop-at.at d c.loop-at-test.true c.index-entries-at.is here in
    let all = length-append h.before (items_on place f p y) in
    let size = h.size in
    let more = c.loop-at.invariant.size in
    let left : length us < length x = omega arith in
    run_reached g.S.Spec.object g.met.S.Spec.lawful h.start c.loop-at.state x us (c.loop-at.invariant.run h.start h.before h.size h.run) left

pub returns-in_err-undo-clause-bound : goal.returns-in_err-undo-clause-bound
returns-in_err-undo-clause-bound g c =
    let place = g.S.Placed.place_of in
    let f = g.T.Side.item_of in
    let here : place (f c.index-entries-at.result).op ≡ c.args.place = ap place (sym c.op-op.ensures) ∙ sym c.place.ensures ∙ c.if-place.true in
    let less = fewer place f c.args.place c.args.entries.now c.loop-at.at c.index-entries-at.result c.loop-at-test.true c.index-entries-at.is here in
    let cost = c.apply.ensures.cost in
    let costs = c.loop-at.invariant.cost in
    omega arith

pub returns-in_default-clause-bound : goal.returns-in_default-clause-bound
returns-in_default-clause-bound g c =
    let place = g.S.Placed.place_of in
    let f = g.T.Side.item_of in
    let here : place (f c.index-entries-at.result).op ≡ c.args.place = ap place (sym c.op-op.ensures) ∙ sym c.place.ensures ∙ c.if-place.true in
    let less = fewer place f c.args.place c.args.entries.now c.loop-at.at c.index-entries-at.result c.loop-at-test.true c.index-entries-at.is here in
    let cost = c.apply.ensures.cost in
    let costs = c.loop-at.invariant.cost in
    omega arith

pub gives-answer-requires : goal.gives-answer-requires
gives-answer-requires g c =
    let o = g.S.Spec.object in
    let place = g.S.Placed.place_of in
    let f = g.T.Side.item_of in
    let p = c.args.place in
    let y = c.args.entries.now in
    let d = c.index-entries-at.result in
    let h = c.requires in
    let x = h.before ++ items_on place f p y in
    let us = c.loop-at.undos.items in
    let op_is = c.op-op.ensures in
    let here : place (f d).op ≡ p = ap place (sym op_is) ∙ sym c.place.ensures ∙ c.if-place.true in
    let less = fewer place f p y c.loop-at.at d c.loop-at-test.true c.index-entries-at.is here in
    let all = length-append h.before (items_on place f p y) in
    let size = h.size in
    let more = c.loop-at.invariant.size in
    let left : length us < length x = omega arith in
    let found = stands_behind place f p y c.loop-at.at d c.loop-at-test.true c.index-entries-at.is h.before (length us) (omega arith) here in
    let applied = rw c.in-Differs.is at c.in_ok-undo.ensures.applied in
    subst (λ t. IsTrue (o.fits (o.shape t) c.op-op.result.now)) (sym applied.1)
    (subst (λ a. IsTrue (o.fits (o.shape c.loop-at.state) a)) (sym op_is)
    (run_fits o g.met.S.Spec.lawful h.start c.loop-at.state x us (f d) (c.loop-at.invariant.run h.start h.before h.size h.run) left found))

pub returns-in-Differs-clause-run : goal.returns-in-Differs-clause-run
returns-in-Differs-clause-run g c = λ b before size h.
    let applied = rw c.in-Differs.is at c.in_ok-undo.ensures.applied in
    subst (λ t. IsRun g.S.Spec.object b (before ++ items_on g.S.Placed.place_of g.T.Side.item_of c.args.place c.args.entries.now) c.loop-at.undos.items t) (sym applied.1) (c.loop-at.invariant.run b before size h)

pub returns-in-Differs-clause-stops : goal.returns-in-Differs-clause-stops
returns-in-Differs-clause-stops g c = λ before size.
    let o = g.S.Spec.object in
    let place = g.S.Placed.place_of in
    let f = g.T.Side.item_of in
    let p = c.args.place in
    let y = c.args.entries.now in
    let d = c.index-entries-at.result in
    let x = before ++ items_on place f p y in
    let us = c.loop-at.undos.items in
    let op_is = c.op-op.ensures in
    let here : place (f d).op ≡ p = ap place (sym op_is) ∙ sym c.place.ensures ∙ c.if-place.true in
    let less = fewer place f p y c.loop-at.at d c.loop-at-test.true c.index-entries-at.is here in
    let all = length-append before (items_on place f p y) in
    let more = c.loop-at.invariant.size in
    let left : length us < length x = omega arith in
    let found = stands_behind place f p y c.loop-at.at d c.loop-at-test.true c.index-entries-at.is before (length us) (omega arith) here in
    let applied = rw c.in-Differs.is at c.in_ok-undo.ensures.applied in
    let differs : o.gives c.loop-at.state (f d).op ≢ o.recorded (f d).op = subst (λ a. o.gives c.loop-at.state a ≢ o.recorded a) op_is applied.0 in
    let told = c.gives-answer.ensures ∙ ap (λ a. o.gives c.apply.new.state a) op_is in
    let same : c.gives-answer.result ≡ o.gives c.loop-at.state (f d).op = told ∙ ap (λ t. o.gives t (f d).op) applied.1 in
    (f d, slice_get-get_or x (length us) (f d) left ∙ ap Some (sym found), sym told, λ k. differs (sym same ∙ k))

pub returns-in-Differs-clause-at : goal.returns-in-Differs-clause-at
returns-in-Differs-clause-at g c =
    let place = g.S.Placed.place_of in
    let f = g.T.Side.item_of in
    let d = c.index-entries-at.result in
    let here : place (f d).op ≡ c.args.place = ap place (sym c.op-op.ensures) ∙ sym c.place.ensures ∙ c.if-place.true in
    record {
      within = c.loop-at-test.true;
      size = c.loop-at.invariant.size;
      here = λ e at. subst (λ b. place (f b).op ≡ c.args.place) (c.index-entries-at.is ∙ get_or_from_slice_get c.args.entries.now c.loop-at.at e d at) here;
    }

pub returns-in-Differs-clause-bound : goal.returns-in-Differs-clause-bound
returns-in-Differs-clause-bound g c =
    let place = g.S.Placed.place_of in
    let f = g.T.Side.item_of in
    let here : place (f c.index-entries-at.result).op ≡ c.args.place = ap place (sym c.op-op.ensures) ∙ sym c.place.ensures ∙ c.if-place.true in
    let less = fewer place f c.args.place c.args.entries.now c.loop-at.at c.index-entries-at.result c.loop-at-test.true c.index-entries-at.is here in
    let cost = c.apply.ensures.cost in
    let costs = c.loop-at.invariant.cost in
    omega arith

pub loop-at-preserved : goal.loop-at-preserved
loop-at-preserved g c =
    let o = g.S.Spec.object in
    let place = g.S.Placed.place_of in
    let f = g.T.Side.item_of in
    let p = c.args.place in
    let y = c.args.entries.now in
    let d = c.index-entries-at.result in
    let at = c.loop-at.at in
    let lt = c.loop-at-test.true in
    let is = c.index-entries-at.is in
    let op_is = c.op-op.ensures in
    let inv = c.loop-at.invariant in
    let us = c.loop-at.undos.items in
    elim c.if-place.branch [
      | then-place+in_ok-undo+in-Done+in-Ok w ↦
          let here : place (f d).op ≡ p = ap place (sym op_is) ∙ sym c.place.ensures ∙ w.if-place.true in
          let one = one_more place f p y at d lt is here in
          let less = fewer place f p y at d lt is here in
          let applied = rw w.in-Done.is at w.in_ok-undo.ensures.applied in
          let more = inv.size in
          let costs = inv.cost in
          let len = w.in-Ok.ensures.len in
          let cost = w.apply.ensures.cost in
          record {
            run = λ b before size h.
                let x = before ++ items_on place f p y in
                let all = length-append before (items_on place f p y) in
                let left : length us < length x = omega arith in
                let found = stands_behind place f p y at d lt is before (length us) (omega arith) here in
                let next = run_more o g.met.S.Spec.lawful b c.loop-at.state x us w.push.new.self.items (f d) w.in-Done.undo w.apply.new.state (inv.run b before size h) left found
                (subst (λ a. o.gives c.loop-at.state a ≡ o.recorded a) op_is applied.0) (applied.1 ∙ ap (o.upkeep.kept c.loop-at.state) op_is) (applied.2 ∙ ap (o.next c.loop-at.state) op_is) w.in-Ok.ensures.items in
                subst (λ v. IsRun o b x v.items c.if-place.state) (sym w.undos-is) (subst (λ t. IsRun o b x w.push.new.self.items t) (sym w.state-is) next);
            size = ap (λ v. length v.items) w.undos-is ∙ omega arith;
            cost = w.ticks-is ∙ omega arith;
          }
      | else-place w ↦
          let none = none_more_there place f p y at d lt is (λ k. w.if-place.false (c.place.ensures ∙ ap place op_is ∙ k)) in
          record {
            run = λ b before size h.
                let x = before ++ items_on place f p y in
                subst (λ v. IsRun o b x v.items c.if-place.state) (sym w.undos-is) (subst (λ t. IsRun o b x us t) (sym w.state-is) (inv.run b before size h));
            size = ap (λ v. length v.items) w.undos-is ∙ inv.size ∙ ap (λ l. length c.args.undos.now.items + length l) (sym none);
            cost = w.ticks-is ∙ inv.cost ∙ ap (λ l. c.args.ticks.now + length l) (sym none);
          }
    ]
