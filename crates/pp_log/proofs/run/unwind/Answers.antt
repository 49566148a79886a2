use Rattle.std.proofs.Common.{IsTrue, ◌≡◌, ◌<◌, ◌+◌, ◌-◌, ◌++◌, ℕ, length, sym, ◌∙◌, ap, subst, take, arith}
use Rattle.pp_kind.specs.Object.{IsLegal, IsReached}
use Rattle.pp_log.specs.Parts.{items_on}
use Rattle.pp_log.specs.Runs.{IsRun}
use Rattle.pp_log.proofs.Parted.{none_more_there, one_more, some_first, stands_behind}
use Rattle.pp_log.proofs.Runs.{run_last}
use Rattle.pp_log.proofs.run.unwind.Goals as goal

pub undo-requires : goal.undo-requires
undo-requires g c =
    let o = g.S.Spec.object in
    let place = g.S.Placed.place_of in
    let f = g.T.Side.item_of in
    let p = c.args.place in
    let y = c.args.entries.now in
    let k : ℕ = c.loop-left.left - 1 in
    let d = c.index-entries-left.result in
    let h = c.requires.run in
    let inv = c.loop-left.invariant in
    let within = inv.within in
    let left = inv.left in
    let len = c.len.ensures in
    let test = c.loop-left-test.true in
    let some = some_first place f p y c.loop-left.left (omega arith) in
    let next : c.loop-left.left ≡ k + 1 = omega arith in
    let lt : k < length y = omega arith in
    let op_is = c.op-op.ensures in
    let here : place (f d).op ≡ p = ap place (sym op_is) ∙ sym c.place.ensures ∙ c.if-place.true in
    let more = one_more place f p y k d lt c.index-entries-left.is here in
    let now = subst (λ n. length c.loop-left.undos.items ≡ c.args.from + length (items_on place f p (take n y))) next left in
    let popped = c.in-Some.ensures.len in
    let size = h.size in
    let found = stands_behind place f p y k d lt c.index-entries-left.is h.before (length c.pop.new.self.items) (omega arith) here in
    let last = run_last o g.met.S.Spec.lawful h.start c.loop-left.state (h.before ++ items_on place f p y) c.loop-left.undos.items c.pop.new.self.items c.in-Some.undo (f d) c.in-Some.ensures.items found
    (inv.run h.start h.before h.size h.run) in
    subst (λ a. (x : _) × IsReached o x × IsTrue (o.ranged a) × IsLegal o x a × (c.loop-left.state ≡ o.next x a) × (c.in-Some.undo ≡ o.upkeep.kept x a)) (sym op_is)
    (last.before, last.reached, last.ranged, last.legal, last.state, last.undo)

pub loop-left-preserved-in-Continue-1 : goal.loop-left-preserved-in-Continue-1
loop-left-preserved-in-Continue-1 g c =
    let o = g.S.Spec.object in
    let place = g.S.Placed.place_of in
    let f = g.T.Side.item_of in
    let p = c.args.place in
    let y = c.args.entries.now in
    let k : ℕ = c.loop-left.left - 1 in
    let d = c.index-entries-left.result in
    let inv = c.loop-left.invariant in
    let within = inv.within in
    let left = inv.left in
    let len = c.len.ensures in
    let test = c.loop-left-test.true in
    let some = some_first place f p y c.loop-left.left (omega arith) in
    let next : c.loop-left.left ≡ k + 1 = omega arith in
    let lt : k < length y = omega arith in
    let op_is = c.op-op.ensures in
    let here : place (f d).op ≡ p = ap place (sym op_is) ∙ sym c.place.ensures ∙ c.if-place.true in
    let more = one_more place f p y k d lt c.index-entries-left.is here in
    let now = subst (λ n. length c.loop-left.undos.items ≡ c.args.from + length (items_on place f p (take n y))) next left in
    let popped = c.in-Some.ensures.len in
    let cost = c.undo.ensures.cost in
    let rises = inv.rises in
    let costs = inv.cost in
    record {
      run = λ b before size h.
          let found = stands_behind place f p y k d lt c.index-entries-left.is before (length c.pop.new.self.items) (omega arith) here in
          let last = run_last o g.met.S.Spec.lawful b c.loop-left.state (before ++ items_on place f p y) c.loop-left.undos.items c.pop.new.self.items c.in-Some.undo (f d) c.in-Some.ensures.items found
          (inv.run b before size h) in
          subst (λ t. IsRun o b (before ++ items_on place f p y) c.pop.new.self.items t)
          (sym (c.in_ok-undo.ensures.ok ∙ ap (λ a. o.upkeep.back c.loop-left.state a c.in-Some.undo) op_is ∙ last.back)) last.shorter;
      within = omega arith;
      left = omega arith;
      rises = omega arith;
      cost = omega arith;
    }

pub loop-left-preserved : goal.loop-left-preserved
loop-left-preserved g c =
    let place = g.S.Placed.place_of in
    let f = g.T.Side.item_of in
    let p = c.args.place in
    let y = c.args.entries.now in
    let k : ℕ = c.loop-left.left - 1 in
    let d = c.index-entries-left.result in
    let inv = c.loop-left.invariant in
    let within = inv.within in
    let left = inv.left in
    let len = c.len.ensures in
    let test = c.loop-left-test.true in
    let some = some_first place f p y c.loop-left.left (omega arith) in
    let next : c.loop-left.left ≡ k + 1 = omega arith in
    let lt : k < length y = omega arith in
    let none = none_more_there place f p y k d lt c.index-entries-left.is (λ at. c.if-place.false (c.place.ensures ∙ ap place c.op-op.ensures ∙ at)) in
    let now = subst (λ n. length c.loop-left.undos.items ≡ c.args.from + length (items_on place f p (take n y))) next left in
    record {
      run = inv.run;
      within = omega arith;
      left = now ∙ ap (λ l. c.args.from + length l) none;
      rises = inv.rises;
      cost = inv.cost;
    }
