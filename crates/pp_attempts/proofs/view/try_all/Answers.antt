use Rattle.std.proofs.Common.{◌≡◌, ◌≤◌, ◌+◌, ◌-◌, None, List, drop, get_or, length, take, vec_len}
use Rattle.std.proofs.Common.{refl, sym, ap, subst, ◌∙◌, arith, rules}
use Rattle.pp_attempts.specs.Trying.{StandsAt}
use Rattle.pp_attempts.specs.Views.{View}
use Rattle.pp_attempts.proofs.Leaving.{not_some, others_within, some_is_not_none}
use Rattle.pp_attempts.proofs.LiningUp.{nobody, some_stands, stand_same}
use Rattle.pp_attempts.proofs.Rounds.{InRound, round_begins, round_after_failure, round_after_find, may_stand, may_try, round_after_number, views_after_round, round_after_skip}
use Rattle.pp_attempts.proofs.Rounds.{view_within, within_bound}
use Rattle.pp_attempts.proofs.Trails.{back_again}
use Rattle.pp_attempts.proofs.view.try_all.Goals.{then-all_done+then-is_none, else-all_done, else-all_done-via-then-all_done+else-is_none, else-all_done-via-else-all_done}
use Rattle.pp_attempts.proofs.view.try_all.Goals as goal

pub loop-candidate-init : goal.loop-candidate-init
loop-candidate-init g c = λ ps may.
    round_begins g.S.Spec.object ps c.args.number c.args.state.now c.args.views.now.items c.args.candidates.now c.args.done.now.items c.args.ticks.now c.requires.empty may

pub loop-candidate-preserved-then-len-candidate : goal.loop-candidate-preserved-then-len-candidate
loop-candidate-preserved-then-len-candidate g c = λ ps may.
    let o = g.S.Spec.object in
    let s = c.args.state.now in
    let old = c.args.views.now.items in
    let candidates = c.args.candidates.now in
    let xs = c.deref-candidate-items.result.now in
    let k = c.loop-candidate.candidate-index in
    let same = c.deref-candidate-items.ensures.value in
    let there = c.loop-candidate-test.true in
    let vs = c.loop-candidate.views.items in
    let done = c.loop-candidate.done.items in
    let t = c.loop-candidate.state in
    let t0 = c.args.ticks.now in
    let t1 = c.loop-candidate.ticks in
    let h = c.loop-candidate.invariant ps may in
    let len : c.len.result ≡ length done = search rules in
    let test = c.if-len-candidate.true in
    round_after_skip o ps c.args.number s old candidates k vs done t t0 t1 h may xs same there (omega (arith, len, test))

pub take_back_to-requires : goal.take_back_to-requires
take_back_to-requires g c =
    let o = g.S.Spec.object in
    let s = c.args.state.now in
    let old = c.args.views.now.items in
    let candidates = c.args.candidates.now in
    let k = c.loop-candidate.candidate-index in
    let vs = c.loop-candidate.views.items in
    let done = c.loop-candidate.done.items in
    let t = c.loop-candidate.state in
    let t0 = c.args.ticks.now in
    let t1 = c.loop-candidate.ticks in
    let ps = c.requires.candidates.0 in
    let may = c.requires.candidates.1 in
    let h = c.loop-candidate.invariant ps may in
    (s, may_stand o ps c.args.number s old candidates k vs done t t0 t1 h, h.furthest.stands)

pub offset_bounds-deref-candidate : goal.offset_bounds-deref-candidate
offset_bounds-deref-candidate g c =
    let r = others_within c.requires.candidates.0 c.args.views.now.items c.args.candidates.now c.deref-candidate-items.result.now c.loop-candidate.candidate-index
    c.deref-candidate-items.ensures.value c.loop-candidate-test.true c.requires.candidates.1.are in
    let long = ap (λ (w : List _). length w) c.deref.ensures.value in
    omega (arith, r.0, r.1, long)

pub slice_bounds-others-count : goal.slice_bounds-others-count
slice_bounds-others-count g c =
    let r = others_within c.requires.candidates.0 c.args.views.now.items c.args.candidates.now c.deref-candidate-items.result.now c.loop-candidate.candidate-index
    c.deref-candidate-items.ensures.value c.loop-candidate-test.true c.requires.candidates.1.are in
    r.0

pub slice_bounds-others-start : goal.slice_bounds-others-start
slice_bounds-others-start g c =
    let r = others_within c.requires.candidates.0 c.args.views.now.items c.args.candidates.now c.deref-candidate-items.result.now c.loop-candidate.candidate-index
    c.deref-candidate-items.ensures.value c.loop-candidate-test.true c.requires.candidates.1.are in
    r.0

pub slice_bounds-others-end : goal.slice_bounds-others-end
slice_bounds-others-end g c =
    let r = others_within c.requires.candidates.0 c.args.views.now.items c.args.candidates.now c.deref-candidate-items.result.now c.loop-candidate.candidate-index
    c.deref-candidate-items.ensures.value c.loop-candidate-test.true c.requires.candidates.1.are in
    let long = ap (λ (w : List _). length w) c.deref.ensures.value in
    omega (arith, r.1, long)

pub apply_all-requires : goal.apply_all-requires
apply_all-requires g c =
    let o = g.S.Spec.object in
    let s = c.args.state.now in
    let old = c.args.views.now.items in
    let candidates = c.args.candidates.now in
    let xs = c.deref-candidate-items.result.now in
    let k = c.loop-candidate.candidate-index in
    let same = c.deref-candidate-items.ensures.value in
    let there = c.loop-candidate-test.true in
    let vs = c.loop-candidate.views.items in
    let done = c.loop-candidate.done.items in
    let t = c.loop-candidate.state in
    let t0 = c.args.ticks.now in
    let t1 = c.loop-candidate.ticks in
    let ps = c.requires.candidates.0 in
    let may = c.requires.candidates.1 in
    let h = c.loop-candidate.invariant ps may in
    let at = get_or xs k nobody in
    let less = c.take_back_to.new.done.items in
    let len : c.len.result ≡ length done = search rules in
    let test = c.if-len-candidate.false in
    let enough : at.shared ≤ length done = omega (arith, len, test) in
    let others = take (at.to - at.from) (drop at.from c.deref.result.now) in (
      s,
      may_try o ps c.args.number s old candidates k vs done t t0 t1 h may xs same there less others enough c.in_ok-take_back_to.ensures.first (ap (λ (w : List _). take (at.to - at.from) (drop at.from w)) c.deref.ensures.value),
      c.in_ok-take_back_to.ensures.stands s (may_stand o ps c.args.number s old candidates k vs done t t0 t1 h) h.furthest.stands,
    )

pub returns-in_err-all_done-clause-bound : goal.returns-in_err-all_done-clause-bound
returns-in_err-all_done-clause-bound g c = λ ps may.
    let o = g.S.Spec.object in
    let s = c.args.state.now in
    let old = c.args.views.now.items in
    let candidates = c.args.candidates.now in
    let xs = c.deref-candidate-items.result.now in
    let k = c.loop-candidate.candidate-index in
    let same = c.deref-candidate-items.ensures.value in
    let there = c.loop-candidate-test.true in
    let vs = c.loop-candidate.views.items in
    let done = c.loop-candidate.done.items in
    let t = c.loop-candidate.state in
    let t0 = c.args.ticks.now in
    let t1 = c.loop-candidate.ticks in
    let h = c.loop-candidate.invariant ps may in
    let at = get_or xs k nobody in
    let less = c.take_back_to.new.done.items in
    let len : c.len.result ≡ length done = search rules in
    let test = c.if-len-candidate.false in
    let enough : at.shared ≤ length done = omega (arith, len, test) in
    let others = take (at.to - at.from) (drop at.from c.deref.result.now) in
    let are = ap (λ (w : List _). take (at.to - at.from) (drop at.from w)) c.deref.ensures.value in
    within_bound o ps c.args.number s old candidates k vs done t t0 t1 h may xs same there less others enough c.in_ok-take_back_to.ensures.first are c.take_back_to.new.ticks c.apply_all.new.ticks
    c.in_ok-take_back_to.ensures.rises c.in_ok-take_back_to.ensures.cost c.in_err-all_done.ensures.rises c.in_err-all_done.ensures.bound

pub index-requires : goal.index-requires
index-requires g c =
    let o = g.S.Spec.object in
    let s = c.args.state.now in
    let old = c.args.views.now.items in
    let candidates = c.args.candidates.now in
    let xs = c.deref-candidate-items.result.now in
    let k = c.loop-candidate.candidate-index in
    let same = c.deref-candidate-items.ensures.value in
    let there = c.loop-candidate-test.true in
    let vs = c.loop-candidate.views.items in
    let done = c.loop-candidate.done.items in
    let t = c.loop-candidate.state in
    let t0 = c.args.ticks.now in
    let t1 = c.loop-candidate.ticks in
    let ps = c.requires.candidates.0 in
    let may = c.requires.candidates.1 in
    let h = c.loop-candidate.invariant ps may in
    let len : vec_len c.loop-candidate.views ≡ length vs = search rules in
    let within = view_within o ps c.args.number s old candidates k vs done t t0 t1 h may xs same there in
    omega (arith, len, within)

pub index_mut-requires : goal.index_mut-requires
index_mut-requires g c =
    let o = g.S.Spec.object in
    let s = c.args.state.now in
    let old = c.args.views.now.items in
    let candidates = c.args.candidates.now in
    let xs = c.deref-candidate-items.result.now in
    let k = c.loop-candidate.candidate-index in
    let same = c.deref-candidate-items.ensures.value in
    let there = c.loop-candidate-test.true in
    let vs = c.loop-candidate.views.items in
    let done = c.loop-candidate.done.items in
    let t = c.loop-candidate.state in
    let t0 = c.args.ticks.now in
    let t1 = c.loop-candidate.ticks in
    let ps = c.requires.candidates.0 in
    let may = c.requires.candidates.1 in
    let h = c.loop-candidate.invariant ps may in
    let len : vec_len c.loop-candidate.views ≡ length vs = search rules in
    let within = view_within o ps c.args.number s old candidates k vs done t t0 t1 h may xs same there in
    omega (arith, len, within)

pub loop-candidate-preserved : goal.loop-candidate-preserved
loop-candidate-preserved g c = λ ps may.
    let o = g.S.Spec.object in
    let s = c.args.state.now in
    let old = c.args.views.now.items in
    let candidates = c.args.candidates.now in
    let xs = c.deref-candidate-items.result.now in
    let k = c.loop-candidate.candidate-index in
    let same = c.deref-candidate-items.ensures.value in
    let there = c.loop-candidate-test.true in
    let vs = c.loop-candidate.views.items in
    let done = c.loop-candidate.done.items in
    let t = c.loop-candidate.state in
    let t0 = c.args.ticks.now in
    let t1 = c.loop-candidate.ticks in
    let h = c.loop-candidate.invariant ps may in
    let at = get_or xs k nobody in
    let less = c.take_back_to.new.done.items in
    let len : c.len.result ≡ length done = search rules in
    let test = c.if-len-candidate.false in
    let enough : at.shared ≤ length done = omega (arith, len, test) in
    let others = take (at.to - at.from) (drop at.from c.deref.result.now) in
    let are = ap (λ (w : List _). take (at.to - at.from) (drop at.from w)) c.deref.ensures.value in
    let first = c.in_ok-take_back_to.ensures.first in
    let more = c.apply_all.new.done.items in
    let u = c.apply_all.new.state in
    let all = c.in_ok-all_done.ensures.all in
    let furthest = c.in_ok-all_done.ensures.furthest s (may_try o ps c.args.number s old candidates k vs done t t0 t1 h may xs same there less others enough first are)
    (c.in_ok-take_back_to.ensures.stands s (may_stand o ps c.args.number s old candidates k vs done t t0 t1 h) h.furthest.stands) in
    let back = c.in_ok-take_back_to.ensures.rises in
    let cost = c.in_ok-take_back_to.ensures.cost in
    let rises = c.in_ok-all_done.ensures.rises in
    let bound = c.in_ok-all_done.ensures.bound in
    let within = view_within o ps c.args.number s old candidates k vs done t t0 t1 h may xs same there in
    elim c.if-all_done.branch [
      | then-all_done+then-is_none w ↦
          let v = w.index_mut.result.now in
          let stands : StandsAt vs at.position v = (within, w.index_mut.ensures.value) in
          let none = not_some w.index.result.now.after w.if-is_none.ensures in
          let none_too : v.after ≡ None = ap (λ (x : View). x.after) (stand_same vs at.position v w.index.result.now stands (within, w.index.ensures)) ∙ none in
          round_after_find o ps c.args.number s old candidates k vs done t t0 t1 h may xs same there less others enough first are more u c.take_back_to.new.ticks c.apply_all.new.ticks furthest back cost rises bound v stands
          _ c.if-all_done.views.items (ap (λ x. x.items) w.views-is) refl refl refl none_too (all.0 w.if-all_done.true)
      | else-all_done w ↦
          subst (λ x. InRound o ps c.args.number s old candidates (k + 1) x.items more u t0 c.apply_all.new.ticks) (sym w.views-is) (elim w.else-all_done.branch [
            | else-all_done-via-then-all_done+else-is_none q ↦
                round_after_number o ps c.args.number s old candidates k vs done t t0 t1 h may xs same there less others enough first are more u c.take_back_to.new.ticks c.apply_all.new.ticks furthest back cost rises bound
                q.index.result.now (within, q.index.ensures) (some_is_not_none q.index.result.now.after q.if-is_none.ensures)
            | else-all_done-via-else-all_done q ↦
                let v = some_stands vs at.position within in
                round_after_failure o ps c.args.number s old candidates k vs done t t0 t1 h may xs same there less others enough first are more u c.take_back_to.new.ticks c.apply_all.new.ticks furthest back cost rises bound
                v.0 v.1 (λ e. let never = sym q.if-all_done.false ∙ all.1 e in cc)
          ])
    ]

pub take_back_to-requires-2 : goal.take_back_to-requires-2
take_back_to-requires-2 g c =
    let o = g.S.Spec.object in
    let s = c.args.state.now in
    let old = c.args.views.now.items in
    let candidates = c.args.candidates.now in
    let k = c.loop-candidate.candidate-index in
    let vs = c.loop-candidate.views.items in
    let done = c.loop-candidate.done.items in
    let t = c.loop-candidate.state in
    let t0 = c.args.ticks.now in
    let t1 = c.loop-candidate.ticks in
    let ps = c.requires.candidates.0 in
    let may = c.requires.candidates.1 in
    let h = c.loop-candidate.invariant ps may in
    (s, may_stand o ps c.args.number s old candidates k vs done t t0 t1 h, h.furthest.stands)

pub returns-clause-tried : goal.returns-clause-tried
returns-clause-tried g c = λ ps shape committed may at below.
    let o = g.S.Spec.object in
    let s = c.args.state.now in
    let old = c.args.views.now.items in
    let candidates = c.args.candidates.now in
    let k = c.loop-candidate.candidate-index in
    let vs = c.loop-candidate.views.items in
    let done = c.loop-candidate.done.items in
    let t = c.loop-candidate.state in
    let t0 = c.args.ticks.now in
    let t1 = c.loop-candidate.ticks in
    let h = c.loop-candidate.invariant ps may in
    let end : length candidates.list.items ≤ k = let long = ap (λ (w : List _). length w) c.deref-candidate-items.ensures.value in omega (arith, long, c.loop-candidate-test.false) in
    views_after_round o ps c.args.number s old candidates k vs done t t0 t1 h end may shape committed at below

pub returns-clause-same : goal.returns-clause-same
returns-clause-same g c =
    let o = g.S.Spec.object in
    let s = c.args.state.now in
    let old = c.args.views.now.items in
    let candidates = c.args.candidates.now in
    let k = c.loop-candidate.candidate-index in
    let vs = c.loop-candidate.views.items in
    let done = c.loop-candidate.done.items in
    let t = c.loop-candidate.state in
    let t0 = c.args.ticks.now in
    let t1 = c.loop-candidate.ticks in
    let ps = c.requires.candidates.0 in
    let may = c.requires.candidates.1 in
    let h = c.loop-candidate.invariant ps may in
    back_again o s c.take_back_to-2.new.state c.take_back_to-2.new.done.items c.in_ok-take_back_to-2.ensures.first
    (c.in_ok-take_back_to-2.ensures.stands s (may_stand o ps c.args.number s old candidates k vs done t t0 t1 h) h.furthest.stands)
