use Rattle.std.proofs.Common.{◌≡◌, ◌+◌, ◌-◌, ◌∷◌, ◌++◌, [], List, drop, get_or, length, take}
use Rattle.std.proofs.Common.{refl, sym, ap, subst, ◌∙◌, arith, rules}
use Rattle.std.proofs.Math.Nat.{min-le_left, min-le_right}
use Rattle.std.proofs.lemmas.List.{append_assoc}
use Rattle.pp_model.specs.Object.{Item, ops}
use Rattle.pp_attempts.specs.Peaks.{Peak}
use Rattle.pp_attempts.specs.Trying.{AreAlike, AreAlikeTo, Candidate, HaveRests, Share, StandsAt}
use Rattle.pp_attempts.proofs.Leaving.{IsLeft, cut_at, leaves, others_within, peak_within, remains, rest_there, not_some}
use Rattle.pp_attempts.proofs.Leaving.{some_is_not_none}
use Rattle.pp_attempts.specs.Views.{View}
use Rattle.pp_attempts.proofs.LiningUp.{alike_more, nobody, rests_joined, rests_more, some_stands}
use Rattle.pp_attempts.proofs.Trails.{share_less}
use Rattle.pp_attempts.proofs.candidates.without_numbered.Goals.{then-is_none+in_ok-add_ops+in_ok-extend_from_slice+in_ok-push, else-is_none}
use Rattle.pp_attempts.proofs.candidates.without_numbered.Goals as goal

pub offset_bounds-views-candidate : goal.offset_bounds-views-candidate
offset_bounds-views-candidate g c =
    let within = peak_within c.args.peaks.now c.args.views.now c.args.candidates.now c.deref-candidate-items.result.now c.loop-candidate.candidate-index c.deref-candidate-items.ensures.value
    c.loop-candidate-test.true c.requires.candidates in
    let long = c.requires.long in
    omega (arith, within, long)

pub bounds-views-candidate : goal.bounds-views-candidate
bounds-views-candidate g c =
    let within = peak_within c.args.peaks.now c.args.views.now c.args.candidates.now c.deref-candidate-items.result.now c.loop-candidate.candidate-index c.deref-candidate-items.ensures.value
    c.loop-candidate-test.true c.requires.candidates in
    let long = c.requires.long in
    omega (arith, within, long)

pub offset_bounds-peaks-candidate : goal.offset_bounds-peaks-candidate
offset_bounds-peaks-candidate g c =
    let within = peak_within c.args.peaks.now c.args.views.now c.args.candidates.now c.deref-candidate-items.result.now c.loop-candidate.candidate-index c.deref-candidate-items.ensures.value
    c.loop-candidate-test.true c.requires.candidates in
    omega (arith, within)

pub bounds-peaks-candidate : goal.bounds-peaks-candidate
bounds-peaks-candidate g c =
    peak_within c.args.peaks.now c.args.views.now c.args.candidates.now c.deref-candidate-items.result.now c.loop-candidate.candidate-index c.deref-candidate-items.ensures.value
    c.loop-candidate-test.true c.requires.candidates

pub offset_bounds-items-alike : goal.offset_bounds-items-alike
offset_bounds-items-alike g c =
    let ps = c.args.peaks.now in
    let xs = c.deref-candidate-items.result.now in
    let k = c.loop-candidate.candidate-index in
    let at = get_or xs k nobody in
    let p = c.index-peaks-candidate.result in
    let within = peak_within ps c.args.views.now c.args.candidates.now xs k c.deref-candidate-items.ensures.value c.loop-candidate-test.true c.requires.candidates in
    let rest = rest_there ps c.args.views.now c.args.candidates.now xs k c.deref-candidate-items.ensures.value c.loop-candidate-test.true c.requires.candidates p (within, c.index-peaks-candidate.is) in
    let long = ap (λ (w : List (Item _)). length w) (c.as_slice-items.ensures ∙ ap (λ x. x.ops) (sym c.index-peaks-candidate.is)) in
    let shared = rest.shared in
    let less = c.min-alike.ensures in
    let lower = min-le_right c.loop-candidate.alike at.shared in
    omega (arith, long, shared, less, lower)

pub slice_bounds-add_ops-end : goal.slice_bounds-add_ops-end
slice_bounds-add_ops-end g c =
    let ps = c.args.peaks.now in
    let xs = c.deref-candidate-items.result.now in
    let k = c.loop-candidate.candidate-index in
    let at = get_or xs k nobody in
    let p = c.index-peaks-candidate.result in
    let within = peak_within ps c.args.views.now c.args.candidates.now xs k c.deref-candidate-items.ensures.value c.loop-candidate-test.true c.requires.candidates in
    let rest = rest_there ps c.args.views.now c.args.candidates.now xs k c.deref-candidate-items.ensures.value c.loop-candidate-test.true c.requires.candidates p (within, c.index-peaks-candidate.is) in
    let long = ap (λ (w : List (Item _)). length w) (c.as_slice-items.ensures ∙ ap (λ x. x.ops) (sym c.index-peaks-candidate.is)) in
    let shared = rest.shared in
    let less = c.min-alike.ensures in
    let lower = min-le_right c.loop-candidate.alike at.shared in
    omega (arith, long, shared)

pub offset_bounds-deref-candidate : goal.offset_bounds-deref-candidate
offset_bounds-deref-candidate g c =
    let r = others_within c.args.peaks.now c.args.views.now c.args.candidates.now c.deref-candidate-items.result.now c.loop-candidate.candidate-index
    c.deref-candidate-items.ensures.value c.loop-candidate-test.true c.requires.candidates in
    let long = ap (λ (w : List _). length w) c.deref.ensures.value in
    omega (arith, r.0, r.1, long)

pub slice_bounds-extend_from_slice-count : goal.slice_bounds-extend_from_slice-count
slice_bounds-extend_from_slice-count g c =
    let r = others_within c.args.peaks.now c.args.views.now c.args.candidates.now c.deref-candidate-items.result.now c.loop-candidate.candidate-index
    c.deref-candidate-items.ensures.value c.loop-candidate-test.true c.requires.candidates in
    r.0

pub slice_bounds-extend_from_slice-start : goal.slice_bounds-extend_from_slice-start
slice_bounds-extend_from_slice-start g c =
    let r = others_within c.args.peaks.now c.args.views.now c.args.candidates.now c.deref-candidate-items.result.now c.loop-candidate.candidate-index
    c.deref-candidate-items.ensures.value c.loop-candidate-test.true c.requires.candidates in
    r.0

pub slice_bounds-extend_from_slice-end : goal.slice_bounds-extend_from_slice-end
slice_bounds-extend_from_slice-end g c =
    let r = others_within c.args.peaks.now c.args.views.now c.args.candidates.now c.deref-candidate-items.result.now c.loop-candidate.candidate-index
    c.deref-candidate-items.ensures.value c.loop-candidate-test.true c.requires.candidates in
    let long = ap (λ (w : List _). length w) c.deref.ensures.value in
    omega (arith, r.1, long)

pub loop-candidate-preserved : goal.loop-candidate-preserved
loop-candidate-preserved g c =
    let ps = c.args.peaks.now in
    let vs = c.args.views.now in
    let candidates = c.args.candidates.now in
    let xs = c.deref-candidate-items.result.now in
    let k = c.loop-candidate.candidate-index in
    let at = get_or xs k nobody in
    let before = c.loop-candidate.invariant.before in
    let there = c.loop-candidate-test.true in
    let cut = cut_at ps vs candidates xs k c.deref-candidate-items.ensures.value there c.requires.candidates in
    let within = peak_within ps vs candidates xs k c.deref-candidate-items.ensures.value there c.requires.candidates in
    let behind = drop (k + 1) candidates.list.items in
    let next : AreAlike ps before (at ∷ behind) = subst (λ (w : List Candidate). AreAlike ps before w) cut c.loop-candidate.invariant.next in
    let left : IsLeft ps vs c.loop-candidate.left.list.items (at ∷ behind) = subst (λ (w : List Candidate). IsLeft ps vs c.loop-candidate.left.list.items w) cut c.loop-candidate.invariant.left in
    let less = c.min-alike.ensures in
    let lower = min-le_left c.loop-candidate.alike at.shared in
    let least = min-le_right c.loop-candidate.alike at.shared in
    let share : (p : Peak _) → StandsAt ps at.position p → Share at.shared before p.ops × AreAlike ps p.ops behind = next in
    elim c.if-is_none.branch [
      | then-is_none+in_ok-add_ops+in_ok-extend_from_slice+in_ok-push w ↦
          let p = w.index-peaks-candidate.result in
          let stands : StandsAt ps at.position p = (within, w.index-peaks-candidate.is) in
          let rest = rest_there ps vs candidates xs k c.deref-candidate-items.ensures.value there c.requires.candidates p stands in
          let as_items = w.as_slice-items.ensures ∙ ap (λ x. x.ops) (sym w.index-peaks-candidate.is) in
          let alike = c.min-alike.result in
          let m : List _ = ops (take (at.shared - alike) (drop alike w.as_slice-items.result.now)) ++ take (at.to - at.from) (drop at.from w.deref.result.now) in
          let m_is : m ≡ ops (drop alike p.ops) =
          ap (λ (l : List (Item _)). ops (take (at.shared - alike) (drop alike l)) ++ take (at.to - at.from) (drop at.from w.deref.result.now)) as_items
          ∙ ap (λ (r : List _). ops (take (at.shared - alike) (drop alike p.ops)) ++ take (at.to - at.from) (drop at.from r)) w.deref.ensures.value
          ∙ ap (λ (r : List _). ops (take (at.shared - alike) (drop alike p.ops)) ++ r) rest.rest ∙ rests_joined p.ops alike at.shared (omega (arith, less, least)) in
          let d : Candidate = record { position = at.position; shared = alike; from = w.len-from.result; to = w.len.result } in
          let pushed : w.push.new.self.items ≡ c.loop-candidate.left.list.items ++ d ∷ [] = w.in_ok-push.ensures.items in
          let cs_is : c.if-is_none.left.list.items ≡ c.loop-candidate.left.list.items ++ d ∷ [] = ap (λ x. x.list.items) w.left-is ∙ pushed in
          let ops_is : c.if-is_none.left.ops.items ≡ c.loop-candidate.left.ops.items ++ m =
          ap (λ x. x.ops.items) w.left-is ∙ w.in_ok-extend_from_slice.ensures.items
          ∙ ap (λ (l : List _). l ++ take (at.to - at.from) (drop at.from w.deref.result.now)) w.in_ok-add_ops.ensures
          ∙ append_assoc c.loop-candidate.left.ops.items (ops (take (at.shared - alike) (drop alike w.as_slice-items.result.now))) (take (at.to - at.from) (drop at.from w.deref.result.now)) in
          let from : w.len-from.result ≡ length c.loop-candidate.left.ops.items = search rules in
          let end : w.len.result ≡ length w.extend_from_slice.new.self.items = search rules in
          let both = share p stands in
          let v = c.index-views-candidate.result in
          let view : StandsAt vs at.position v = (let long = c.requires.long in omega (arith, within, long), c.index-views-candidate.is) in
          record {
            before = p.ops;
            next = both.1;
            alike = λ n ys le more. subst (λ (cs : List Candidate). AreAlikeTo ps [] cs n ys) (sym cs_is)
                (alike_more ps [] c.loop-candidate.left.list.items d p n ys stands
                (c.loop-candidate.invariant.alike alike p.ops (omega (arith, less, lower)) (share_less at.shared alike before p.ops (omega (arith, less, least)) both.0)) more);
            left = remains ps vs c.loop-candidate.left.list.items behind at left v view (ap (λ (x : View). x.after) c.index-views-candidate.is ∙ not_some _ w.if-is_none.ensures) d c.if-is_none.left.list.items refl cs_is;
            rests = rests_more ps c.loop-candidate.left.ops.items m c.if-is_none.left.ops.items c.loop-candidate.left.list.items c.if-is_none.left.list.items d p
                c.loop-candidate.invariant.rests ops_is cs_is stands (let shared = rest.shared in omega (arith, less, least, shared)) from (end ∙ ap (λ x. length x.ops.items) (sym w.left-is)) m_is;
          }
      | else-is_none w ↦
          let v = c.index-views-candidate.result in
          let stands : StandsAt vs at.position v = (let long = c.requires.long in omega (arith, within, long), c.index-views-candidate.is) in
          let p = some_stands ps at.position within in
          let both = share p.0 p.1 in
          record {
            before = (p.0).ops;
            next = both.1;
            alike = λ n ys le more. subst (λ (cs : List Candidate). AreAlikeTo ps [] cs n ys) (ap (λ x. x.list.items) (sym w.left-is))
                (c.loop-candidate.invariant.alike n ys (let is = w.alike-is in omega (arith, le, is, less, lower))
                (share_less at.shared n before (p.0).ops (let is = w.alike-is in omega (arith, le, is, less, least)) both.0 ∙ more));
            left = subst (λ (cs : List Candidate). IsLeft ps vs cs behind) (ap (λ x. x.list.items) (sym w.left-is))
                (leaves ps vs c.loop-candidate.left.list.items behind at left v stands (λ none. some_is_not_none _ w.if-is_none.ensures (ap (λ (x : View). x.after) (sym c.index-views-candidate.is) ∙ none)));
            rests = subst (λ l. HaveRests ps l.ops.items l.list.items) (sym w.left-is) c.loop-candidate.invariant.rests;
          }
    ]
