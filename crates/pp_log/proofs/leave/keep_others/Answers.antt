use Rattle.std.proofs.Common.{◌≡◌, ◌<◌, ◌≤◌, ◌+◌, length, get_or, sym, ◌∙◌, ap, subst, arith}
use Rattle.std.specs.List.{slice_set}
use Rattle.std.proofs.lemmas.List.{get_or_default}
use Rattle.pp_log.proofs.Others.{IsKeeping, keeping_first, keeping_keep, keeping_last, keeping_skip, kept_before, now_size}
use Rattle.pp_log.proofs.leave.keep_others.Goals as goal
use Rattle.pp_log.proofs.leave.keep_others.Goals.{then-is_next, else-is_next}

pub loop-at-init : goal.loop-at-init
loop-at-init g c = λ st. keeping_first g.T.Side.item_of c.args.own.now c.args.entries.now.items c.args.from st

pub offset_bounds-as_slice-at : goal.offset_bounds-as_slice-at
offset_bounds-as_slice-at g c =
    let h = c.loop-at.invariant c.requires in
    let size = now_size _ _ _ _ _ _ _ _ _ h in
    let before = kept_before _ _ _ _ _ _ _ _ _ h in
    let test = c.loop-at-test.true in
    let all = c.len-at-end.ensures in
    let lent = ap length c.as_slice.ensures in
    omega arith

pub bounds-as_slice-at : goal.bounds-as_slice-at
bounds-as_slice-at g c =
    let h = c.loop-at.invariant c.requires in
    let size = now_size _ _ _ _ _ _ _ _ _ h in
    let before = kept_before _ _ _ _ _ _ _ _ _ h in
    let test = c.loop-at-test.true in
    let all = c.len-at-end.ensures in
    let lent = ap length c.as_slice.ensures in
    omega arith

pub offset_bounds-as_slice-at-else-is_next : goal.offset_bounds-as_slice-at-else-is_next
offset_bounds-as_slice-at-else-is_next g c =
    let h = c.loop-at.invariant c.requires in
    let size = now_size _ _ _ _ _ _ _ _ _ h in
    let before = kept_before _ _ _ _ _ _ _ _ _ h in
    let test = c.loop-at-test.true in
    let all = c.len-at-end.ensures in
    let lent = ap length c.as_slice-else-is_next.ensures in
    omega arith

pub bounds-as_slice-at-else-is_next : goal.bounds-as_slice-at-else-is_next
bounds-as_slice-at-else-is_next g c =
    let h = c.loop-at.invariant c.requires in
    let size = now_size _ _ _ _ _ _ _ _ _ h in
    let before = kept_before _ _ _ _ _ _ _ _ _ h in
    let test = c.loop-at-test.true in
    let all = c.len-at-end.ensures in
    let lent = ap length c.as_slice-else-is_next.ensures in
    omega arith

pub set-requires : goal.set-requires
set-requires g c =
    let h = c.loop-at.invariant c.requires in
    let size = now_size _ _ _ _ _ _ _ _ _ h in
    let before = kept_before _ _ _ _ _ _ _ _ _ h in
    let test = c.loop-at-test.true in
    let all = c.len-at-end.ensures in
    omega arith

pub overflow_add-kept : goal.overflow_add-kept
overflow_add-kept g c =
    let h = c.loop-at.invariant c.requires in
    let size = now_size _ _ _ _ _ _ _ _ _ h in
    let before = kept_before _ _ _ _ _ _ _ _ _ h in
    let test = c.loop-at-test.true in
    let all = c.len-at-end.ensures in
    omega arith

pub loop-at-preserved : goal.loop-at-preserved
loop-at-preserved g c = λ st.
    let f = g.T.Side.item_of in
    let own = c.args.own.now in
    let x = c.args.entries.now.items in
    let from = c.args.from in
    let kept = c.loop-at.kept in
    let at = c.loop-at.at in
    let next = c.loop-at.next in
    let now = c.loop-at.entries.items in
    let h = c.loop-at.invariant st in
    let size = now_size f own x from st at kept next now h in
    let before = kept_before f own x from st at kept next now h in
    let test = c.loop-at-test.true in
    let all = c.len-at-end.ensures in
    let e = c.index-as_slice-at.result in
    let lt : at < length x = omega arith in
    let is : e ≡ get_or now at e = c.index-as_slice-at.is ∙ ap (λ z. get_or z at e) c.as_slice.ensures in
    elim c.if-is_next.branch [
      | then-is_next w ↦
          let skip = keeping_skip f own x from st at kept next now h e lt is (c.is_next.ensures.yes w.if-is_next.true) in
          subst (λ n. IsKeeping f own x from st (at + 1) c.if-is_next.kept n c.if-is_next.entries.items) (sym w.next-is)
          (subst (λ n. IsKeeping f own x from st (at + 1) n (next + 1) c.if-is_next.entries.items) (sym w.kept-is)
          (subst (λ v. IsKeeping f own x from st (at + 1) kept (next + 1) v.items) (sym w.entries-is) skip))
      | else-is_next w ↦
          let keep = keeping_keep f own x from st at kept next now h e lt is (c.is_next.ensures.no w.if-is_next.false) in
          let it = w.index-as_slice-at-else-is_next.result in
          let same : it ≡ get_or now at it = w.index-as_slice-at-else-is_next.is ∙ ap (λ z. get_or z at it) w.as_slice-else-is_next.ensures in
          let again : it ≡ e = same ∙ get_or_default now at it e (omega arith) ∙ sym is in
          let written : c.if-is_next.entries.items ≡ slice_set now kept e = ap (λ v. v.items) w.entries-is ∙ w.set.ensures.items ∙ ap (slice_set now kept) again in
          subst (λ n. IsKeeping f own x from st (at + 1) c.if-is_next.kept n c.if-is_next.entries.items) (sym w.next-is)
          (subst (λ n. IsKeeping f own x from st (at + 1) n next c.if-is_next.entries.items) (sym w.kept-is)
          (subst (λ v. IsKeeping f own x from st (at + 1) (kept + 1) next v) (sym written) keep))
    ]

pub truncate-requires : goal.truncate-requires
truncate-requires g c =
    let h = c.loop-at.invariant c.requires in
    let size = now_size _ _ _ _ _ _ _ _ _ h in
    let before = kept_before _ _ _ _ _ _ _ _ _ h in
    let bound = h.within in
    omega arith

pub returns : goal.returns
returns g c =
    let f = g.T.Side.item_of in
    let own = c.args.own.now in
    let x = c.args.entries.now.items in
    let from = c.args.from in
    let st = c.requires in
    let kept = c.loop-at.kept in
    let at = c.loop-at.at in
    let next = c.loop-at.next in
    let now = c.loop-at.entries.items in
    let all : length x ≤ at = (let test = c.loop-at-test.false in let size = c.len-at-end.ensures in omega arith) in
    c.truncate.ensures.items ∙ keeping_last f own x from st at kept next now (c.loop-at.invariant st) all
