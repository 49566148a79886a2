use Rattle.std.proofs.Common.{◌∙◌, ◌++◌, ◌∷◌, [], arith, ◌<◌, take, length, slice_get, sym, ap, refl}
use Rattle.std.proofs.Common.{subst, IsTrue}
use Rattle.pp_log.specs.Logs.{answer_behind}
use Rattle.pp_model.specs.Config.{shared_ops}
use Rattle.pp_model.proofs.Lists.{before_in_first}
use Rattle.pp_model.proofs.Finding.{decided, decided_not, stands_in}
use Rattle.pp_kind.specs.Object.{IsAllowed}
use Rattle.pp_machine.specs.declared.detail.Detail.TheVariants.{Gives, Nothing}
use Rattle.pp_machine.specs.Evidence.{swap_or}
use Rattle.pp_machine.proofs.Cuts.{read_taken, read_there, slice_within}
use Rattle.pp_machine.proofs.Cuts.{taken_within}
use Rattle.pp_machine.specs.Sites.{seen_with}
use Rattle.pp_machine.proofs.Judged.{is_at}
use Rattle.pp_machine.proofs.Judging.{push_2, push_3, push_4, push_5, push_0}
use Rattle.pp_machine.proofs.Opened.{distinct, fits_local, fits_shared, logged, ranged_local}
use Rattle.pp_machine.proofs.Opened.{ranged_shared}
use Rattle.pp_machine.proofs.Swapping.{blocking_shown, own_swap, own_not, own_shown}
use Rattle.pp_machine.proofs.machine.push.judge_push.Goals as goal

pub marked_at-requires : goal.marked_at-requires
marked_at-requires g c =
    let m = c.requires.0 in
    let h = c.requires.1 in
    let r = logged g.S.Spec.object m.shape m.txs m.ids c.args.shared.now m.done m.count h.holds c.args.tx.now c.args.local.now h.is_open in
    distinct g.S.Spec.object m.shape m.txs m.ids c.args.shared.now m.done m.count h.holds c.args.tx.now c.args.local.now r

pub returns-in_default : goal.returns-in_default
returns-in_default g c = λ m h.
    let r = logged g.S.Spec.object m.shape m.txs m.ids c.args.shared.now m.done m.count h.holds c.args.tx.now c.args.local.now h.is_open in
    push_2 g.S.Spec.object (seen_with m c.args.shared.now) (seen_with m c.args.shared.now) refl c.args.tx.now c.args.id _ r.is (sym c.in_default.ensures.entry) c.bare.result c.bare.ensures

pub first_holding_back-requires : goal.first_holding_back-requires
first_holding_back-requires g c =
    let w = slice_within c.args.local.now.1 c.in-Some.i c.in-Some.entry c.in-Some.ensures.place in omega (arith, w)

pub offset_bounds-entries-k : goal.offset_bounds-entries-k
offset_bounds-entries-k g c =
    let w = taken_within _ c.entries.result.now c.args.local.now.1 c.entries.ensures c.in-Some.i c.in-Some-first_holding_back.k (sym c.in-Some-first_holding_back.ensures) in omega (arith, w)

pub bounds-entries-k : goal.bounds-entries-k
bounds-entries-k g c =
    taken_within _ c.entries.result.now c.args.local.now.1 c.entries.ensures c.in-Some.i c.in-Some-first_holding_back.k (sym c.in-Some-first_holding_back.ensures)

pub swap_detail-requires-clause-first : goal.swap_detail-requires-clause-first
swap_detail-requires-clause-first g c =
    let m = c.requires.0 in
    let h = c.requires.1 in
    let r = logged g.S.Spec.object m.shape m.txs m.ids c.args.shared.now m.done m.count h.holds c.args.tx.now c.args.local.now h.is_open in
    let p = c.in-Some.entry in
    ranged_local g.S.Spec.object m.shape m.txs m.ids c.args.shared.now m.done m.count h.holds c.args.tx.now c.args.local.now r p (stands_in c.args.local.now.1 c.in-Some.i p c.in-Some.ensures.place)

pub swap_detail-requires-clause-second : goal.swap_detail-requires-clause-second
swap_detail-requires-clause-second g c =
    let m = c.requires.0 in
    let h = c.requires.1 in
    let r = logged g.S.Spec.object m.shape m.txs m.ids c.args.shared.now m.done m.count h.holds c.args.tx.now c.args.local.now h.is_open in
    let p = c.in-Some.entry in
    let fit = fits_local g.S.Spec.object m.shape m.txs m.ids c.args.shared.now m.done m.count h.holds g.met.S.Spec.lawful c.args.tx.now c.args.local.now r in
    let q = own_not g.S.Spec.object g.met.S.Spec.lawful m.shape c.args.local.now.1 c.in-Some.i p c.in-Some.ensures.place (take c.in-Some.i c.args.local.now.1) c.in-Some-first_holding_back.k c.index-entries-k.result fit (fit p (stands_in c.args.local.now.1 c.in-Some.i p c.in-Some.ensures.place)) refl (sym c.in-Some-first_holding_back.ensures) (read_taken _ c.entries.result.now c.args.local.now.1 c.entries.ensures c.in-Some.i c.in-Some-first_holding_back.k c.index-entries-k.result (sym c.in-Some-first_holding_back.ensures) c.index-entries-k.is) in
    ranged_local g.S.Spec.object m.shape m.txs m.ids c.args.shared.now m.done m.count h.holds c.args.tx.now c.args.local.now r c.index-entries-k.result (before_in_first c.index-entries-k.result p c.args.local.now.1 q.0)

pub returns-in-Some-first_holding_back : goal.returns-in-Some-first_holding_back
returns-in-Some-first_holding_back g c = λ m h.
    let r = logged g.S.Spec.object m.shape m.txs m.ids c.args.shared.now m.done m.count h.holds c.args.tx.now c.args.local.now h.is_open in
    let p = c.in-Some.entry in
    let fit = fits_local g.S.Spec.object m.shape m.txs m.ids c.args.shared.now m.done m.count h.holds g.met.S.Spec.lawful c.args.tx.now c.args.local.now r in
    let q = own_not g.S.Spec.object g.met.S.Spec.lawful m.shape c.args.local.now.1 c.in-Some.i p c.in-Some.ensures.place (take c.in-Some.i c.args.local.now.1) c.in-Some-first_holding_back.k c.index-entries-k.result fit (fit p (stands_in c.args.local.now.1 c.in-Some.i p c.in-Some.ensures.place)) refl (sym c.in-Some-first_holding_back.ensures) (read_taken _ c.entries.result.now c.args.local.now.1 c.entries.ensures c.in-Some.i c.in-Some-first_holding_back.k c.index-entries-k.result (sym c.in-Some-first_holding_back.ensures) c.index-entries-k.is) in
    push_3 g.S.Spec.object (seen_with m c.args.shared.now) (seen_with m c.args.shared.now) refl c.args.tx.now c.args.id _ p c.index-entries-k.result r.is (sym c.in-Some.ensures.entry) q.0 q.1 q.2 c.in_ok-detail.detail
    (c.in_ok-detail.ensures ∙ own_shown g.S.Spec.object g.met.S.Spec.lawful m.shape c.args.local.now.1 c.in-Some.i p c.in-Some.ensures.place (take c.in-Some.i c.args.local.now.1) c.in-Some-first_holding_back.k c.index-entries-k.result c.args.id refl (sym c.in-Some-first_holding_back.ensures) (read_taken _ c.entries.result.now c.args.local.now.1 c.entries.ensures c.in-Some.i c.in-Some-first_holding_back.k c.index-entries-k.result (sym c.in-Some-first_holding_back.ensures) c.index-entries-k.is) c.in-Some.ensures.found)
    c.told.result c.told.ensures

pub offset_bounds-entries-k-in-Some-blocking : goal.offset_bounds-entries-k-in-Some-blocking
offset_bounds-entries-k-in-Some-blocking g c =
    let b = c.in-Some-blocking.ensures.some in
    let w = slice_within c.args.shared.now.1 c.in-Some-blocking.k b.entry b.is in
    let m : c.in-Some-blocking.k < length c.entries-in-Some-blocking.result.now = subst (λ l. c.in-Some-blocking.k < length l) (sym c.entries-in-Some-blocking.ensures) w in omega (arith, m)

pub bounds-entries-k-in-Some-blocking : goal.bounds-entries-k-in-Some-blocking
bounds-entries-k-in-Some-blocking g c =
    let b = c.in-Some-blocking.ensures.some in
    let w = slice_within c.args.shared.now.1 c.in-Some-blocking.k b.entry b.is in
    subst (λ l. c.in-Some-blocking.k < length l) (sym c.entries-in-Some-blocking.ensures) w

pub swap_detail-requires-in-Some-blocking-clause-first : goal.swap_detail-requires-in-Some-blocking-clause-first
swap_detail-requires-in-Some-blocking-clause-first g c =
    let m = c.requires.0 in
    let h = c.requires.1 in
    let b = c.in-Some-blocking.ensures.some in
    let u = read_there c.entries-in-Some-blocking.result.now c.in-Some-blocking.k c.index-entries-k-in-Some-blocking.result b.entry (ap (λ l. slice_get l c.in-Some-blocking.k) c.entries-in-Some-blocking.ensures ∙ b.is) c.index-entries-k-in-Some-blocking.is in
    let inside = stands_in c.args.shared.now.1 c.in-Some-blocking.k b.entry b.is in
    subst (λ z. IsTrue (g.S.Spec.object.ranged z.op)) u (ranged_shared g.S.Spec.object m.shape m.txs m.ids c.args.shared.now m.done m.count h.holds b.entry inside)

pub swap_detail-requires-in-Some-blocking-clause-second : goal.swap_detail-requires-in-Some-blocking-clause-second
swap_detail-requires-in-Some-blocking-clause-second g c =
    let m = c.requires.0 in
    let h = c.requires.1 in
    let r = logged g.S.Spec.object m.shape m.txs m.ids c.args.shared.now m.done m.count h.holds c.args.tx.now c.args.local.now h.is_open in
    let p = c.in-Some.entry in
    ranged_local g.S.Spec.object m.shape m.txs m.ids c.args.shared.now m.done m.count h.holds c.args.tx.now c.args.local.now r p (stands_in c.args.local.now.1 c.in-Some.i p c.in-Some.ensures.place)

pub returns-in-Some-blocking : goal.returns-in-Some-blocking
returns-in-Some-blocking g c = λ m h.
    let r = logged g.S.Spec.object m.shape m.txs m.ids c.args.shared.now m.done m.count h.holds c.args.tx.now c.args.local.now h.is_open in
    let p = c.in-Some.entry in
    let b = c.in-Some-blocking.ensures.some in
    let u = read_there c.entries-in-Some-blocking.result.now c.in-Some-blocking.k c.index-entries-k-in-Some-blocking.result b.entry (ap (λ l. slice_get l c.in-Some-blocking.k) c.entries-in-Some-blocking.ensures ∙ b.is) c.index-entries-k-in-Some-blocking.is in
    let inside = stands_in c.args.shared.now.1 c.in-Some-blocking.k b.entry b.is in
    push_4 g.S.Spec.object (seen_with m c.args.shared.now) (seen_with m c.args.shared.now) refl c.args.tx.now c.args.id _ p b.entry r.is (sym c.in-Some.ensures.entry) (own_swap g.S.Spec.object g.met.S.Spec.lawful m.shape c.args.local.now.1 c.in-Some.i p c.in-Some.ensures.place (take c.in-Some.i c.args.local.now.1) (distinct g.S.Spec.object m.shape m.txs m.ids c.args.shared.now m.done m.count h.holds c.args.tx.now c.args.local.now r) refl (sym c.in_default-first_holding_back.ensures)) inside b.blocks.uncommitted b.blocks.other
    (b.blocks.stays m.shape (fits_shared g.S.Spec.object m.shape m.txs m.ids c.args.shared.now m.done m.count h.holds g.met.S.Spec.lawful b.entry inside) (fits_local g.S.Spec.object m.shape m.txs m.ids c.args.shared.now m.done m.count h.holds g.met.S.Spec.lawful c.args.tx.now c.args.local.now r p (stands_in c.args.local.now.1 c.in-Some.i p c.in-Some.ensures.place)))
    c.in_ok-detail-2.detail
    (c.in_ok-detail-2.ensures ∙ ap (λ z. swap_or z.id (g.S.Spec.object.refuting z.op p.op) Nothing) (sym u) ∙ blocking_shown g.S.Spec.object g.met.S.Spec.lawful m.shape c.args.tx.now p.op c.args.shared.now.1 c.in-Some-blocking.k b)
    c.told-in-Some-blocking.result c.told-in-Some-blocking.ensures

pub legal-requires : goal.legal-requires
legal-requires g c =
    let m = c.requires.0 in
    let h = c.requires.1 in
    let r = logged g.S.Spec.object m.shape m.txs m.ids c.args.shared.now m.done m.count h.holds c.args.tx.now c.args.local.now h.is_open in
    let p = c.in-Some.entry in
    subst (λ sh. IsTrue (g.S.Spec.object.fits sh p.op)) (sym h.holds.shared_shape) (fits_local g.S.Spec.object m.shape m.txs m.ids c.args.shared.now m.done m.count h.holds g.met.S.Spec.lawful c.args.tx.now c.args.local.now r p (stands_in c.args.local.now.1 c.in-Some.i p c.in-Some.ensures.place))

pub gives-answer-requires : goal.gives-answer-requires
gives-answer-requires g c =
    let m = c.requires.0 in
    let h = c.requires.1 in
    let r = logged g.S.Spec.object m.shape m.txs m.ids c.args.shared.now m.done m.count h.holds c.args.tx.now c.args.local.now h.is_open in
    let p = c.in-Some.entry in
    subst (λ sh. IsTrue (g.S.Spec.object.fits sh p.op)) (sym h.holds.shared_shape) (fits_local g.S.Spec.object m.shape m.txs m.ids c.args.shared.now m.done m.count h.holds g.met.S.Spec.lawful c.args.tx.now c.args.local.now r p (stands_in c.args.local.now.1 c.in-Some.i p c.in-Some.ensures.place))

pub returns-then-not-legal : goal.returns-then-not-legal
returns-then-not-legal g c = λ m h.
    let r = logged g.S.Spec.object m.shape m.txs m.ids c.args.shared.now m.done m.count h.holds c.args.tx.now c.args.local.now h.is_open in
    let p = c.in-Some.entry in
    push_5 g.S.Spec.object (seen_with m c.args.shared.now) (seen_with m c.args.shared.now) refl c.args.tx.now c.args.id _ p r.is (sym c.in-Some.ensures.entry) (own_swap g.S.Spec.object g.met.S.Spec.lawful m.shape c.args.local.now.1 c.in-Some.i p c.in-Some.ensures.place (take c.in-Some.i c.args.local.now.1) (distinct g.S.Spec.object m.shape m.txs m.ids c.args.shared.now m.done m.count h.holds c.args.tx.now c.args.local.now r) refl (sym c.in_default-first_holding_back.ensures)) (λ u i w n. c.in_default-blocking.ensures.none u i w n m.shape)
    (λ k. decided_not c.legal.result _ c.legal.ensures c.if-not-legal.true (subst (λ sh. IsAllowed g.S.Spec.object sh (shared_ops c.args.shared.now.1 ++ p.op ∷ [])) (sym h.holds.shared_shape) k))
    (Gives c.args.id c.gives-answer.result)
    (ap (Gives c.args.id) (c.gives-answer.ensures ∙ ap (λ sh. answer_behind g.S.Spec.object sh (shared_ops c.args.shared.now.1) p.op) h.holds.shared_shape))
    c.told-then-not-legal.result c.told-then-not-legal.ensures

pub returns : goal.returns
returns g c = λ m h.
    let r = logged g.S.Spec.object m.shape m.txs m.ids c.args.shared.now m.done m.count h.holds c.args.tx.now c.args.local.now h.is_open in
    let p = c.in-Some.entry in (
      push_0 g.S.Spec.object (seen_with m c.args.shared.now) (seen_with m c.args.shared.now) refl c.args.tx.now c.args.id _ p r.is (sym c.in-Some.ensures.entry) (own_swap g.S.Spec.object g.met.S.Spec.lawful m.shape c.args.local.now.1 c.in-Some.i p c.in-Some.ensures.place (take c.in-Some.i c.args.local.now.1) (distinct g.S.Spec.object m.shape m.txs m.ids c.args.shared.now m.done m.count h.holds c.args.tx.now c.args.local.now r) refl (sym c.in_default-first_holding_back.ensures)) (λ u i w n. c.in_default-blocking.ensures.none u i w n m.shape)
          (subst (λ sh. IsAllowed g.S.Spec.object sh (shared_ops c.args.shared.now.1 ++ p.op ∷ [])) h.holds.shared_shape (decided c.legal.result _ c.legal.ensures c.if-not-legal.false)),
      is_at g.S.Spec.object m.shape m.txs m.ids c.args.shared.now m.done m.count h.holds (seen_with m c.args.shared.now) refl c.args.tx.now c.args.id _ c.in-Some.i p c.args.local.now r (sym c.in-Some.ensures.entry) c.in-Some.ensures.place,
    )
