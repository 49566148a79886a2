use Rattle.std.proofs.Common.{◌∙◌, ◌+◌, refl, sym}
use Rattle.pp_model.proofs.Lists.{before_in_second}
use Rattle.pp_model.proofs.Finding.{stands_in}
use Rattle.pp_log_local.specs.Movers.{stays_behind}
use Rattle.pp_log_local.proofs.Places.{not_found_from}
use Rattle.pp_machine.proofs.Cuts.{behind_within, drop_next, read_behind}
use Rattle.pp_machine.specs.Sites.{seen_with}
use Rattle.pp_machine.proofs.Judged.{finds_pushed, stands_posted}
use Rattle.pp_machine.proofs.Judging.{unpush_2, unpush_3}
use Rattle.pp_machine.proofs.Opened.{distinct, fits_local, logged, ranged_local}
use Rattle.pp_machine.proofs.Swapping.{behind_not, behind_shown, behind_swap}
use Rattle.pp_machine.proofs.machine.unpush.judge_unpush.Goals as goal

pub marked_at-requires : goal.marked_at-requires
marked_at-requires g c =
    let m = c.requires.0 in
    let h = c.requires.1 in
    let r = logged g.S.Spec.object m.shape m.txs m.ids c.args.shared.now m.done m.count h.holds c.args.tx.now c.args.local.now h.is_open in
    distinct g.S.Spec.object m.shape m.txs m.ids c.args.shared.now m.done m.count h.holds c.args.tx.now c.args.local.now r

pub returns-in_default : goal.returns-in_default
returns-in_default g c = λ m h.
    let r = logged g.S.Spec.object m.shape m.txs m.ids c.args.shared.now m.done m.count h.holds c.args.tx.now c.args.local.now h.is_open in
    unpush_2 g.S.Spec.object (seen_with m c.args.shared.now) (seen_with m c.args.shared.now) refl c.args.tx.now c.args.id _ r.is (sym c.in_default.ensures.entry) c.bare.result c.bare.ensures

pub bounds-entries-k : goal.bounds-entries-k
bounds-entries-k g c =
    behind_within _ c.entries.result.now c.args.local.now.1 c.entries.ensures (c.in-Some.i + 1) c.in-Some-first_staying_behind.k c.in-Some-first_staying_behind.ensures

pub swap_detail-requires-clause-first : goal.swap_detail-requires-clause-first
swap_detail-requires-clause-first g c =
    let m = c.requires.0 in
    let h = c.requires.1 in
    let r = logged g.S.Spec.object m.shape m.txs m.ids c.args.shared.now m.done m.count h.holds c.args.tx.now c.args.local.now h.is_open in
    let p = c.in-Some.entry in
    let fit = fits_local g.S.Spec.object m.shape m.txs m.ids c.args.shared.now m.done m.count h.holds g.met.S.Spec.lawful c.args.tx.now c.args.local.now r in
    let b = read_behind _ c.entries.result.now c.args.local.now.1 c.entries.ensures (c.in-Some.i + 1) c.in-Some-first_staying_behind.k c.index-entries-k.result c.in-Some-first_staying_behind.ensures c.index-entries-k.is in
    let q = behind_not g.S.Spec.object g.met.S.Spec.lawful m.shape c.args.local.now.1 c.in-Some.i p c.in-Some.ensures.place _ b.0 c.index-entries-k.result fit (fit p (stands_in c.args.local.now.1 c.in-Some.i p c.in-Some.ensures.place)) (drop_next c.in-Some.i c.args.local.now.1) b.1 b.2 in
    ranged_local g.S.Spec.object m.shape m.txs m.ids c.args.shared.now m.done m.count h.holds c.args.tx.now c.args.local.now r c.index-entries-k.result (before_in_second p c.index-entries-k.result c.args.local.now.1 q.0)

pub swap_detail-requires-clause-second : goal.swap_detail-requires-clause-second
swap_detail-requires-clause-second g c =
    let m = c.requires.0 in
    let h = c.requires.1 in
    let r = logged g.S.Spec.object m.shape m.txs m.ids c.args.shared.now m.done m.count h.holds c.args.tx.now c.args.local.now h.is_open in
    let p = c.in-Some.entry in
    ranged_local g.S.Spec.object m.shape m.txs m.ids c.args.shared.now m.done m.count h.holds c.args.tx.now c.args.local.now r p (stands_in c.args.local.now.1 c.in-Some.i p c.in-Some.ensures.place)

pub returns-in-Some-first_staying_behind : goal.returns-in-Some-first_staying_behind
returns-in-Some-first_staying_behind g c = λ m h.
    let r = logged g.S.Spec.object m.shape m.txs m.ids c.args.shared.now m.done m.count h.holds c.args.tx.now c.args.local.now h.is_open in
    let p = c.in-Some.entry in
    let fit = fits_local g.S.Spec.object m.shape m.txs m.ids c.args.shared.now m.done m.count h.holds g.met.S.Spec.lawful c.args.tx.now c.args.local.now r in
    let b = read_behind _ c.entries.result.now c.args.local.now.1 c.entries.ensures (c.in-Some.i + 1) c.in-Some-first_staying_behind.k c.index-entries-k.result c.in-Some-first_staying_behind.ensures c.index-entries-k.is in
    let q = behind_not g.S.Spec.object g.met.S.Spec.lawful m.shape c.args.local.now.1 c.in-Some.i p c.in-Some.ensures.place _ b.0 c.index-entries-k.result fit (fit p (stands_in c.args.local.now.1 c.in-Some.i p c.in-Some.ensures.place)) (drop_next c.in-Some.i c.args.local.now.1) b.1 b.2 in
    unpush_3 g.S.Spec.object (seen_with m c.args.shared.now) (seen_with m c.args.shared.now) refl c.args.tx.now c.args.id _ p c.index-entries-k.result r.is (sym c.in-Some.ensures.entry) q.0 q.1 q.2
    c.in_ok-detail.detail
    (c.in_ok-detail.ensures ∙ behind_shown g.S.Spec.object g.met.S.Spec.lawful m.shape c.args.local.now.1 c.in-Some.i p c.in-Some.ensures.place _ b.0 c.index-entries-k.result c.args.id (drop_next c.in-Some.i c.args.local.now.1) b.1 b.2 c.in-Some.ensures.found)
    c.told.result c.told.ensures

pub unreachable-requires : goal.unreachable-requires
unreachable-requires g c =
    let m = c.requires.0 in
    let h = c.requires.1 in
    let r = logged g.S.Spec.object m.shape m.txs m.ids c.args.shared.now m.done m.count h.holds c.args.tx.now c.args.local.now h.is_open in
    stands_posted g.S.Spec.object m.shape m.txs m.ids c.args.shared.now m.done m.count h.holds (seen_with m c.args.shared.now) refl c.args.tx.now c.args.id c.in-Some.entry c.args.local.now r (sym c.in-Some.ensures.entry) (sym c.in_default-find.ensures)

pub returns : goal.returns
returns g c = λ m h.
    let r = logged g.S.Spec.object m.shape m.txs m.ids c.args.shared.now m.done m.count h.holds c.args.tx.now c.args.local.now h.is_open in
    finds_pushed g.S.Spec.object m.shape m.txs m.ids c.args.shared.now m.done m.count h.holds (seen_with m c.args.shared.now) refl c.args.tx.now c.args.id c.in-Some.i c.in-Some-find.posted c.in-Some.entry c.args.local.now r (sym c.in-Some.ensures.entry) c.in-Some.ensures.place
    (behind_swap g.S.Spec.object g.met.S.Spec.lawful m.shape c.args.local.now.1 c.in-Some.i c.in-Some.entry c.in-Some.ensures.place _ (distinct g.S.Spec.object m.shape m.txs m.ids c.args.shared.now m.done m.count h.holds c.args.tx.now c.args.local.now r) (drop_next c.in-Some.i c.args.local.now.1) (not_found_from (stays_behind g.S.Spec.object (c.in-Some.entry).op) c.args.local.now.1 (c.in-Some.i + 1) c.in_default-first_staying_behind.ensures)) (sym c.in-Some-find.ensures)
