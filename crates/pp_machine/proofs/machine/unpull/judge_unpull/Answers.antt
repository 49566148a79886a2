use Rattle.std.proofs.Common.{refl, sym}
use Rattle.pp_machine.specs.Sites.{seen_with}
use Rattle.pp_machine.proofs.Judged.{is_at}
use Rattle.pp_machine.proofs.Judging.{unpull_2}
use Rattle.pp_machine.proofs.Opened.{logged}
use Rattle.pp_machine.proofs.machine.unpull.judge_unpull.Goals as goal

pub returns-in_default : goal.returns-in_default
returns-in_default g c = λ m shared t h.
    let r = logged g.S.Spec.object m.shape m.txs m.ids shared m.done m.count h.holds t c.args.local.now h.is_open in
    unpull_2 g.S.Spec.object (seen_with m shared) (seen_with m shared) refl t c.args.id _ r.is (sym c.in_default.ensures.entry) c.bare.result c.bare.ensures

pub returns : goal.returns
returns g c = λ m shared t h.
    let r = logged g.S.Spec.object m.shape m.txs m.ids shared m.done m.count h.holds t c.args.local.now h.is_open in
    (c.in-Some._pulled, is_at g.S.Spec.object m.shape m.txs m.ids shared m.done m.count h.holds (seen_with m shared) refl t c.args.id _ c.in-Some.i c.in-Some._pulled c.args.local.now r (sym c.in-Some.ensures.entry) c.in-Some.ensures.place)
