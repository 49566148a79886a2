use Rattle.std.proofs.Common.{refl, subst}
use Rattle.pp_model.specs.Config.{last}
use Rattle.pp_model.specs.Rules.{IsLast}
use Rattle.pp_machine.specs.Finding.{IsLastUnpushed}
use Rattle.pp_machine.specs.Sites.{seen_with}
use Rattle.pp_machine.proofs.Judged.{ends_with, is_last_at}
use Rattle.pp_machine.proofs.Judging.{unapp_2, unapp_0}
use Rattle.pp_machine.proofs.Opened.{logged}
use Rattle.pp_machine.proofs.machine.unapp.judge_unapp.Goals as goal

pub returns-in_default : goal.returns-in_default
returns-in_default g c = λ m shared t h.
    let r = logged g.S.Spec.object m.shape m.txs m.ids shared m.done m.count h.holds t c.args.local.now h.is_open in
    unapp_2 g.S.Spec.object (seen_with m shared) (seen_with m shared) refl t c.args.id _ r.is (subst (λ l. IsLast c.args.id (last l) → ⊥) c.entries.ensures c.in_default.ensures) c.bare.result c.bare.ensures

pub returns : goal.returns
returns g c = λ m shared t h.
    let r = logged g.S.Spec.object m.shape m.txs m.ids shared m.done m.count h.holds t c.args.local.now h.is_open in
    let q = subst (λ l. IsLastUnpushed c.args.id l c.in-Some.i) c.entries.ensures c.in-Some.ensures in
    (unapp_0 g.S.Spec.object (seen_with m shared) (seen_with m shared) refl t c.args.id _ r.is (ends_with c.args.id c.in-Some.i c.args.local.now.1 q), is_last_at g.S.Spec.object m.shape m.txs m.ids shared m.done m.count h.holds (seen_with m shared) refl t c.args.id c.in-Some.i c.args.local.now r q)
