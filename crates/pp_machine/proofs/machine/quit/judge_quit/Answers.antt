use Rattle.std.proofs.Common.{refl}
use Rattle.pp_machine.specs.Sites.{seen_with}
use Rattle.pp_machine.proofs.Judging.{quit_2, quit_0}
use Rattle.pp_machine.proofs.Opened.{logged}
use Rattle.pp_machine.proofs.Testing.{head_shown, none_there}
use Rattle.pp_machine.proofs.machine.quit.judge_quit.Goals as goal

pub returns-in-Some : goal.returns-in-Some
returns-in-Some g c = λ m shared t h.
    let r = logged g.S.Spec.object m.shape m.txs m.ids shared m.done m.count h.holds t c.args.local.now h.is_open in
    let k = head_shown c.args.local.now.1 c.entries.result.now c.in-Some.first.now c.entries.ensures c.in-Some.ensures.value in
    quit_2 g.S.Spec.object (seen_with m shared) (seen_with m shared) refl t _ r.is k.0 _ k.1 c.told.result c.told.ensures

pub returns : goal.returns
returns g c = λ m shared t h.
    let r = logged g.S.Spec.object m.shape m.txs m.ids shared m.done m.count h.holds t c.args.local.now h.is_open in
    (quit_0 g.S.Spec.object (seen_with m shared) (seen_with m shared) refl t _ r.is (none_there c.args.local.now.1 c.entries.result.now c.entries.ensures c.in_default.ensures.value), tt)
