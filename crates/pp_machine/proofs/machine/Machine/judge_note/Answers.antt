use Rattle.std.proofs.Common.{refl, sym, ◌∙◌}
use Rattle.pp_core.proofs.Places.{is_none_of}
use Rattle.pp_machine.proofs.Judging.{note_1, note_0}
use Rattle.pp_machine.proofs.Opened.{is_there}
use Rattle.pp_machine.proofs.machine.Machine.judge_note.Goals as goal

pub returns-then-not-is_open : goal.returns-then-not-is_open
returns-then-not-is_open g c = note_1 g.S.Spec.object c.args.self.now c.args.self.now refl c.args.tx.now (is_none_of _ (sym c.is_open.ensures ∙ c.if-not-is_open.true)) c.bare.result c.bare.ensures

pub returns : goal.returns
returns g c =
    let r = is_there _ (sym c.is_open.ensures ∙ c.if-not-is_open.false) in
    (note_0 g.S.Spec.object c.args.self.now c.args.self.now refl c.args.tx.now r.0 r.1, tt)
