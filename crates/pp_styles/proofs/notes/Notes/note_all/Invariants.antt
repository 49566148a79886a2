use Rattle.std.proofs.Common.{take}
use Rattle.pp_core.specs.declared.entry.CommittedTx.{CommittedTx}
use Rattle.pp_model.specs.Lists.{In}
use Rattle.pp_model.specs.Object.{Item}
use Rattle.pp_styles.specs.Knowing.{IsBlank}
use Rattle.pp_styles.specs.Noting.{ids_in, known}
use Rattle.pp_styles.proofs.notes.Notes.note_all.Given as goal

abbrev pub invariant-loop-done : goal.invariant-loop-done
invariant-loop-done g l =
    ((d : CommittedTx g.row.S-Op.Denot) → In d (take l.done-index l.committed) →
    (p : Item g.row.S-Op.Denot) → In p d.entries → In p.id (ids_in (g.S.Placed.place_of p.op) l.self.committed.entries))
    × IsBlank (known l.self)
