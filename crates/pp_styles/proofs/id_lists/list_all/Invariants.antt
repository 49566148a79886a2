use Rattle.std.proofs.Common.{take}
use Rattle.pp_core.specs.declared.entry.SharedEntry.{SharedEntry}
use Rattle.pp_model.specs.Lists.{In}
use Rattle.pp_styles.specs.Publishing.{ids_by}
use Rattle.pp_styles.proofs.id_lists.list_all.Given as goal

abbrev pub invariant-loop-entry : goal.invariant-loop-entry
invariant-loop-entry g l =
    (e : SharedEntry g.row.S-Op.Denot) → In e (take l.entry-index l.shared.1) → In e.id (ids_by e.owner (g.S.Placed.place_of e.op) l.lists.entries)
