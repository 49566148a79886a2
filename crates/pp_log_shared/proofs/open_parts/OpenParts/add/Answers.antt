use Rattle.std.proofs.Common.{rules, arith, sym, subst, ap, ◌∙◌, ◌≡◌, ◌++◌, ◌∷◌, [], None, Some}
use Rattle.std.specs.Map.{lookup}
use Rattle.indexmap.specs.Entry.{entry_map_ref, entry_value, map_with_value}
use Rattle.pp_log_shared.specs.Uncommitted.{open_in, same_part, Tells}
use Rattle.pp_log_shared.proofs.Uncommitted.{counted, more_at, told_at}
use Rattle.pp_log_shared.proofs.open_parts.OpenParts.add.Goals as goal

pub note-requires : goal.note-requires
note-requires g c =
    let few = c.requires.few.2 in
    let found = sym c.in-Ok.ensures.value ∙ ap entry_value c.in-Occupied.is ∙ c.into_mut-slot.ensures.value in
    let fewer = counted g.S.Spec.object g.S.Parted.label_of g.S.Parted.part_of c.args.self.now.slots.entries c.requires.few.0 c.part.result c.into_mut-slot.result.now found c.requires.few.1 in
    omega arith

pub returns-in-Occupied : goal.returns-in-Occupied
returns-in-Occupied g c = λ uncommitted x kept.
    let o = g.S.Spec.object in
    let label_of = g.S.Parted.label_of in
    let part_of = g.S.Parted.part_of in
    let k = c.part.result in
    let slots = c.args.self.now.slots.entries in
    let found = sym c.in-Ok.ensures.value ∙ ap entry_value c.in-Occupied.is ∙ c.into_mut-slot.ensures.value in
    let told = told_at o label_of part_of slots x k (Some c.into_mut-slot.result.now) found kept in
    more_at o label_of part_of k slots _ x c.args.entry.now c.note.new.slot c.part.ensures uncommitted (λ q. let up = c.in-Ok.ensures.update.0 c.note.new.slot in let one = up.0 q in search rules) (c.note.ensures (open_in part_of k x) told) kept

pub returns-in-Vacant : goal.returns-in-Vacant
returns-in-Vacant g c = λ uncommitted x kept.
    let o = g.S.Spec.object in
    let label_of = g.S.Parted.label_of in
    let part_of = g.S.Parted.part_of in
    let k = c.part.result in
    let slots = c.args.self.now.slots.entries in
    let absent = rw c.in-Vacant.is at c.in-Ok.ensures.found in
    let none : open_in part_of k x ≡ [] = told_at o label_of part_of slots x k None absent kept in
    let slot = c.insert.result.now in
    let one = subst (λ z. Tells o label_of c.first.result (z ++ c.args.entry.now ∷ [])) (sym none) c.first.ensures in
    let told = subst (λ s. Tells o label_of s (open_in part_of k x ++ c.args.entry.now ∷ [])) (sym c.insert.ensures.value) one in
    let same_map = sym c.in-Ok.ensures.same_map ∙ ap (λ e. (entry_map_ref e).ghost_name) c.in-Vacant.is in
    let same_value = ap (λ e. map_with_value e slot) (sym c.in-Vacant.is) in
    more_at o label_of part_of k slots _ x c.args.entry.now slot c.part.ensures uncommitted
    (λ q. let one = ap (λ m. lookup (same_part q) m.entries) same_value ∙ (c.in-Ok.ensures.update.0 slot).0 q in search (rules, same_map, one))
    told kept
