-- Proof machinery: the objects of more ids.
use Rattle.std.specs.Prelude.{◌≡◌, ℕ, List}
use Rattle.std.specs.Option.{option_or}
use Rattle.pp_core.specs.Values.{value_of}
use Rattle.pp_core.specs.declared.entry.Item.{Item}
use Rattle.pp_core.specs.declared.id_map.IdMap.{IdMap}
use Rattle.pp_objects.specs.declared.act.Op.{Op}
use Rattle.pp_cmd_focus.specs.Records.{object_of_id}

-- each id that had no object has that of the first of these operations that has the id
abbrev pub KnowMore : IdMap ℕ → IdMap ℕ → List (Item Op) → Type 0
KnowMore old new items =
    (id : ℕ) → value_of new id ≡ option_or (value_of old id) (object_of_id items id)
