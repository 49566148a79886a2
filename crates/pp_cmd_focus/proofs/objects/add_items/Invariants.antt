use Rattle.std.proofs.Common.{◌≡◌, ℕ, drop}
use Rattle.std.specs.Option.{option_or}
use Rattle.pp_core.specs.Values.{value_of}
use Rattle.pp_cmd_focus.specs.Records.{object_of_id}
use Rattle.pp_cmd_focus.proofs.objects.add_items.Given as goal

abbrev pub invariant-loop-item : goal.invariant-loop-item
invariant-loop-item l = (id : ℕ) →
    option_or (value_of l.objects id) (object_of_id (drop l.item-index l.items) id)
    ≡ option_or (value_of l.fn.objects id) (object_of_id l.items id)
