use Rattle.std.proofs.Common.{◌≡◌, ◌++◌, drop}
use Rattle.std.specs.List.{flat_map}
use Rattle.pp_cmd_swaps.specs.Texts.{entry_line}
use Rattle.pp_cmd_swaps.proofs.text.add_entries.Given as goal

abbrev pub invariant-loop-item : goal.invariant-loop-item
invariant-loop-item l =
    l.text ++ flat_map (entry_line l.catalog) (drop l.item-index l.log)
    ≡ l.fn.text ++ flat_map (entry_line l.catalog) l.log
