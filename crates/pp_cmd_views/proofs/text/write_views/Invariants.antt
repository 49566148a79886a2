use Rattle.std.proofs.Common.{◌≡◌, ◌++◌, drop}
use Rattle.std.specs.List.{flat_map}
use Rattle.pp_cmd_views.specs.Texts.{view_line}
use Rattle.pp_cmd_views.proofs.text.write_views.Given as goal

abbrev pub invariant-loop-view : goal.invariant-loop-view
invariant-loop-view l = l.text ++ flat_map view_line (drop l.view-index l.views) ≡ l.fn.text ++ flat_map view_line l.views
