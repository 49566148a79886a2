use Rattle.std.proofs.Common.{◌≡◌, filter, take}
use Rattle.pp_violations.specs.Searches.{is_lacking}
use Rattle.pp_violations.proofs.view.missing_in.Given as goal

-- The missing entries so far.
abbrev pub invariant-loop-entry : goal.invariant-loop-entry
invariant-loop-entry g l = l.list.items ≡ filter (is_lacking g.S.Placed.place_of l.place l.seen) (take l.entry-index l.entries)
