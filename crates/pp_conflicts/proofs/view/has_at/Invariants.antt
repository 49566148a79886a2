use Rattle.std.proofs.Common.{◌≡◌, ◌==◌, false, take}
use Rattle.std.specs.List.{list_any}
use Rattle.pp_conflicts.proofs.view.has_at.Given as goal

-- none of those so far is
abbrev pub invariant-loop-item : goal.invariant-loop-item
invariant-loop-item g l = list_any (λ p. g.S.Placed.place_of p.op == l.place) (take l.item-index l.items) ≡ false
