use Rattle.std.proofs.Common.{◌≡◌, ◌+◌, ◌-◌, ℕ, length}
use Rattle.pp_snapshots.specs.Past.{made_at}
use Rattle.pp_snapshots.proofs.past.make_places.Given as goal

-- each place has what it had
abbrev pub invariant-grow : goal.invariant-grow
invariant-grow g l = (q : ℕ) → made_at q l.places.items ≡ made_at q l.initial.places.items

abbrev pub decreases-grow : goal.decreases-grow
decreases-grow g l = l.place + 1 - length l.places.items
