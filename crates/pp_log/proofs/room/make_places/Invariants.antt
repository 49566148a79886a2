use Rattle.std.proofs.Common.{◌-◌, ◌+◌, length}
use Rattle.pp_log.specs.Room.{ArePlacesSame}
use Rattle.pp_log.proofs.room.make_places.Given as goal

abbrev pub invariant-grow : goal.invariant-grow
invariant-grow g l = ArePlacesSame l.initial.places.items l.places.items

abbrev pub decreases-grow : goal.decreases-grow
decreases-grow g l = l.p + 1 - length l.places.items
