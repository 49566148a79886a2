use Rattle.std.proofs.Common.{◌+◌, ◌≤◌, subst, sym}
use Rattle.pp_records.specs.Records.{record_meaning}
use Rattle.pp_snapshots.specs.Ops.{kept_most}
use Rattle.pp_snapshots.proofs.take.take.Goals as goal

pub returns-in-Refresh-clause-bound : goal.returns-in-Refresh-clause-bound
returns-in-Refresh-clause-bound g c =
    subst (λ r. c.refresh.new.ticks ≤ c.args.ticks.now + kept_most g.S.Placed.place_of g.S.Parted.part_of g.S.PartByPart.silent_of c.args.parts.now (record_meaning r)) (sym c.in-Refresh.is) c.refresh.ensures.bound
