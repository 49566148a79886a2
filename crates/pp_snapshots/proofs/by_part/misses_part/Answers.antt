use Rattle.std.proofs.Common.{◌≤◌, length, subst}
use Rattle.pp_snapshots.specs.ByPart.{ops_in}
use Rattle.pp_snapshots.specs.Shown.{seen_in}
use Rattle.pp_snapshots.proofs.Listed.{listed_all}
use Rattle.pp_snapshots.proofs.by_part.misses_part.Goals as goal

pub returns-clause-misses : goal.returns-clause-misses
returns-clause-misses g c =
    let past = c.args.past.now in
    let now = c.catch_up.new.by_part in
    c.misses_listed.ensures (ops_in past)
    (listed_all g.S.Parted.part_of g.S.Spec.object g.S.Placed.place_of g.met.S.PartByPart.alone (ops_in past) now c.args.op.now c.in_ok-catch_up.ensures.listed
    (subst (λ p. length (ops_in past p) ≤ seen_in now.counts.entries p) c.place-place.ensures c.in_ok-catch_up.ensures.all))

pub returns-clause-all : goal.returns-clause-all
returns-clause-all g c = λ e.
    let past = c.args.past.now in
    let now = c.catch_up.new.by_part in
    listed_all g.S.Parted.part_of g.S.Spec.object g.S.Placed.place_of g.met.S.PartByPart.alone (ops_in past) now c.args.op.now c.in_ok-catch_up.ensures.listed
    (subst (λ p. length (ops_in past p) ≤ seen_in now.counts.entries p) c.place-place.ensures c.in_ok-catch_up.ensures.all)
