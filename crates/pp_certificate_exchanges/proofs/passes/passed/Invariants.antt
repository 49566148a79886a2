use Rattle.pp_certificate_exchanges.specs.Towers.{base, IsSummed}
use Rattle.pp_certificate_exchanges.proofs.Marks.{Draws}
use Rattle.pp_certificate_exchanges.proofs.passes.passed.Given as goal

abbrev pub invariant-loop-item : goal.invariant-loop-item
invariant-loop-item g l = record {
  summed : IsSummed l.present;
  draws : Draws l.log l.target (base l.present) l.counts.items l.item-index;
}
