use Rattle.std.proofs.Common.{take}
use Rattle.pp_model.specs.Lists.{In}
use Rattle.pp_model.specs.Names.{Name}
use Rattle.pp_styles.proofs.published.listed_sources.Given as goal

abbrev pub invariant-loop-owner : goal.invariant-loop-owner
invariant-loop-owner l =
    (v : Name) → In v l.sources.keys → In v (take l.owner-index l.owner-items) → In v l.names.items
