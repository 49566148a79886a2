use Rattle.std.proofs.Common.{subst, sym}
use Rattle.pp_records.specs.Records.{record_meaning}
use Rattle.pp_conflicts.specs.Searches.{SearchesShown}
use Rattle.pp_conflicts.proofs.find.search_record.Goals as goal

pub returns-in-Plain-clause-searches : goal.returns-in-Plain-clause-searches
returns-in-Plain-clause-searches g c =
    subst (λ q. SearchesShown g.S.Spec.object g.S.Placed.place_of c.args.parts.now (record_meaning q) c.search_begin.result) (sym c.in-Plain.is) c.search_begin.ensures

pub returns-in-Abort-clause-searches : goal.returns-in-Abort-clause-searches
returns-in-Abort-clause-searches g c =
    subst (λ q. SearchesShown g.S.Spec.object g.S.Placed.place_of c.args.parts.now (record_meaning q) c.search_abort.result) (sym c.in-Abort.is) c.search_abort.ensures

pub returns-in-Retry-clause-searches : goal.returns-in-Retry-clause-searches
returns-in-Retry-clause-searches g c =
    subst (λ q. SearchesShown g.S.Spec.object g.S.Placed.place_of c.args.parts.now (record_meaning q) c.search_retry.result) (sym c.in-Retry.is) c.search_retry.ensures
