use Rattle.std.proofs.Common.{◌≡◌, ◌≤◌, arith, length, refl, subst, sym, take_all}
use Rattle.std.proofs.lemmas.Option.{slice_get_read}
use Rattle.pp_model.specs.Lists.{In}
use Rattle.pp_styles.specs.Dropping.{ids_from}
use Rattle.pp_styles.proofs.Dropping.{pulled_next}
use Rattle.pp_styles.proofs.pulled.list_all.Goals as goal

pub loop-entry-preserved : goal.loop-entry-preserved
loop-entry-preserved g c =
    let all = c.args.entries.now in
    let i = c.loop-entry.entry-index in
    let here = slice_get_read all (length all) i c.entry-item.result refl c.loop-entry-test.true c.entry-item.is in
    pulled_next all i c.entry-item.result here (λ v. ids_from v c.loop-entry.owners.entries) (λ v. ids_from v c.add_pulled.new.owners.entries) c.in_ok-add_pulled.ensures c.loop-entry.invariant
