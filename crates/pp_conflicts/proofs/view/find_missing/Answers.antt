use Rattle.std.proofs.Common.{◌≡◌, ◌∙◌, List, ap, drop, sym}
use Rattle.pp_core.specs.declared.call.Kind.{Kind}
use Rattle.pp_laws_summary.specs.Summary.{summary_missing}
use Rattle.pp_model.specs.Names.{Name}
use Rattle.pp_snapshots.specs.Shown.{shown, shown_tx}
use Rattle.pp_violations.proofs.Judging.{if_ok}
use Rattle.pp_conflicts.specs.Searches.{shared_at}
use Rattle.pp_conflicts.proofs.Seen.{missing_drop}
use Rattle.pp_conflicts.proofs.view.find_missing.Goals as goal

pub returns : goal.returns
returns g c =
    if_ok (λ l. l.items ≡ drop c.seen_at.result c.deref.result.now) (λ l. (ks : List Kind) (t : Name) → l.items ≡ summary_missing g.S.Placed.place_of c.args.place (shown ks c.args.parts.now) (shown_tx t c.args.it.now)) c.entries_from.result
    (λ l e ks t. e ∙ ap (λ w. drop c.seen_at.result w) (c.deref.ensures.value ∙ c.in_ok-entries.ensures) ∙ ap (λ n. drop n (shared_at g.S.Placed.place_of c.args.place c.args.parts.now.committed)) c.seen_at.ensures
    ∙ sym (missing_drop g.S.Spec.object g.S.Placed.place_of g.S.Placed.SameAt g.met.S.Spec.lawful g.met.S.Placed.placed c.args.parts.now c.requires.keeps ks t c.args.it.now c.args.place)) c.entries_from.ensures
