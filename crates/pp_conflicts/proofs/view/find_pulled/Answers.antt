use Rattle.std.proofs.Common.{◌≡◌, ◌∙◌, List, false, sym, true}
use Rattle.pp_core.specs.declared.call.Kind.{Kind}
use Rattle.pp_laws_summary.specs.Summary.{summary_missing, summary_pulled}
use Rattle.pp_model.specs.Names.{Name}
use Rattle.pp_snapshots.specs.Shown.{shown, shown_tx}
use Rattle.pp_violations.proofs.Judging.{if_ok}
use Rattle.pp_conflicts.specs.Searches.{at_commit}
use Rattle.pp_conflicts.proofs.Seen.{pulled_is}
use Rattle.pp_conflicts.proofs.view.find_pulled.Goals as goal

pub returns-then-has_any : goal.returns-then-has_any
returns-then-has_any g c = λ ks t.
    c.new.ensures.items ∙ sym (pulled_is g.S.Placed.place_of c.args.place t (shown ks c.args.parts.now) c.args.it.now true (sym c.has_any.ensures ∙ c.if-has_any.true))

pub returns : goal.returns
returns g c =
    if_ok (λ l. (ks : List Kind) (t : Name) → l.items ≡ summary_missing g.S.Placed.place_of c.args.place (shown ks c.args.parts.now) (shown_tx t c.args.it.now))
    (λ l. (ks : List Kind) (t : Name) → l.items ≡ summary_pulled g.S.Placed.place_of at_commit c.args.place (shown ks c.args.parts.now) (shown_tx t c.args.it.now)) c.find_missing.result
    (λ l e ks t. e ks t ∙ sym (pulled_is g.S.Placed.place_of c.args.place t (shown ks c.args.parts.now) c.args.it.now false (sym c.has_any.ensures ∙ c.if-has_any.false))) c.find_missing.ensures
