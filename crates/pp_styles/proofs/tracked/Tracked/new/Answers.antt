use Rattle.std.proofs.Common.{◌∙◌, ap, subst, sym}
use Rattle.pp_styles.specs.Dropping.{pullings}
use Rattle.pp_styles.specs.Knowing.{IsTrueOf, ListsAll}
use Rattle.pp_styles.specs.Noting.{known}
use Rattle.pp_styles.specs.Publishing.{publications}
use Rattle.pp_styles.proofs.Dropping.{none_pulled}
use Rattle.pp_styles.proofs.Publishing.{none_kept}
use Rattle.pp_styles.proofs.Knowing.{at_first}
use Rattle.pp_styles.proofs.tracked.Tracked.new.Goals as goal

pub invariant_of-result : goal.invariant_of-result
invariant_of-result g c =
    let P = g.S.Placed.place_of in (
      subst (λ n. IsTrueOf P (known n) c.args.machine.config) (sym c.in_ok-notes.ensures.ok)
          (at_first P (known c.note_all.new.self) c.args.machine.config
          (subst (λ done. ListsAll P done (known c.note_all.new.self)) c.committed.ensures.done c.in_ok-note_all.ensures)),
      none_kept P (publications c.in_ok-published.published.value) c.args.machine.config (ap (λ n. (publications n).kept) c.in_ok-published.ensures.ok ∙ c.new-2.ensures),
      none_pulled (pullings c.in_ok-pulled.pulled.value) c.args.machine.config (λ u. ap (λ n. (pullings n).kept u) c.in_ok-pulled.ensures.ok ∙ c.new-4.ensures u),
    )
