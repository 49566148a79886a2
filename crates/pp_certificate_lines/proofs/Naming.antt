-- Proof machinery: what is shown is of the objects of the certificate.
use Rattle.std.proofs.Common.{◌≡◌, IsTrue, List, [], ◌∷◌, subst, sym}
use Rattle.pp_core.specs.Catalogs.{Objects}
use Rattle.pp_core.specs.declared.call.Kind.{Kind}
use Rattle.pp_core.specs.declared.entry.Item.{Item}
use Rattle.pp_model.specs.Lists.{Each}
use Rattle.pp_model.specs.Object.{ops}
use Rattle.pp_objects.specs.Objects.{kinds_of, objects}
use Rattle.pp_objects.specs.declared.act.Op.{Op}
use Rattle.pp_objects.specs.declared.states.ObjectState.{ObjectState}
use Rattle.pp_objects.specs.laws.Objects.{objects_lawful}
use Rattle.pp_kind.specs.Object.{AllowedFrom, IsAllowed, state_after}
use Rattle.pp_kind.proofs.Places.{reached_shape}
use Rattle.pp_text.specs.Texts.{AreStatesOf}
use Rattle.pp_certificate_checker.specs.declared.shown.Shown.{Shown}
use Rattle.pp_certificate_checker.specs.Laws.{ShowsAllowed}
use Rattle.pp_certificate_lines.specs.Checkings.{IsShownOf}

-- Each operation of an allowed list fits its shape.
all_fit : (states : List ObjectState) (l : List (Item Op)) → AllowedFrom objects states (ops l)
    → Each (λ p. IsTrue (objects.fits (objects.shape states) p.op)) l
all_fit states [] allowed = tt
all_fit states (p ∷ l) allowed = (
  allowed.0.0,
  subst (λ kinds. Each (λ q. IsTrue (objects.fits kinds q.op)) l)
      (objects_lawful.next_shape states p.op allowed.0)
      (all_fit (objects.next states p.op) l allowed.1),
)

-- If a certificate shows an allowed list over its objects, all that it shows is of them.
pub shown_named : (catalog : Objects) (h : Shown (List Kind) (List ObjectState) Op)
    → h.shape ≡ kinds_of catalog → ShowsAllowed objects h → IsShownOf catalog h
shown_named catalog h is allowed =
    let over : IsAllowed objects (kinds_of catalog) (ops h.serial) =
    subst (λ (k : List Kind). IsAllowed objects k (ops h.serial)) is allowed.0 in
    let state : h.state ≡ state_after objects (kinds_of catalog) (ops h.serial) =
    subst (λ (k : List Kind). h.state ≡ state_after objects k (ops h.serial)) is allowed.1 in (
      subst (λ kinds. Each (λ p. IsTrue (objects.fits kinds p.op)) h.serial)
          (objects_lawful.start_shape (kinds_of catalog))
          (all_fit (objects.start (kinds_of catalog)) h.serial over),
      subst (λ (s : List ObjectState). AreStatesOf catalog s) (sym state)
          (reached_shape objects objects_lawful (kinds_of catalog) (ops h.serial) over),
    )
