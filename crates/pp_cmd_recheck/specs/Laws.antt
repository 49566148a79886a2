-- Meaning: the laws of the outputs of `recheck`.
use Rattle.std.specs.Prelude.{◌≡◌, ℕ, List}
use Rattle.pp_core.specs.declared.call.Kind.{Kind}
use Rattle.pp_core.specs.declared.status.Status.{Status}
use Rattle.pp_objects.specs.declared.act.Op.{Op}
use Rattle.pp_objects.specs.declared.states.ObjectState.{ObjectState}
use Rattle.pp_certificate_checker.specs.declared.shown.Shown.{Shown}
use Rattle.pp_certificate_lines.specs.Rechecked.{Shows, IsChecked, IsRecheck, IsSoundOf}

-- Each input has exactly one status and one text. What an accepted certificate shows is sound.
pub record RecheckLaw : Type 0 where
  pub once : (bytes : List ℕ) (s r : Status) (t u : List ℕ) → IsRecheck bytes s t
      → IsRecheck bytes r u → (s ≡ r) × (t ≡ u)
  pub some : (bytes : List ℕ) → (s : Status) × (t : List ℕ) × IsRecheck bytes s t
  pub sound : (bytes : List ℕ) (h : Shown (List Kind) (List ObjectState) Op)
      → IsChecked bytes (Shows h) → IsSoundOf bytes h
