-- Meaning: what `recheck` does with what `swaps` writes.
use Rattle.std.specs.Prelude.{◌≡◌, ℕ, List, length, Option}
use Rattle.std.specs.Io.KnownBytes.{Appends}
use Rattle.std.specs.List.{flat_map}
use Rattle.pp_core.specs.Catalogs.{Objects}
use Rattle.pp_core.specs.declared.call.Kind.{Kind}
use Rattle.pp_core.specs.declared.status.Status.{Status}
use Rattle.pp_core.specs.declared.status.Status.TheVariants as statuses
use Rattle.pp_model.specs.Config.{Config}
use Rattle.pp_model.specs.Sound.{serial_items}
use Rattle.pp_objects.specs.Objects.{kinds_of, objects}
use Rattle.pp_objects.specs.declared.act.Op.{Op}
use Rattle.pp_objects.specs.declared.states.ObjectState.{ObjectState}
use Rattle.pp_report.specs.Reports.{accepted_text}
use Rattle.pp_certificate_checker.specs.declared.shown.Shown.{Shown}
use Rattle.pp_certificate_checker.specs.Laws.{shown_of}
use Rattle.pp_text.specs.Lines.{op_line}
use Rattle.pp_certificate_lines.specs.Rechecked.{IsRecheck, holds_text}
use Rattle.pp_judge.specs.Accepted.{HasRun}
use Rattle.pp_judge.specs.Inputs.{scan}
use Rattle.pp_judge.specs.Reports.{IsCertified}
use Rattle.pp_cmd_swaps.specs.Swaps.{IsSwaps, certificate_text, config_of}

-- what a configuration of these objects shows: its committed operations in commit order, and the
-- state that they lead to
abbrev pub shown_in : Objects → Config Op → Shown (List Kind) (List ObjectState) Op
shown_in catalog c = shown_of objects (kinds_of catalog) c

-- The text is the certificate of the run of an input. `recheck` accepts it, and prints of it the
-- committed operations and the final states that `certify` reports of the run: the `op` lines of
-- both are the same lines in the same order, and so are the `state` lines.
pub record IsCertificateOf (bytes text : List ℕ) : Type 0 where
  pub run : HasRun (scan bytes)
  pub written : text ≡ certificate_text run.header.what.catalog (config_of run)
  pub rechecked : IsRecheck text statuses.Accepted
      (holds_text run.header.what.catalog (shown_in run.header.what.catalog (config_of run)))
  pub certified : IsCertified bytes statuses.Accepted
      (accepted_text run.header.what.catalog (length run.run) (config_of run).done
      (shown_in run.header.what.catalog (config_of run)).state)
  pub same_ops :
      flat_map (op_line run.header.what.catalog) (serial_items (config_of run).done)
      ≡ flat_map (λ tx. flat_map (op_line run.header.what.catalog) tx.entries)
      (config_of run).done

-- What was printed is such a certificate.
abbrev pub PrintsCertificate : List ℕ → Option (List ℕ) → Option (List ℕ) → Type 0
PrintsCertificate bytes old new =
    (text : List ℕ) × Appends old new text × IsCertificateOf bytes text

-- If `swaps` accepts an input, what it writes is such a certificate.
abbrev pub CertifiedLaw : Type 0
CertifiedLaw =
    (bytes text : List ℕ) → IsSwaps bytes statuses.Accepted text → IsCertificateOf bytes text

-- An input has one status and one text at most.
abbrev pub OneAnswerLaw : Type 0
OneAnswerLaw = (bytes : List ℕ) (s s' : Status) (t t' : List ℕ)
    → IsSwaps bytes s t → IsSwaps bytes s' t' → (s ≡ s') × (t ≡ t')
