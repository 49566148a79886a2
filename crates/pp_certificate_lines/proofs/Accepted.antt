-- Proof machinery: the lines of the certificate of a sound configuration are accepted.
use Rattle.std.proofs.Common.{◌<◌, IsTrue, length, sym, subst}
use Rattle.pp_core.specs.Catalogs.{Objects}
use Rattle.pp_model.specs.Config.{Config}
use Rattle.pp_model.specs.Lists.{Each}
use Rattle.pp_model.specs.Sound.{Sound}
use Rattle.pp_objects.specs.Objects.{objects, kinds_of}
use Rattle.pp_objects.specs.declared.act.Op.{Op}
use Rattle.pp_objects.specs.laws.Objects.{objects_lawful}
use Rattle.pp_kind.specs.Object.{rules_of}
use Rattle.pp_format_write.specs.Statable.{IsCatalog}
use Rattle.pp_certificate_exchanges.specs.Laws.{log_of}
use Rattle.pp_certificate_checker.specs.Certificates.{Holds, IsVerdictOf}
use Rattle.pp_certificate_checker.specs.Laws.{shown_of}
use Rattle.pp_certificate_checker.proofs.Written.{written}
use Rattle.pp_certificate_lines.specs.Laws.{can_state, lines_of}
use Rattle.pp_certificate_lines.specs.Lines.{line_bytes}
use Rattle.pp_certificate_lines.specs.Reading.{reader, reader_of}
use Rattle.pp_certificate_lines.proofs.Back.{named, spells}

-- The lines of the certificate of a sound configuration are accepted.
pub accepted : (catalog : Objects) (c : Config Op) → IsCatalog catalog
    → Sound (rules_of objects (kinds_of catalog)) c → length (log_of c) < 1_000_000
    → Each (λ p. IsTrue (can_state p)) (log_of c)
    → IsVerdictOf objects (reader_of (lines_of catalog c)) (lines_of catalog c)
    (Holds (shown_of objects (kinds_of catalog) c))
accepted catalog c cat sound few each =
    subst
    (λ (os : Objects). IsVerdictOf objects (reader os) (lines_of catalog c)
    (Holds (shown_of objects (kinds_of catalog) c)))
    (sym (named catalog c cat))
    (written objects (kinds_of catalog) can_state (reader catalog) (line_bytes catalog)
    (spells catalog cat) objects_lawful c sound few each)
