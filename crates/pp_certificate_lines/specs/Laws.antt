-- Meaning: the lines of a certificate that are written are read again as what they say.
use Rattle.std.specs.Prelude.{ℕ, ◌&&◌, ◌<◌, nat_le, Bool, IsTrue, List, length}
use Rattle.pp_core.specs.Catalogs.{Objects}
use Rattle.pp_core.specs.declared.entry.Item.{Item}
use Rattle.pp_model.specs.Config.{Config}
use Rattle.pp_model.specs.Lists.{Each}
use Rattle.pp_model.specs.Sound.{Sound}
use Rattle.pp_objects.specs.Objects.{objects, kinds_of}
use Rattle.pp_objects.specs.declared.act.Op.{Op}
use Rattle.pp_kind.specs.Object.{rules_of}
use Rattle.pp_format_write.specs.Statable.{IsCatalog}
use Rattle.pp_certificate_exchanges.specs.Laws.{log_of}
use Rattle.pp_certificate_checker.specs.Certificates.{Holds, IsVerdictOf}
use Rattle.pp_certificate_checker.specs.Laws.{Spells, certificate_of, shown_of}
use Rattle.pp_certificate_lines.specs.Lines.{line_bytes}
use Rattle.pp_certificate_lines.specs.Reading.{reader, reader_of}

-- The entry can be stated: its id is one of a record, and its numbers are in the range of records.
abbrev pub can_state : Item Op → Bool
can_state p = nat_le p.id 999_999_999 && objects.ranged p.op

-- Each line of a certificate over objects that can be stated is read back at its place.
abbrev pub SpellsLaw : Type 0
SpellsLaw =
    (catalog : Objects) → IsCatalog catalog
    → Spells objects (kinds_of catalog) can_state (reader catalog) (line_bytes catalog)

-- The lines of the certificate of a configuration of these objects, without line ends.
abbrev pub lines_of : Objects → Config Op → List (List ℕ)
lines_of catalog c = certificate_of (line_bytes catalog) (kinds_of catalog) c

-- The lines for a sound configuration whose entries can be stated are accepted. They show its
-- committed operations in commit order. Only the lines say which objects there are.
abbrev pub AcceptedLaw : Type 0
AcceptedLaw =
    (catalog : Objects) (c : Config Op) → IsCatalog catalog
    → Sound (rules_of objects (kinds_of catalog)) c → length (log_of c) < 1_000_000
    → Each (λ p. IsTrue (can_state p)) (log_of c)
    → IsVerdictOf objects (reader_of (lines_of catalog c)) (lines_of catalog c)
    (Holds (shown_of objects (kinds_of catalog) c))
