-- Meaning: what the fronts keep of the records so far.
use Rattle.std.specs.Prelude.{List, [], None}
use Rattle.std.specs.Map.{lookup}
use Rattle.std.specs.Str.{bytes_eq}
use Rattle.pp_core.specs.declared.call.Kind.{Kind}
use Rattle.pp_records.specs.Fronts.{Front}
use Rattle.pp_styles.specs.declared.dependent.Dependent.{Dependent}
use Rattle.pp_styles.specs.declared.hardware.Hardware.{Hardware}
use Rattle.pp_styles.specs.Sources.{sources_in}

-- style hardware: the open sections
abbrev pub hardware_state : Hardware → Front
hardware_state f =
    record {
      section = λ t. lookup (bytes_eq t) f.sections.entries;
      sources = λ t. [];
      kinds = f.kinds;
    }

-- style dependent: the sources
abbrev pub dependent_state : List Kind → Dependent → Front
dependent_state ks f =
    record { section = λ t. None; sources = λ t. sources_in t f.sources.entries; kinds = ks }
