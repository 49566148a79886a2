-- Meaning: the sources of a transaction, as they are kept.
use Rattle.std.specs.Prelude.{List, [], Option, None, Some}
use Rattle.std.specs.Map.{lookup}
use Rattle.std.specs.Str.{bytes_eq}
use Rattle.indexmap.specs.IndexSet.{IndexSet}
use Rattle.pp_model.specs.Names.{Name}

-- the sources that are kept, and no names if none are kept
abbrev pub kept_sources : {H : Type 0} → Option (IndexSet Name H) → List Name
kept_sources None = []
kept_sources (Some us) = us.keys

abbrev pub sources_in : {H : Type 0} → Name → List (Name × IndexSet Name H) → List Name
sources_in t entries = kept_sources (lookup (bytes_eq t) entries)
