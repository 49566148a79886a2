-- Meaning: the header of the restriction of an input to an object. Below, o is the place of the
-- object in the header of the input.
use Rattle.std.specs.Prelude.{ℕ, ◌==◌, List, filter, codes, slice_get, Option, None, Some}
use Rattle.std.specs.Option.{option_to_list}
use Rattle.serde_json.specs.Data.{Data, member, no_members, number, object, string, unsigned}
use Rattle.serde_json.specs.Written.{compact_text}
use Rattle.pp_core.specs.Catalogs.{Objects}
use Rattle.pp_core.specs.Names.{IsName}
use Rattle.pp_core.specs.Words.{style_word}
use Rattle.pp_core.specs.declared.call.Style.{Style}
use Rattle.pp_core.specs.declared.entry.Item.{Item}
use Rattle.pp_objects.specs.Objects.{place_of}
use Rattle.pp_objects.specs.declared.act.Op.{Op}
use Rattle.pp_format_read.specs.declared.header.Header.{Header}
use Rattle.pp_format_read.specs.declared.start.Start.{Start}
use Rattle.pp_format_write.specs.Headers.{objects_value, start_value}

-- the object at a place, alone
abbrev pub object_at : ℕ → Objects → Objects
object_at o catalog = option_to_list (slice_get catalog o)

-- the operations on it
abbrev pub items_on : ℕ → List (Item Op) → List (Item Op)
items_on o items = filter (λ p. place_of p.op == o) items

-- the value on the line of a header without a start, which has these objects
abbrev pub plain_value : Data → Style → Data
plain_value objects style =
    object (member (codes "objects") objects
    (member (codes "run") (number (unsigned 1))
    (member (codes "style") (string (style_word style)) no_members)))

-- the value on the line of a header with a start
abbrev pub started_value : Data → Data → Style → Data
started_value objects start style =
    object (member (codes "objects") objects
    (member (codes "run") (number (unsigned 2))
    (member (codes "start") start
    (member (codes "style") (string (style_word style)) no_members))))

-- the value on the line of a header with this start, if it has one
abbrev pub header_value : ℕ → Header → Option Start → Data
header_value o header None = plain_value (objects_value (object_at o header.catalog)) header.style
header_value o header (Some start) =
    started_value (objects_value (object_at o header.catalog))
    (start_value header.catalog start.tx (items_on o start.ops)) header.style

-- The line of a header that keeps this object alone, and of the start the operations on it. Version
-- 1 of the format has no start, and version 2 is written for a header that has one.
abbrev pub header_bytes : ℕ → Header → List ℕ
header_bytes o header = compact_text (header_value o header header.start)

-- the transaction of a start, if there is one, has a name
abbrev pub HasNamedStart : Option Start → Type 0
HasNamedStart None = Unit {0}
HasNamedStart (Some start) = IsName start.tx
