-- Meaning: the header of a run of style rules, with its members in the order of their names.
-- Version 1 of the format has no start, and version 2 is written for a run that has one.
use Rattle.std.specs.Prelude.{ℕ, List, codes, map, Option}
use Rattle.serde_json.specs.Data.{Data, number, unsigned, string, array, object, no_members}
use Rattle.serde_json.specs.Data.{member}
use Rattle.serde_json.specs.View.{items_of}
use Rattle.serde_json.specs.Written.{compact_text}
use Rattle.pp_core.specs.Catalogs.{Objects}
use Rattle.pp_core.specs.Words.{kind_word}
use Rattle.pp_core.specs.declared.call.Kind.{Kind}
use Rattle.pp_core.specs.declared.call.Style.TheVariants.{Rules}
use Rattle.pp_core.specs.declared.entry.Item.{Item}
use Rattle.pp_objects.specs.declared.act.Op.{Op}
use Rattle.pp_format_read.specs.declared.header.Header.{Header}
use Rattle.pp_format_read.specs.declared.start.Start.{Start}
use Rattle.pp_format_write.specs.Operations.{op_members}

-- an object of a run
abbrev pub object_value : List ℕ × Kind → Data
object_value entry =
    object (member (codes "kind") (string (kind_word entry.1))
    (member (codes "name") (string entry.0) no_members))

-- all objects
abbrev pub objects_value : Objects → Data
objects_value catalog = array (items_of (map object_value catalog))

-- the value on the header's line
abbrev pub header_value : Objects → Data
header_value catalog =
    object (member (codes "objects") (objects_value catalog)
    (member (codes "run") (number (unsigned 1))
    (member (codes "style") (string (codes "rules")) no_members)))

-- the line, as `{"objects":[{"kind":"counter","name":"c"}],"run":1,"style":"rules"}`, without a
-- line end
abbrev pub header_bytes : Objects → List ℕ
header_bytes catalog = compact_text (header_value catalog)

-- an operation of a start
abbrev pub item_value : Objects → Item Op → Data
item_value catalog p = object (op_members catalog p.id p.op no_members)

-- a start: its operations and the name of their transaction
abbrev pub start_value : Objects → List ℕ → List (Item Op) → Data
start_value catalog tx ops =
    object (member (codes "ops") (array (items_of (map (item_value catalog) ops)))
    (member (codes "tx") (string tx) no_members))

-- the value on the line of a header with a start
abbrev pub header_value_2 : Objects → List ℕ → List (Item Op) → Data
header_value_2 catalog tx ops =
    object (member (codes "objects") (objects_value catalog)
    (member (codes "run") (number (unsigned 2))
    (member (codes "start") (start_value catalog tx ops)
    (member (codes "style") (string (codes "rules")) no_members))))

-- the line, as `{"objects":[..],"run":2,"start":{"ops":[..],"tx":"t0"},"style":"rules"}`, without a
-- line end
abbrev pub header_bytes_2 : Objects → List ℕ → List (Item Op) → List ℕ
header_bytes_2 catalog tx ops = compact_text (header_value_2 catalog tx ops)

-- the header of a run of style rules over these objects, with this start if there is one
abbrev pub rules_header : Objects → Option Start → Header
rules_header catalog start = record { style = Rules; catalog = catalog; start = start }
