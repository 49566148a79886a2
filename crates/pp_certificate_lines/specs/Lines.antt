-- Meaning: the lines of a certificate, each an object with its members in the order of their names.
use Rattle.std.specs.Prelude.{ℕ, List, [], map, codes}
use Rattle.serde_json.specs.Data.{Data, number, unsigned, array, object, no_members, member}
use Rattle.serde_json.specs.View.{items_of}
use Rattle.serde_json.specs.Written.{compact_text}
use Rattle.pp_core.specs.Catalogs.{Objects}
use Rattle.pp_core.specs.declared.call.Kind.{Kind}
use Rattle.pp_core.specs.declared.entry.Item.{Item}
use Rattle.pp_objects.specs.declared.act.Op.{Op}
use Rattle.pp_format_write.specs.Headers.{objects_value, item_value}
use Rattle.pp_certificate_checker.specs.declared.line.Line.{Line}
use Rattle.pp_certificate_checker.specs.declared.line.Line.TheVariants.{Blank, Head, Entry, Exchanges}
use Rattle.pp_certificate_checker.specs.declared.line.Line.TheVariants.{Serial, Other}

-- the first line, as `{"certificate":1,"objects":[{"kind":"counter","name":"c"}]}`
abbrev pub head_value : Objects → Data
head_value catalog =
    object (member (codes "certificate") (number (unsigned 1))
    (member (codes "objects") (objects_value catalog) no_members))

-- a position of an exchange
abbrev pub position_value : ℕ → Data
position_value i = number (unsigned i)

-- a row of positions, as `{"swaps":[1,0]}`
abbrev pub row_value : List ℕ → Data
row_value is =
    object (member (codes "swaps") (array (items_of (map position_value is))) no_members)

-- the serial number, as `{"serial":2}`
abbrev pub serial_value : ℕ → Data
serial_value n = object (member (codes "serial") (number (unsigned n)) no_members)

-- the bytes of each, without a line end
abbrev pub head_bytes : Objects → List ℕ
head_bytes catalog = compact_text (head_value catalog)

-- as `{"args":[1],"call":"add","id":1,"on":"c","result":null}`
abbrev pub entry_bytes : Objects → Item Op → List ℕ
entry_bytes catalog p = compact_text (item_value catalog p)

abbrev pub row_bytes : List ℕ → List ℕ
row_bytes is = compact_text (row_value is)

abbrev pub serial_bytes : ℕ → List ℕ
serial_bytes n = compact_text (serial_value n)

-- The line of what a line says over these objects. There is no line for what has no form.
abbrev pub line_bytes : Objects → Line (List Kind) Op → List ℕ
line_bytes catalog Blank = []
line_bytes catalog (Head kinds) = head_bytes catalog
line_bytes catalog (Entry p) = entry_bytes catalog p
line_bytes catalog (Exchanges is) = row_bytes is
line_bytes catalog (Serial n) = serial_bytes n
line_bytes catalog Other = []
