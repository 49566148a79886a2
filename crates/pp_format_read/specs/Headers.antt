-- Meaning: the first line of a run.
use Rattle.std.specs.Prelude.{ℕ, ℤ, pos, List, [], ◌∷◌, ◌++◌, nat_lt, is_some, ok_or, Option}
use Rattle.std.specs.Prelude.{Some, None, Result, Ok, if◌then◌else◌}
use Rattle.std.specs.Ordering.{int_eq}
use Rattle.serde_json.specs.Data.{Data, Items, no_items, item}
use Rattle.serde_json.specs.Find.{as_object}
use Rattle.pp_core.specs.Catalogs.{Objects, place_of}
use Rattle.pp_core.specs.Words.{named, kind_word, kinds, style_word, styles}
use Rattle.pp_core.specs.declared.call.Kind.{Kind}
use Rattle.pp_core.specs.declared.limits.TheConstants.{MOST_OBJECTS}
use Rattle.pp_core.specs.declared.member.Member.TheVariants as members
use Rattle.pp_format_read.specs.declared.header.Header.{Header}
use Rattle.pp_format_read.specs.declared.header.Version.{Version}
use Rattle.pp_format_read.specs.declared.header.Version.TheVariants.{First, Second}
use Rattle.pp_format_read.specs.declared.start.Start.{Start}
use Rattle.pp_format_read.specs.declared.fault.RecordFault.{RecordFault}
use Rattle.pp_format_read.specs.declared.fault.RecordFault.TheVariants.{WrongType, OutOfRange}
use Rattle.pp_format_read.specs.declared.fault.RecordFault.TheVariants.{UnknownStyle, UnknownKind}
use Rattle.pp_format_read.specs.declared.fault.RecordFault.TheVariants.{RepeatedObject, TooManyObjects}
use Rattle.pp_format_read.specs.Reading.{◌>>=◌, fault_if}
use Rattle.pp_format_read.specs.Members.{object_of, text_of, name_of, whole_of, array_of, count}
use Rattle.pp_format_read.specs.Starts.{optional_start}

-- an object, whose name no earlier one has
unfoldable pub object_in : Objects → Data → Result (List ℕ × Kind) RecordFault
object_in before value = do
  inside ← ok_or (as_object value) (WrongType members.Objects)
  name ← name_of members.Name value
  new ← fault_if (is_some (place_of name before)) RepeatedObject
  word ← text_of members.Kind value
  kind ← ok_or (named kind_word kinds word) UnknownKind
  Ok (name, kind)

-- the objects with one more
unfoldable pub with_object : Objects → Data → Result Objects RecordFault
with_object before value = do
  object ← object_in before value
  Ok (before ++ object ∷ [])

-- the objects with those of an array
unfoldable pub objects_in : Objects → Items → Result Objects RecordFault
objects_in before no_items = Ok before
objects_in before (item value values) = do
  longer ← with_object before value
  objects_in longer values

-- all objects, at most 256
unfoldable pub catalog_of : Data → Result Objects RecordFault
catalog_of value = do
  values ← array_of members.Objects value
  few ← fault_if (nat_lt MOST_OBJECTS (count values)) TooManyObjects
  objects_in [] values

-- the version of this number
unfoldable pub version_from : ℤ → Option Version
version_from run =
    if int_eq run (pos 1) then Some First else if int_eq run (pos 2) then Some Second else None

-- the version of the format
unfoldable pub version_of : Data → Result Version RecordFault
version_of value = do
  run ← whole_of members.Run value
  ok_or (version_from run) (OutOfRange members.Run)

-- Version 2 alone has a start. In version 1 the member is one that is not known.
abbrev pub versioned_start : Version → Objects → Data → Result (Option Start) RecordFault
versioned_start First catalog value = Ok None
versioned_start Second catalog value = optional_start catalog value

-- the header that a line is
unfoldable pub header_of : List ℕ → Result Header RecordFault
header_of line = do
  value ← object_of line
  version ← version_of value
  word ← text_of members.Style value
  style ← ok_or (named style_word styles word) UnknownStyle
  catalog ← catalog_of value
  start ← versioned_start version catalog value
  Ok (record { style = style; catalog = catalog; start = start })
