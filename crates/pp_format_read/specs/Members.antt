-- Meaning: a line's value and its members, read in the order of the tests.
use Rattle.std.specs.Prelude.{ℕ, suc, ℤ, List, length, Bool, ◌&&◌, nat_le, Option, Some, None, ok_or}
use Rattle.std.specs.Prelude.{option_and_then, Result, Ok, Err, if◌then◌else◌}
use Rattle.std.specs.List.{list_all}
use Rattle.std.specs.Str.{is_utf8}
use Rattle.serde_json.specs.Data.{Data, Items, no_items, item}
use Rattle.serde_json.specs.Read.{read}
use Rattle.serde_json.specs.Find.{get, as_str, as_number, as_integer, as_array, as_object}
use Rattle.pp_core.specs.Names.{is_name_byte}
use Rattle.pp_core.specs.Words.{member_word}
use Rattle.pp_core.specs.declared.member.Member.{Member}
use Rattle.pp_core.specs.declared.limits.TheConstants.{LONGEST_NAME}
use Rattle.pp_format_read.specs.declared.fault.RecordFault.{RecordFault}
use Rattle.pp_format_read.specs.declared.fault.RecordFault.TheVariants.{NotJson, NotObject, Missing}
use Rattle.pp_format_read.specs.declared.fault.RecordFault.TheVariants.{WrongType, BadName}
use Rattle.pp_format_read.specs.Reading.{◌>>=◌}

-- the value on a line
unfoldable pub value_of : List ℕ → Result Data RecordFault
value_of line = if is_utf8 line then ok_or (read line) NotJson else Err NotJson

-- the value, which is to be an object
unfoldable pub object_of : List ℕ → Result Data RecordFault
object_of line = do
  value ← value_of line
  inside ← ok_or (as_object value) NotObject
  Ok value

-- a member, of any type
unfoldable pub member_of : Member → Data → Result Data RecordFault
member_of member value = ok_or (get (member_word member) value) (Missing member)

-- a member that is to be a text
unfoldable pub text_of : Member → Data → Result (List ℕ) RecordFault
text_of member value = do
  found ← member_of member value
  ok_or (as_str found) (WrongType member)

-- 1 to 24 bytes out of letters, digits, `_`, `.` and `-`
abbrev pub is_name : List ℕ → Bool
is_name text =
    nat_le 1 (length text) && nat_le (length text) LONGEST_NAME && list_all is_name_byte text

-- the name with this text
unfoldable pub name_from : List ℕ → Option (List ℕ)
name_from text = if is_name text then Some text else None

-- a member that is to be a name
unfoldable pub name_of : Member → Data → Result (List ℕ) RecordFault
name_of member value = do
  text ← text_of member value
  ok_or (name_from text) (BadName member)

-- a whole number, and no float
unfoldable pub whole : Member → Data → Result ℤ RecordFault
whole member value = ok_or (option_and_then as_integer (as_number value)) (WrongType member)

-- a member that is to be a whole number
unfoldable pub whole_of : Member → Data → Result ℤ RecordFault
whole_of member value = do
  found ← member_of member value
  whole member found

-- a member that is to be an array
unfoldable pub array_of : Member → Data → Result Items RecordFault
array_of member value = do
  found ← member_of member value
  ok_or (as_array found) (WrongType member)

-- how many elements an array has
abbrev pub count : Items → ℕ
count no_items = 0
count (item value values) = suc (count values)
