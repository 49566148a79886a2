-- Meaning: a pattern of calls in a body. Each fault means that the body is bad.
use Rattle.std.specs.Prelude.{ℕ, ◌==◌, ℤ, pos, List, codes, not, Option, Some, None, ok_or}
use Rattle.std.specs.Prelude.{option_and_then, Result, Ok}
use Rattle.serde_json.specs.Data.{Data, null}
use Rattle.serde_json.specs.Find.{get, at, as_str, as_array, as_number, as_integer}
use Rattle.pp_core.specs.Catalogs.{Objects}
use Rattle.pp_core.specs.declared.call.Kind.{Kind}
use Rattle.pp_core.specs.declared.call.Method.{Method}
use Rattle.pp_core.specs.declared.body.Pattern.{Pattern}
use Rattle.pp_objects.specs.Calls.{method_named, arity_of}
use Rattle.pp_format_read.specs.declared.fault.RecordFault.{RecordFault}
use Rattle.pp_format_read.specs.declared.fault.RecordFault.TheVariants.{BodyBad}
use Rattle.pp_format_read.specs.Reading.{◌>>=◌, fault_if}
use Rattle.pp_format_read.specs.Members.{count}
use Rattle.pp_format_read.specs.Calls.{number_from, object_named}

-- a whole number in -10^18 to 10^18, or null for any number
unfoldable pub wanted : Data → Result (Option ℤ) RecordFault
wanted null = Ok None
wanted value = do
  n ← ok_or (option_and_then as_integer (as_number value)) BodyBad
  near ← ok_or (number_from n) BodyBad
  Ok (Some near)

-- an argument that the call does not have is 0
abbrev pub wanted_or_none : Option Data → Result (Option ℤ) RecordFault
wanted_or_none None = Ok (Some (pos 0))
wanted_or_none (Some value) = wanted value

-- the argument at this place of an array
unfoldable pub wanted_at : ℕ → Data → Result (Option ℤ) RecordFault
wanted_at i list = wanted_or_none (at i list)

-- a member that is a text
unfoldable pub body_text : List ℕ → Data → Result (List ℕ) RecordFault
body_text key value = ok_or (option_and_then as_str (get key value)) BodyBad

-- the object with its kind, and the call of that kind
unfoldable pub target_of : Objects → Data → Result (ℕ × Kind × Method) RecordFault
target_of objects value = do
  on ← body_text (codes "on") value
  object ← ok_or (object_named objects on) BodyBad
  word ← body_text (codes "call") value
  method ← ok_or (method_named object.1 word) BodyBad
  Ok (object.0, object.1, method)

-- the array of what is wanted of the arguments, with as many elements as the call has arguments
unfoldable pub wanted_of : Kind → Method → Data → Result Data RecordFault
wanted_of kind method value = do
  list ← ok_or (get (codes "args") value) BodyBad
  values ← ok_or (as_array list) BodyBad
  exact ← fault_if (not (count values == arity_of kind method)) BodyBad
  Ok list

-- the pattern
unfoldable pub pattern_of : Objects → Data → Result Pattern RecordFault
pattern_of objects value = do
  target ← target_of objects value
  list ← wanted_of target.1 target.2 value
  first ← wanted_at 0 list
  second ← wanted_at 1 list
  third ← wanted_at 2 list
  Ok (record {
    object = target.0;
    method = target.2;
    first = first;
    second = second;
    third = third;
  })
