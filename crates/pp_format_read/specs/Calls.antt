-- Meaning: the calls of objects, with their arguments and results.
use Rattle.std.specs.Prelude.{◌≡◌, ℕ, ◌==◌, ℤ, pos, IsTrue, List, not, Option, Some, None, ok_or}
use Rattle.std.specs.Prelude.{option_map, option_and_then, slice_get, Result, Ok, if◌then◌else◌}
use Rattle.serde_json.specs.Data.{Data, null}
use Rattle.serde_json.specs.Find.{as_null, as_bool, as_array, at}
use Rattle.pp_core.specs.Catalogs.{Objects, place_of}
use Rattle.pp_core.specs.declared.answer.Answer.{Answer}
use Rattle.pp_core.specs.declared.answer.Answer.TheVariants as answers
use Rattle.pp_core.specs.declared.call.Call.{Call}
use Rattle.pp_core.specs.declared.call.Kind.{Kind}
use Rattle.pp_core.specs.declared.call.Method.{Method}
use Rattle.pp_core.specs.declared.member.Member.{Member}
use Rattle.pp_core.specs.declared.member.Member.TheVariants as members
use Rattle.pp_kind.specs.Numbers.{in_range}
use Rattle.pp_objects.specs.Calls.{method_named, arity_of, form_of, op_made}
use Rattle.pp_objects.specs.Objects.{kinds_of}
use Rattle.pp_objects.specs.declared.act.Op.{Op}
use Rattle.pp_objects.specs.declared.form.Form.{Form}
use Rattle.pp_objects.specs.declared.form.Form.TheVariants as forms
use Rattle.pp_format_read.specs.declared.fault.RecordFault.{RecordFault}
use Rattle.pp_format_read.specs.declared.fault.RecordFault.TheVariants.{WrongType, OutOfRange}
use Rattle.pp_format_read.specs.declared.fault.RecordFault.TheVariants.{UnknownObject, UnknownCall}
use Rattle.pp_format_read.specs.Reading.{◌>>=◌, fault_if}
use Rattle.pp_format_read.specs.Members.{member_of, text_of, name_from, whole, count}

-- the number, if it is in -10^18 to 10^18
unfoldable pub number_from : ℤ → Option ℤ
number_from n = if in_range n then Some n else None

-- a whole number in -10^18 to 10^18
unfoldable pub number_of : Member → Data → Result ℤ RecordFault
number_of member value = do
  n ← whole member value
  ok_or (number_from n) (OutOfRange member)

-- the object at a place, as its place and its kind
abbrev pub object_at : Objects → ℕ → Option (ℕ × Kind)
object_at objects place = option_map (λ entry. (place, entry.1)) (slice_get objects place)

-- the object that a text names
unfoldable pub object_named : Objects → List ℕ → Option (ℕ × Kind)
object_named objects text =
    option_and_then
    (λ name. option_and_then (object_at objects) (place_of name objects)) (name_from text)

-- the catalog has an object of this kind at this place
abbrev pub IsThere : Objects → ℕ × Kind → Type 0
IsThere objects object = slice_get (kinds_of objects) object.0 ≡ Some object.1

-- the object on which the call is
unfoldable pub object_called : Objects → Data → Result (ℕ × Kind) RecordFault
object_called objects value = do
  on ← text_of members.On value
  ok_or (object_named objects on) UnknownObject

-- the call, which objects of the kind have
unfoldable pub method_of : Kind → Data → Result Method RecordFault
method_of kind value = do
  word ← text_of members.Call value
  ok_or (method_named kind word) UnknownCall

-- an argument that the call does not have is 0
abbrev pub given : Option Data → Result ℤ RecordFault
given None = Ok (pos 0)
given (Some value) = number_of members.Args value

-- the argument at this place of an array
unfoldable pub argument : ℕ → Data → Result ℤ RecordFault
argument i list = given (at i list)

-- the array of the arguments, which has as many elements as the call has arguments
unfoldable pub arguments_of : Kind → Method → Data → Result Data RecordFault
arguments_of kind method value = do
  list ← member_of members.Args value
  values ← ok_or (as_array list) (WrongType members.Args)
  exact ← fault_if (not (count values == arity_of kind method)) (WrongType members.Args)
  Ok list

-- the call on the object of this kind at a place, with its arguments
unfoldable pub call_of : ℕ → Kind → Data → Result Call RecordFault
call_of object kind value = do
  method ← method_of kind value
  list ← arguments_of kind method value
  first ← argument 0 list
  second ← argument 1 list
  third ← argument 2 list
  Ok (record { object = object; method = method; first = first; second = second; third = third })

-- a result that is a whole number
unfoldable pub number_answer : Data → Result Answer RecordFault
number_answer value = do
  n ← number_of members.Answer value
  Ok (answers.Number n)

-- the result is a number in -10^18 to 10^18
abbrev pub IsRangedNumber : Answer → Type 0
IsRangedNumber answer = (n : ℤ) × (answer ≡ answers.Number n) × IsTrue (in_range n)

-- a result of this form
unfoldable pub answer_in : Form → Data → Result Answer RecordFault
answer_in forms.Nothing value = do
  none ← ok_or (as_null value) (WrongType members.Answer)
  Ok answers.None
answer_in forms.Number value = number_answer value
answer_in forms.Truth value = do
  truth ← ok_or (as_bool value) (WrongType members.Answer)
  Ok (answers.Truth truth)
answer_in forms.Found null = Ok answers.None
answer_in forms.Found value = number_answer value

-- The operation of a record. The tests before the last leave calls that make one, so the last finds
-- no fault.
unfoldable pub op_of : Objects → Data → Result Op RecordFault
op_of objects value = do
  object ← object_called objects value
  call ← call_of object.0 object.1 value
  result ← member_of members.Answer value
  answer ← answer_in (form_of object.1 call.method) result
  ok_or (op_made object.1 call answer) (WrongType members.Answer)
