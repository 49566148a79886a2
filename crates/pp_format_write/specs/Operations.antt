-- Meaning: the value of an operation, with its members in the order of their names.
use Rattle.std.specs.Prelude.{ℕ, ℤ, List, [], ◌∷◌, take, map, codes, Option, Some, None}
use Rattle.serde_json.specs.Data.{Data, null, boolean, number, unsigned, string, array}
use Rattle.serde_json.specs.Data.{Members, member}
use Rattle.serde_json.specs.Find.{of_integer}
use Rattle.serde_json.specs.View.{items_of}
use Rattle.pp_core.specs.Catalogs.{Objects}
use Rattle.pp_core.specs.Words.{method_word}
use Rattle.pp_core.specs.declared.answer.Answer.{Answer}
use Rattle.pp_core.specs.declared.answer.Answer.TheVariants.{None as NoAnswer, Number, Truth}
use Rattle.pp_core.specs.declared.call.Call.{Call}
use Rattle.pp_objects.specs.declared.act.Act.{Act}
use Rattle.pp_objects.specs.declared.act.Op.{Op}
use Rattle.pp_objects.specs.Calls.{arity_of}
use Rattle.pp_objects.specs.One.{kind_for, call_of, recorded_by}
use Rattle.pp_text.specs.Texts.{name_at}

-- a number, or null for any number
abbrev pub number_or_null : Option ℤ → Data
number_or_null None = null
number_or_null (Some n) = number (of_integer n)

-- the array of the arguments that a call has, out of three
abbrev pub arguments_value : ℕ → Option ℤ → Option ℤ → Option ℤ → Data
arguments_value arity first second third =
    array (items_of (map number_or_null (take arity (first ∷ second ∷ third ∷ []))))

-- the arguments of a call on an object
abbrev pub call_value : ℕ → Call → Data
call_value arity c = arguments_value arity (Some c.first) (Some c.second) (Some c.third)

-- a result
abbrev pub answer_value : Answer → Data
answer_value NoAnswer = null
answer_value (Number n) = number (of_integer n)
answer_value (Truth t) = boolean t

-- the word of the method of an act
abbrev pub word_of : Act → List ℕ
word_of act = method_word (call_of act).method

-- how many arguments the call of an act has
abbrev pub arity_in : Act → ℕ
arity_in act = arity_of (kind_for act) (call_of act).method

-- the members of an operation with its id, and after them those of its record
abbrev pub op_members : Objects → ℕ → Op → Members → Members
op_members catalog id op others =
    member (codes "args") (call_value (arity_in op.act) (call_of op.act))
    (member (codes "call") (string (word_of op.act)) (member (codes "id") (number (unsigned id))
    (member (codes "on") (string (name_at catalog op.object))
    (member (codes "result") (answer_value (recorded_by op.act)) others))))
