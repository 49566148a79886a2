-- The text of an operation.
use Rattle.std.proofs.Common.{◌≡◌, ◌<◌, ◌≤◌, ◌&&◌, ℕ, zero, suc, ℤ, pos, negsuc, IsTrue, List, [], ◌∷◌}
use Rattle.std.proofs.Common.{length, map, take, slice_get, Option, Some, None, refl}
use Rattle.std.proofs.Common.{sym, ap, ◌∙◌, arith, int_le}
use Rattle.std.proofs.lemmas.Bool.{and_parts}
use Rattle.std.proofs.lemmas.Int.{ints}
use Rattle.serde_json.specs.Data.{Num, unsigned, Members}
use Rattle.serde_json.specs.Find.{of_integer}
use Rattle.serde_json.specs.View.{items_of}
use Rattle.pp_core.specs.Catalogs.{Objects}
use Rattle.pp_core.specs.Names.{IsName}
use Rattle.pp_core.specs.Words.{method_word}
use Rattle.pp_core.specs.declared.answer.Answer.{Answer}
use Rattle.pp_core.specs.declared.answer.Answer.TheVariants as answers
use Rattle.pp_core.specs.declared.call.Call.{Call}
use Rattle.pp_core.specs.declared.call.Kind.{Kind}
use Rattle.pp_core.specs.declared.call.Kind.TheVariants as kinds
use Rattle.pp_core.specs.declared.call.Method.{Method}
use Rattle.pp_core.specs.declared.call.Method.TheVariants as methods
use Rattle.pp_model.specs.Lists.{Each}
use Rattle.pp_objects.specs.Calls.{arity_of}
use Rattle.pp_objects.specs.Objects.{kinds_of, fits_in}
use Rattle.pp_objects.specs.One.{one, fits, is_ranged, kind_for, call_of, recorded_by}
use Rattle.pp_objects.specs.declared.act.Act.{Act}
use Rattle.pp_objects.specs.declared.act.Act.TheVariants.{Memory, KeySet, KeyMap, Counter, Queue}
use Rattle.pp_objects.specs.declared.act.Act.TheVariants.{Stack, PriorityQueue}
use Rattle.pp_objects.specs.declared.act.Op.{Op}
use Rattle.pp_objects.specs.laws.One.{one_lawful}
use Rattle.pp_kind.specs.Numbers.{in_range, has_ranged_arguments, is_ranged_answer}
use Rattle.pp_text.specs.Texts.{name_at}
use Rattle.pp_text.proofs.Arguments as arguments
use Rattle.pp_format_write.specs.Operations.{number_or_null, arguments_value, answer_value, arity_in}
use Rattle.pp_format_write.specs.Operations.{op_members}
use Rattle.pp_format_write.specs.Statable.{IsOpOn}
use Rattle.pp_format_write.proofs.Words.{IsWord}
use Rattle.pp_format_write.proofs.Texts.{IsTidy, AreTidy, HasTidy, IsWhole, IsNear}

-- A method has at most three arguments.
pub arguments_few : (kind : Kind) (m : Method) → arity_of kind m ≤ 3
arguments_few kind m = arguments.few kind m

-- The call of an act has at most three arguments.
pub few : (act : Act) → arity_in act ≤ 3
few act = arguments.few (kind_for act) (call_of act).method

-- ---- the object is there, and is of the act's kind
kind_is : (kind : Kind) (a : Act) → IsTrue (fits kind a) → kind ≡ kind_for a
kind_is kinds.Memory (Memory a) h = refl
kind_is kinds.KeySet (KeySet a) h = refl
kind_is kinds.KeyMap (KeyMap a) h = refl
kind_is kinds.Counter (Counter a) h = refl
kind_is kinds.Queue (Queue a) h = refl
kind_is kinds.Stack (Stack a) h = refl
kind_is kinds.PriorityQueue (PriorityQueue a) h = refl
kind_is kind a h = absurd (cc)

kind_found : (o : Option Kind) (a : Act) → IsTrue (fits_in one o a) → o ≡ Some (kind_for a)
kind_found None a h = absurd (cc)
kind_found (Some kind) a h = ap Some (kind_is kind a h)

-- If an operation is on an object of the catalog, this object has the kind of its act.
pub kind_there : (catalog : Objects) (op : Op) → IsOpOn catalog op → slice_get (kinds_of catalog) op.object ≡ Some (kind_for op.act)
kind_there catalog op h = kind_found (slice_get (kinds_of catalog) op.object) op.act h.0

-- a place of which the kind is known is there
pub below : (catalog : Objects) (i : ℕ) (kind : Kind) → slice_get (kinds_of catalog) i ≡ Some kind → i < length catalog
below [] i kind is = absurd (cc)
below (e ∷ es) zero kind is = omega arith
below (e ∷ es) (suc i) kind is = let lt = below es i kind is in omega arith

-- If an operation is on an object of the catalog, the index of the object is below the number of objects.
pub there : (catalog : Objects) (op : Op) → IsOpOn catalog op → op.object < length catalog
there catalog op h = below catalog op.object (kind_for op.act) (kind_there catalog op h)

-- ---- its numbers are in range
parts : (a : Act) → IsTrue (is_ranged a) → IsTrue (has_ranged_arguments (call_of a)) × IsTrue (is_ranged_answer (recorded_by a))
parts a h = and_parts (has_ranged_arguments (call_of a)) (is_ranged_answer (recorded_by a)) (sym (one_lawful.ranged_numbers a) ∙ h)

-- The result of an operation on an object of the catalog is in the range of records.
pub answer_ranged : (catalog : Objects) (op : Op) → IsOpOn catalog op → IsTrue (is_ranged_answer (recorded_by op.act))
answer_ranged catalog op h = (parts op.act h.1).1

-- The arguments of a call are in the range of records.
pub record AreRanged (c : Call) : Type 0 where
  pub first : IsTrue (in_range c.first)
  pub second : IsTrue (in_range c.second)
  pub third : IsTrue (in_range c.third)

-- If an act is in the range of records, so are the arguments of its call.
pub arguments_ranged : (a : Act) → IsTrue (is_ranged a) → AreRanged (call_of a)
arguments_ranged a h =
    let c = call_of a in
    let three = and_parts (in_range c.first && in_range c.second) (in_range c.third) (parts a h).0 in
    let two = and_parts (in_range c.first) (in_range c.second) three.0 in
    record { first = two.0; second = two.1; third = three.1 }

-- ---- words and numbers
pub method_is_word : (m : Method) → IsWord (method_word m)
method_is_word methods.Read = refl
method_is_word methods.Write = refl
method_is_word methods.Cas = refl
method_is_word methods.Add = refl
method_is_word methods.Remove = refl
method_is_word methods.Contains = refl
method_is_word methods.Put = refl
method_is_word methods.Get = refl
method_is_word methods.FetchAdd = refl
method_is_word methods.Enq = refl
method_is_word methods.Deq = refl
method_is_word methods.StackPush = refl
method_is_word methods.StackPop = refl
method_is_word methods.Insert = refl
method_is_word methods.Take = refl
method_is_word methods.Least = refl

-- The number of an integer is whole.
pub whole_integer : (z : ℤ) → IsWhole (of_integer z)
whole_integer (pos n) = tt
whole_integer (negsuc n) = tt

abbrev least : ℤ
least = negsuc 999_999_999_999_999_999

abbrev most : ℤ
most = pos 1_000_000_000_000_000_000

-- The number of an integer in the range of records is within 10^18.
pub near_integer : (z : ℤ) → IsTrue (in_range z) → IsNear (of_integer z)
near_integer (pos n) h =
    let ends = and_parts (int_le least (pos n)) (int_le (pos n) most) h in grind (arith, ints)
near_integer (negsuc n) h =
    let ends = and_parts (int_le least (negsuc n)) (int_le (negsuc n) most) h in grind (arith, ints)

-- this is a property of the number, if there is one
abbrev pub IfNumber : (Num → Type 0) → Option ℤ → Type 0
IfNumber P None = Unit {0}
IfNumber P (Some n) = P (of_integer n)

wanted_tidy : (P : Num → Type 0) (n : Option ℤ) → IfNumber P n → IsTidy P (number_or_null n)
wanted_tidy P None h = tt
wanted_tidy P (Some n) h = h

first_tidy : (P : Num → Type 0) (arity : ℕ) (ns : List (Option ℤ)) → Each (IfNumber P) ns → AreTidy P (items_of (map number_or_null (take arity ns)))
first_tidy P zero ns h = tt
first_tidy P (suc arity) [] h = tt
first_tidy P (suc arity) (n ∷ ns) h = (wanted_tidy P n h.0, first_tidy P arity ns h.1)

-- If the numbers among three arguments have a property, the value of the arguments is tidy for it.
pub arguments_tidy : (P : Num → Type 0) (arity : ℕ) (x y z : Option ℤ) → IfNumber P x → IfNumber P y → IfNumber P z → IsTidy P (arguments_value arity x y z)
arguments_tidy P arity x y z h k l = first_tidy P arity (x ∷ y ∷ z ∷ []) (h, (k, (l, tt)))

-- a number that is a result has this property
abbrev pub IfNumberOf : (Num → Type 0) → Answer → Type 0
IfNumberOf P answers.None = Unit {0}
IfNumberOf P (answers.Number n) = P (of_integer n)
IfNumberOf P (answers.Truth t) = Unit {0}

answer_tidy : (P : Num → Type 0) (r : Answer) → IfNumberOf P r → IsTidy P (answer_value r)
answer_tidy P answers.None h = tt
answer_tidy P (answers.Number n) h = h
answer_tidy P (answers.Truth t) h = tt

-- the numbers of an act and its id have this property
pub record HasNumbers (P : Num → Type 0) (id : ℕ) (c : Call) (r : Answer) : Type 0 where
  pub id_has : P (unsigned id)
  pub first : P (of_integer c.first)
  pub second : P (of_integer c.second)
  pub third : P (of_integer c.third)
  pub answer : IfNumberOf P r

-- If the object has a name, the numbers have a property, and the other members are tidy for it, so are the members of an operation.
pub op_tidy : (P : Num → Type 0) (catalog : Objects) (id : ℕ) (op : Op) (others : Members) → IsName (name_at catalog op.object)
    → HasNumbers P id (call_of op.act) (recorded_by op.act) → HasTidy P others → HasTidy P (op_members catalog id op others)
op_tidy P catalog id op others name numbers rest =
    let args = arguments_tidy P (arity_in op.act) (Some (call_of op.act).first) (Some (call_of op.act).second) (Some (call_of op.act).third) numbers.first numbers.second numbers.third in
    (refl, args, (refl, method_is_word (call_of op.act).method, (refl, numbers.id_has, (refl, name.bytes, (refl, answer_tidy P (recorded_by op.act) numbers.answer, rest)))))

whole_answer : (r : Answer) → IfNumberOf IsWhole r
whole_answer answers.None = tt
whole_answer (answers.Number n) = whole_integer n
whole_answer (answers.Truth t) = tt

near_answer : (r : Answer) → IsTrue (is_ranged_answer r) → IfNumberOf IsNear r
near_answer answers.None h = tt
near_answer (answers.Number n) h = near_integer n h
near_answer (answers.Truth t) h = tt

-- The id, the arguments and the result of an operation are whole numbers.
pub whole_numbers : (id : ℕ) (c : Call) (r : Answer) → HasNumbers IsWhole id c r
whole_numbers id c r = record { id_has = tt; first = whole_integer c.first; second = whole_integer c.second; third = whole_integer c.third; answer = whole_answer r }

-- The id, the arguments and the result of an operation in range are numbers within 10^18.
pub near_numbers : (id : ℕ) (a : Act) → id ≤ 999_999_999 → IsTrue (is_ranged a) → HasNumbers IsNear id (call_of a) (recorded_by a)
near_numbers id a small h =
    let c = arguments_ranged a h in record {
      id_has = omega arith;
      first = near_integer (call_of a).first c.first;
      second = near_integer (call_of a).second c.second;
      third = near_integer (call_of a).third c.third;
      answer = near_answer (recorded_by a) (parts a h).1;
    }
