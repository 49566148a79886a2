-- Reading a record is never out of memory by its definition.
use Rattle.std.specs.Prelude.{◌≡◌, ℕ, ◌==◌, ℤ, pos, negsuc, Bool, true, false, List, [], ◌∷◌, codes, not, cond, if◌then◌else◌, ok_or, option_and_then, unwrap_or, Option, None, Some, Result, Ok, Err}
use Rattle.std.proofs.Common.{ap}
use Rattle.std.specs.Str.{bytes_eq, is_utf8}
use Rattle.std.specs.Ordering.{nat_cmp, match_ordering}
use Rattle.std.specs.declared.cmp.Ordering.{Ordering}
use Rattle.std.specs.declared.cmp.Ordering.TheVariants.{Less, Equal, Greater}
use Rattle.std.specs.Cmp.Lexicographic.{slice_cmp}
use Rattle.serde_json.specs.Data.{Data, Items, no_items, item, Members, no_members, member, null, boolean, number, string, array, object}
use Rattle.serde_json.specs.Find.{get, as_array, as_bool, as_integer, as_null, as_number, as_object, as_str, at}
use Rattle.serde_json.specs.Read.{read}
use Rattle.pp_core.specs.Catalogs.{Objects}
use Rattle.pp_core.specs.Steps.{Step}
use Rattle.pp_core.specs.Trees.{Tree, Skip, One, Seq, Alt, Star, trees, is_within}
use Rattle.pp_core.specs.declared.answer.Answer.{Answer}
use Rattle.pp_core.specs.declared.call.Kind.{Kind}
use Rattle.pp_core.specs.declared.call.Method.{Method}
use Rattle.pp_core.specs.declared.call.Style.{Style}
use Rattle.pp_core.specs.declared.call.Style.TheVariants.{Rules, Boosted, Optimistic, Hardware, Dependent}
use Rattle.pp_core.specs.declared.member.Member.{Member}
use Rattle.pp_core.specs.declared.member.Member.TheVariants as members
use Rattle.pp_records.specs.Records.{RunRecord}
use Rattle.pp_records.specs.Records as records
use Rattle.pp_objects.specs.Calls.{arity_of, form_of as form_for, method_named}
use Rattle.pp_objects.specs.declared.act.Op.{Op}
use Rattle.pp_objects.specs.declared.form.Form.{Form}
use Rattle.pp_objects.specs.declared.form.Form.TheVariants as forms
use Rattle.pp_format_read.specs.declared.fault.RecordFault.{RecordFault}
use Rattle.pp_format_read.specs.declared.fault.RecordFault.TheVariants as faults
use Rattle.pp_format_read.specs.declared.header.Header.{Header}
use Rattle.pp_format_read.specs.Reading.{◌>>=◌, fault_if}
use Rattle.pp_format_read.specs.Members.{count, value_of, object_of, member_of, text_of, name_of, whole, whole_of}
use Rattle.pp_format_read.specs.Calls.{number_from, object_named, object_called, method_of, arguments_of, argument, given, number_of, call_of, number_answer, answer_in, op_of}
use Rattle.pp_format_read.specs.Items.{id_of, item_of}
use Rattle.pp_format_read.specs.Patterns.{wanted, wanted_or_none, wanted_at, body_text, target_of, wanted_of, pattern_of}
use Rattle.pp_format_read.specs.Bodies.{skip_in, leaf_in, leaf_of, forms as how_many, form_of, as_seq, as_alt, as_star, is_none, body_of, bodies_of, bodies_in, seq_among, alt_among, star_among, small_body_of, body_given, body_of_begin}
use Rattle.pp_format_read.specs.Rules.{begin_of, app_of, unapp_of, push_of, unpush_of, pull_of, unpull_of, cmt_of, quit_of, note_of, step_of}
use Rattle.pp_format_read.specs.Boosted.{tx_alone, plain_begin_of, op_record_of, boosted_of}
use Rattle.pp_format_read.specs.Optimistic.{refresh_of, optimistic_of}
use Rattle.pp_format_read.specs.Hardware.{hardware_of}
use Rattle.pp_format_read.specs.Dependent.{tx_and_source, with_source, dependent_of}
use Rattle.pp_format_read.specs.Records.{record_named, record_of}

-- what is read is not that memory is refused
abbrev IsOther : {A : Type 0} → Result A RecordFault → Type 0
IsOther r = r ≡ Err faults.OutOfMemory → ⊥

is_ok : {A : Type 0} (x : A) → IsOther (Ok x)
is_ok x = λ is. absurd (cc)

-- a fault that is another
abbrev Other : RecordFault → Type 0
Other e = e ≡ faults.OutOfMemory → ⊥

is_err : {A : Type 0} (e : RecordFault) → Other e → IsOther {A = A} (Err e)
is_err e other = λ is. other (cc)

found : {A : Type 0} (x : Option A) (e : RecordFault) → Other e → IsOther (ok_or x e)
found (Some x) e other = is_ok x
found None e other = is_err e other

tested : (b : Bool) (e : RecordFault) → Other e → IsOther (fault_if b e)
tested true e other = is_err e other
tested false e other = is_ok false

next : {A B : Type 0} (x : Result A RecordFault) (f : A → Result B RecordFault) → IsOther x → ((a : A) → IsOther (f a)) → IsOther (x >>= f)
next (Ok a) f h k = k a
next {A = A} {B = B} (Err e) f h k = is_err {A = B} e (λ is. h (ap (λ (x : RecordFault). let r : Result A RecordFault = Err x in r) is))

from_found : {A B : Type 0} (x : Option A) (e : RecordFault) (f : A → Result B RecordFault) → Other e → ((a : A) → IsOther (f a)) → IsOther (ok_or x e >>= f)
from_found x e f other h = next (ok_or x e) f (found x e other) h

from_test : {B : Type 0} (b : Bool) (e : RecordFault) (f : Bool → Result B RecordFault) → Other e → ((t : Bool) → IsOther (f t)) → IsOther (fault_if b e >>= f)
from_test b e f other h = next (fault_if b e) f (tested b e other) h

made : {A B : Type 0} (x : Result A RecordFault) (f : A → B) → IsOther x → IsOther (x >>= λ a. Ok (f a))
made x f h = next x _ h (λ a. is_ok (f a))

either : {A : Type 0} (b : Bool) (x y : Result A RecordFault) → IsOther x → IsOther y → IsOther (if b then x else y)
either true x y h k = h
either false x y h k = k

other_json : Other faults.NotJson
other_json = λ is. absurd (cc)

other_object : Other faults.NotObject
other_object = λ is. absurd (cc)

other_missing : (m : Member) → Other (faults.Missing m)
other_missing m = λ is. absurd (cc)

other_type : (m : Member) → Other (faults.WrongType m)
other_type m = λ is. absurd (cc)

other_range : (m : Member) → Other (faults.OutOfRange m)
other_range m = λ is. absurd (cc)

other_name : (m : Member) → Other (faults.BadName m)
other_name m = λ is. absurd (cc)

other_unknown : Other faults.UnknownObject
other_unknown = λ is. absurd (cc)

other_call : Other faults.UnknownCall
other_call = λ is. absurd (cc)

other_step : Other faults.UnknownStep
other_step = λ is. absurd (cc)

other_body : Other faults.BodyBad
other_body = λ is. absurd (cc)

other_large : Other faults.BodyTooLarge
other_large = λ is. absurd (cc)

-- ---- members

text_known : (m : Member) (value : Data) → IsOther (text_of m value)
unfolding text_of member_of
text_known m value = next (ok_or (get _ value) _) _ (found _ _ (other_missing m)) (λ v. found _ _ (other_type m))

member_known : (m : Member) (value : Data) → IsOther (member_of m value)
unfolding member_of
member_known m value = found _ _ (other_missing m)

name_known : (m : Member) (value : Data) → IsOther (name_of m value)
unfolding name_of
name_known m value = next (text_of m value) _ (text_known m value) (λ t. found _ _ (other_name m))

whole_known : (m : Member) (value : Data) → IsOther (whole m value)
unfolding whole
whole_known m value = found _ _ (other_type m)

object_known : (line : List ℕ) → IsOther (object_of line)
unfolding object_of value_of
object_known line = next (value_of line) _ (either (is_utf8 line) _ _ (found _ _ other_json) (is_err faults.NotJson other_json)) (λ v. next (ok_or _ faults.NotObject) _ (found _ _ other_object) (λ i. is_ok v))

-- ---- an operation

number_known : (m : Member) (value : Data) → IsOther (number_of m value)
unfolding number_of
number_known m value = next (whole m value) _ (whole_known m value) (λ n. found _ _ (other_range m))

given_known : (v : Option Data) → IsOther (given v)
given_known None = is_ok (pos 0)
given_known (Some v) = number_known members.Args v

argument_known : (i : ℕ) (list : Data) → IsOther (argument i list)
unfolding argument
argument_known i list = given_known (at i list)

called_known : (objects : Objects) (value : Data) → IsOther (object_called objects value)
unfolding object_called
called_known objects value = next (text_of members.On value) _ (text_known members.On value) (λ on. found _ _ other_unknown)

method_known : (kind : Kind) (value : Data) → IsOther (method_of kind value)
unfolding method_of
method_known kind value = next (text_of members.Call value) _ (text_known members.Call value) (λ w. found (method_named kind w) _ other_call)

arguments_known : (kind : Kind) (method : Method) (value : Data) → IsOther (arguments_of kind method value)
unfolding arguments_of
arguments_known kind method value =
    next (member_of members.Args value) _ (member_known members.Args value) (λ list.
    from_found (as_array list) (faults.WrongType members.Args) _ (other_type members.Args) (λ values.
    from_test (not (count values == arity_of kind method)) (faults.WrongType members.Args) _ (other_type members.Args) (λ exact. is_ok list)))

call_known : (o : ℕ) (kind : Kind) (value : Data) → IsOther (call_of o kind value)
unfolding call_of
call_known o kind value =
    next (method_of kind value) _ (method_known kind value) (λ method.
    next (arguments_of kind method value) _ (arguments_known kind method value) (λ list.
    next (argument 0 list) _ (argument_known 0 list) (λ first.
    next (argument 1 list) _ (argument_known 1 list) (λ second.
    next (argument 2 list) _ (argument_known 2 list) (λ third. is_ok _)))))

number_answer_known : (value : Data) → IsOther (number_answer value)
unfolding number_answer
number_answer_known value = made (number_of members.Answer value) _ (number_known members.Answer value)

answer_known : (form : Form) (value : Data) → IsOther (answer_in form value)
unfolding answer_in
answer_known forms.Nothing value = from_found (as_null value) (faults.WrongType members.Answer) _ (other_type members.Answer) (λ n. is_ok _)
answer_known forms.Number value = number_answer_known value
answer_known forms.Truth value = from_found (as_bool value) (faults.WrongType members.Answer) _ (other_type members.Answer) (λ t. is_ok _)
answer_known forms.Found null = is_ok _
answer_known forms.Found (boolean b) = number_answer_known (boolean b)
answer_known forms.Found (number n) = number_answer_known (number n)
answer_known forms.Found (string s) = number_answer_known (string s)
answer_known forms.Found (array ds) = number_answer_known (array ds)
answer_known forms.Found (object ms) = number_answer_known (object ms)

op_known : (objects : Objects) (value : Data) → IsOther (op_of objects value)
unfolding op_of
op_known objects value =
    next (object_called objects value) _ (called_known objects value) (λ o.
    next (call_of o.0 o.1 value) _ (call_known o.0 o.1 value) (λ call.
    next (member_of members.Answer value) _ (member_known members.Answer value) (λ result.
    next (answer_in (form_for o.1 call.method) result) _ (answer_known (form_for o.1 call.method) result) (λ answer. found _ _ (other_type members.Answer)))))

id_known : (value : Data) → IsOther (id_of value)
unfolding id_of whole_of
id_known value = next (whole_of members.Id value) _ (next (member_of members.Id value) _ (member_known members.Id value) (λ v. whole_known members.Id v)) (λ n. found _ _ (other_range members.Id))

item_known : (objects : Objects) (value : Data) → IsOther (item_of objects value)
unfolding item_of
item_known objects value = next (id_of value) _ (id_known value) (λ id. made (op_of objects value) _ (op_known objects value))

-- ---- a body

number_wanted : (value : Data) → IsOther (ok_or (option_and_then as_integer (as_number value)) faults.BodyBad >>= λ n. (ok_or (number_from n) faults.BodyBad >>= λ near. Ok (Some near)))
number_wanted value =
    from_found (option_and_then as_integer (as_number value)) faults.BodyBad _ other_body (λ n.
    from_found (number_from n) faults.BodyBad _ other_body (λ near. is_ok (Some near)))

wanted_known : (value : Data) → IsOther (wanted value)
unfolding wanted
wanted_known null = is_ok None
wanted_known (boolean b) = number_wanted (boolean b)
wanted_known (number m) = number_wanted (number m)
wanted_known (string s) = number_wanted (string s)
wanted_known (array ds) = number_wanted (array ds)
wanted_known (object ms) = number_wanted (object ms)

wanted_or_known : (v : Option Data) → IsOther (wanted_or_none v)
wanted_or_known None = is_ok _
wanted_or_known (Some v) = wanted_known v

body_text_known : (key : List ℕ) (value : Data) → IsOther (body_text key value)
unfolding body_text
body_text_known key value = found (option_and_then as_str (get key value)) _ other_body

target_known : (objects : Objects) (value : Data) → IsOther (target_of objects value)
unfolding target_of
target_known objects value =
    next (body_text (codes "on") value) _ (body_text_known (codes "on") value) (λ on.
    from_found (object_named objects on) faults.BodyBad _ other_body (λ o.
    next (body_text (codes "call") value) _ (body_text_known (codes "call") value) (λ word.
    from_found (method_named o.1 word) faults.BodyBad _ other_body (λ method. is_ok _))))

arguments_wanted : (kind : Kind) (method : Method) (value : Data) → IsOther (wanted_of kind method value)
unfolding wanted_of
arguments_wanted kind method value =
    from_found (get (codes "args") value) faults.BodyBad _ other_body (λ list.
    from_found (as_array list) faults.BodyBad _ other_body (λ values.
    from_test (not (count values == arity_of kind method)) faults.BodyBad _ other_body (λ exact. is_ok list)))

pattern_known : (objects : Objects) (value : Data) → IsOther (pattern_of objects value)
unfolding pattern_of wanted_at
pattern_known objects value =
    next (target_of objects value) _ (target_known objects value) (λ target.
    next (wanted_of target.1 target.2 value) _ (arguments_wanted target.1 target.2 value) (λ list.
    next (wanted_or_none (at 0 list)) _ (wanted_or_known (at 0 list)) (λ first.
    next (wanted_or_none (at 1 list)) _ (wanted_or_known (at 1 list)) (λ second.
    next (wanted_or_none (at 2 list)) _ (wanted_or_known (at 2 list)) (λ third. is_ok _)))))

skip_known : (b : Option Bool) → IsOther (skip_in b)
skip_known (Some true) = is_ok Skip
skip_known (Some false) = is_err faults.BodyBad other_body
skip_known None = is_err faults.BodyBad other_body

leaf_known : (objects : Objects) (value : Data) → IsOther (leaf_of objects value)
unfolding leaf_of
leaf_known objects value = by (get (codes "skip") value)
  where
    by : (s : Option Data) → IsOther (leaf_in objects value s)
    by (Some s) = skip_known (as_bool s)
    by None = made (pattern_of objects value) _ (pattern_known objects value)

-- what is read, if something is
abbrev IsOtherIf : {A : Type 0} → Option (Result A RecordFault) → Type 0
IsOtherIf None = Unit {0}
IsOtherIf (Some r) = IsOther r

or_known : {A : Type 0} (x : Option (Result A RecordFault)) (y : Result A RecordFault) → IsOtherIf x → IsOther y → IsOther (unwrap_or x y)
or_known None y h k = k
or_known (Some x) y h k = h

form_known : (objects : Objects) (value : Data) (seq alt star : Option (Result Tree RecordFault)) → IsOtherIf seq → IsOtherIf alt → IsOtherIf star → IsOther (form_of objects value seq alt star)
form_known objects value seq alt star s a t =
    either (how_many value == 1) _ _ (or_known seq _ s (or_known alt _ a (or_known star _ t (leaf_known objects value)))) (is_err faults.BodyBad other_body)

among : {A : Type 0} (order : Ordering) (x : Result A RecordFault) (more : Option (Result A RecordFault)) → IsOther x → IsOtherIf more → IsOtherIf (match_ordering order more (Some x) more)
among Less x more h k = k
among Equal x more h k = h
among Greater x more h k = k

as_alt_known : (r : Result (List Tree) RecordFault) → IsOther r → IsOther (as_alt r)
as_alt_known r h = next r _ h (λ bs. either (is_none bs) _ _ (is_err faults.BodyBad other_body) (is_ok _))

mutual
  unfolding body_of

  body_known : (objects : Objects) (value : Data) → IsOther (body_of objects value)
  body_known objects (object ms) = form_known objects (object ms) _ _ _ (seq_known objects ms) (alt_known objects ms) (star_known objects ms)
  body_known objects null = is_err faults.BodyBad other_body
  body_known objects (boolean b) = is_err faults.BodyBad other_body
  body_known objects (number n) = is_err faults.BodyBad other_body
  body_known objects (string s) = is_err faults.BodyBad other_body
  body_known objects (array ds) = is_err faults.BodyBad other_body

  seq_known : (objects : Objects) (ms : Members) → IsOtherIf (seq_among objects ms)
  seq_known objects no_members = tt
  seq_known objects (member k d ms) = among (slice_cmp nat_cmp (codes "seq") k) _ _ (made (bodies_of objects d) _ (bodies_known objects d)) (seq_known objects ms)

  alt_known : (objects : Objects) (ms : Members) → IsOtherIf (alt_among objects ms)
  alt_known objects no_members = tt
  alt_known objects (member k d ms) = among (slice_cmp nat_cmp (codes "alt") k) _ _ (as_alt_known (bodies_of objects d) (bodies_known objects d)) (alt_known objects ms)

  star_known : (objects : Objects) (ms : Members) → IsOtherIf (star_among objects ms)
  star_known objects no_members = tt
  star_known objects (member k d ms) = among (slice_cmp nat_cmp (codes "star") k) _ _ (made (body_of objects d) _ (body_known objects d)) (star_known objects ms)

  bodies_known : (objects : Objects) (value : Data) → IsOther (bodies_of objects value)
  bodies_known objects (array ds) = items_known objects ds
  bodies_known objects null = is_err faults.BodyBad other_body
  bodies_known objects (boolean b) = is_err faults.BodyBad other_body
  bodies_known objects (number n) = is_err faults.BodyBad other_body
  bodies_known objects (string s) = is_err faults.BodyBad other_body
  bodies_known objects (object ms) = is_err faults.BodyBad other_body

  items_known : (objects : Objects) (ds : Items) → IsOther (bodies_in objects ds)
  items_known objects no_items = is_ok []
  items_known objects (item d ds) = next (body_of objects d) _ (body_known objects d) (λ b. made (bodies_in objects ds) _ (items_known objects ds))

small : (objects : Objects) (value : Data) → IsOther (small_body_of objects value)
unfolding small_body_of
small objects value = next (body_of objects value) _ (body_known objects value) (λ b. next (fault_if _ faults.BodyTooLarge) _ (tested _ _ other_large) (λ few. is_ok b))

given_body_known : (objects : Objects) (v : Option Data) → IsOther (body_given objects v)
given_body_known objects None = is_ok None
given_body_known objects (Some null) = is_ok None
given_body_known objects (Some (boolean b)) = made (small_body_of objects (boolean b)) _ (small objects (boolean b))
given_body_known objects (Some (number n)) = made (small_body_of objects (number n)) _ (small objects (number n))
given_body_known objects (Some (string s)) = made (small_body_of objects (string s)) _ (small objects (string s))
given_body_known objects (Some (array ds)) = made (small_body_of objects (array ds)) _ (small objects (array ds))
given_body_known objects (Some (object ms)) = made (small_body_of objects (object ms)) _ (small objects (object ms))

-- ---- a record

module _ (catalog : Objects) (value : Data) where
  of_tx : {A : Type 0} (f : List ℕ → Result A RecordFault) → ((tx : List ℕ) → IsOther (f tx)) → IsOther (name_of members.Tx value >>= f)
  of_tx f h = next (name_of members.Tx value) f (name_known members.Tx value) h

  of_id : (f : List ℕ → ℕ → Step Op) → IsOther (name_of members.Tx value >>= λ tx. (id_of value >>= λ id. Ok (f tx id)))
  of_id f = of_tx _ (λ tx. made (id_of value) _ (id_known value))

  begin_known : IsOther (begin_of catalog value)
  unfolding begin_of body_of_begin
  begin_known = of_tx _ (λ tx. next (name_of members.Thread value) _ (name_known members.Thread value) (λ thread. made (body_of_begin catalog value) _ (given_body_known catalog (get (codes "body") value))))

  step_known : (word : List ℕ) → IsOther (step_of catalog word value)
  unfolding step_of app_of unapp_of push_of unpush_of pull_of unpull_of cmt_of quit_of note_of
  step_known word =
      either (bytes_eq word (codes "begin")) _ _ begin_known
      (either (bytes_eq word (codes "app")) _ _ (of_tx _ (λ tx. made (item_of catalog value) _ (item_known catalog value)))
      (either (bytes_eq word (codes "unapp")) _ _ (of_id _)
      (either (bytes_eq word (codes "push")) _ _ (of_id _)
      (either (bytes_eq word (codes "unpush")) _ _ (of_id _)
      (either (bytes_eq word (codes "pull")) _ _ (of_id _)
      (either (bytes_eq word (codes "unpull")) _ _ (of_id _)
      (either (bytes_eq word (codes "cmt")) _ _ (of_tx _ (λ tx. is_ok _))
      (either (bytes_eq word (codes "quit")) _ _ (of_tx _ (λ tx. is_ok _))
      (either (bytes_eq word (codes "note")) _ _ (of_tx _ (λ tx. is_ok _)) (is_err faults.UnknownStep other_step))))))))))

  alone_known : (f : List ℕ → RunRecord Op) → IsOther (tx_alone f value)
  alone_known f = of_tx _ (λ tx. is_ok (f tx))

  names_known : (f : List ℕ → List ℕ → RunRecord Op) → IsOther (with_source f value)
  unfolding tx_and_source
  names_known f = made (tx_and_source value) _ (of_tx _ (λ tx. made (name_of members.Source value) _ (name_known members.Source value)))

  boosted_known : (word : List ℕ) → IsOther (boosted_of catalog word value)
  unfolding boosted_of plain_begin_of op_record_of
  boosted_known word =
      either (bytes_eq word (codes "begin")) _ _ (made (begin_of catalog value) _ begin_known)
      (either (bytes_eq word (codes "op")) _ _ (of_tx _ (λ tx. made (item_of catalog value) _ (item_known catalog value)))
      (either (bytes_eq word (codes "commit")) _ _ (alone_known _)
      (either (bytes_eq word (codes "abort")) _ _ (alone_known _)
      (either (bytes_eq word (codes "retry")) _ _ (alone_known _) (is_err faults.UnknownStep other_step)))))

  optimistic_known : (word : List ℕ) → IsOther (optimistic_of catalog word value)
  unfolding optimistic_of refresh_of
  optimistic_known word = either (bytes_eq word (codes "refresh")) _ _ (of_tx _ (λ tx. made (object_called catalog value) _ (called_known catalog value))) (boosted_known word)

  hardware_known : (word : List ℕ) → IsOther (hardware_of catalog word value)
  unfolding hardware_of
  hardware_known word =
      either (bytes_eq word (codes "xbegin")) _ _ (alone_known _)
      (either (bytes_eq word (codes "xend")) _ _ (alone_known _)
      (either (bytes_eq word (codes "xabort")) _ _ (alone_known _) (boosted_known word)))

  dependent_known : (word : List ℕ) → IsOther (dependent_of catalog word value)
  unfolding dependent_of
  dependent_known word =
      either (bytes_eq word (codes "depend")) _ _ (names_known _)
      (either (bytes_eq word (codes "drop")) _ _ (names_known _)
      (either (bytes_eq word (codes "publish")) _ _ (alone_known _) (boosted_known word)))

  style_known : (style : Style) (word : List ℕ) → IsOther (record_named style catalog word value)
  style_known Rules word = made (step_of catalog word value) _ (step_known word)
  style_known Boosted word = boosted_known word
  style_known Optimistic word = optimistic_known word
  style_known Hardware word = hardware_known word
  style_known Dependent word = dependent_known word

-- Reading a line as a record is never out of memory.
pub record_other_fault : (header : Header) (line : List ℕ) → record_of header line ≡ Err faults.OutOfMemory → ⊥
unfolding record_of
record_other_fault header line = next (object_of line) _ (object_known line) (λ value. next (text_of members.Step value) _ (text_known members.Step value) (λ word. style_known header.catalog value header.style word))
