-- A start that is read keeps to the ranges and the limit.
use Rattle.std.proofs.Common.{◌≡◌, ◌≤◌, ℕ, suc, ◌+◌, ℤ, pos, negsuc, Bool, true, false, cond, IsTrue, List, [], length, nat_le, nat_lt}
use Rattle.std.proofs.Common.{Option, Some, None, option_map, ok_or, Result, Ok, Err, refl, ap, subst, sym, ◌∙◌, arith}
use Rattle.std.specs.Prelude.{option_and_then, slice_get, IfOk, IfSome}
use Rattle.std.specs.List.{All}
use Rattle.std.proofs.lemmas.Grind.{common_steps}
use Rattle.std.proofs.lemmas.List.{length_push}
use Rattle.std.proofs.lemmas.List.Elements.{All-nil, All-push}
use Rattle.std.proofs.lemmas.Option.{IfSome_then, option_and_then_some, slice_get-map, some_pair_parts}
use Rattle.std.proofs.lemmas.Result.{IfOk-at_ok, IfOk-weaker}
use Rattle.serde_json.specs.Data.{Data, Items, no_items, item, null, boolean, number, string, array, object}
use Rattle.serde_json.specs.Find.{as_object, get}
use Rattle.pp_core.specs.Catalogs.{Objects, place_of}
use Rattle.pp_core.specs.Words.{member_word, named, style_word, styles}
use Rattle.pp_core.specs.declared.call.Kind.{Kind}
use Rattle.pp_core.specs.declared.entry.Item.{Item}
use Rattle.pp_core.specs.declared.limits.TheConstants.{MOST_START}
use Rattle.pp_core.specs.declared.member.Member.TheVariants as members
use Rattle.pp_objects.specs.Calls.{form_of, op_made}
use Rattle.pp_objects.specs.Objects.{kinds_of, objects}
use Rattle.pp_objects.specs.declared.act.Op.{Op}
use Rattle.pp_objects.proofs.Made.{made_is}
use Rattle.pp_format_read.specs.declared.fault.RecordFault.{RecordFault}
use Rattle.pp_format_read.specs.declared.fault.RecordFault.TheVariants.{OutOfRange, WrongType, TooManyStart}
use Rattle.pp_format_read.specs.declared.fault.RecordFault.TheVariants.{UnknownObject, UnknownStyle}
use Rattle.pp_format_read.specs.declared.header.Header.{Header}
use Rattle.pp_format_read.specs.declared.header.Version.{Version}
use Rattle.pp_format_read.specs.declared.start.Start.{Start}
use Rattle.pp_format_read.specs.declared.header.Version.TheVariants.{First, Second}
use Rattle.pp_format_read.specs.Reading.{◌>>=◌, fault_if}
use Rattle.pp_format_read.specs.Members.{object_of, member_of, text_of, name_of, name_from, whole_of, array_of, count}
use Rattle.pp_format_read.specs.Calls.{object_at, object_named, object_called, IsThere, method_of, argument}
use Rattle.pp_format_read.specs.Calls.{arguments_of, call_of, answer_in, op_of}
use Rattle.pp_format_read.specs.Items.{id_from, id_of, item_of, IsReadableItem}
use Rattle.pp_format_read.specs.Starts.{element_of, with_element, elements_in, ops_of, start_from, start_given}
use Rattle.pp_format_read.specs.Starts.{optional_start, AreReadable, IsReadableStart}
use Rattle.pp_format_read.specs.Headers.{version_of, catalog_of, versioned_start, header_of}
use Rattle.pp_format_read.proofs.Calls.{fits_there}

-- Q is true for the result of two readings in turn, if P is true for the first result, and Q for the second whenever P is true.
pub behind : {A B : Type 0} (r : Result A RecordFault) (f : A → Result B RecordFault) (P : A → Type 0) (Q : B → Type 0) → IfOk r P
    → ((a : A) → P a → IfOk (f a) Q) → IfOk (r >>= f) Q
behind (Ok a) f P Q p h = h a p
behind (Err e) f P Q p h = tt

-- the same, whatever the step read
pub behind_any : {A B : Type 0} (r : Result A RecordFault) (f : A → Result B RecordFault) (Q : B → Type 0) → ((a : A) → IfOk (f a) Q)
    → IfOk (r >>= f) Q
behind_any (Ok a) f Q h = h a
behind_any (Err e) f Q h = tt

-- If what an option has has a property, so has what is read of it without a fault.
pub found : {A : Type 0} (o : Option A) (fault : RecordFault) (P : A → Type 0) → IfSome o P → IfOk (ok_or o fault) P
found (Some a) fault P p = p
found None fault P p = tt

-- an id
small_number : (n : ℤ) → IfSome (id_from n) (λ id. id ≤ 999_999_999)
unfolding id_from
small_number (negsuc n) = tt
small_number (pos n) = by (nat_le n 999_999_999) refl
  where
    by : (b : Bool) → nat_le n 999_999_999 ≡ b → IfSome (cond b (Some n) None) (λ id. id ≤ 999_999_999)
    by true e = let small : n ≤ 999_999_999 = grind (arith, common_steps) in small
    by false e = tt

-- An id that is read is at most 999,999,999.
pub small_id : (value : Data) → IfOk (id_of value) (λ id. id ≤ 999_999_999)
unfolding id_of
small_id value =
    behind_any (whole_of members.Id value) _ _ (λ n. found (id_from n) (OutOfRange members.Id) _ (small_number n))

-- an operation
at_place : (catalog : Objects) (place : ℕ) (one : ℕ × Kind) → object_at catalog place ≡ Some one → IsThere catalog one
at_place catalog place one h = by (slice_get catalog place) refl h
  where
    by : (o : Option (List ℕ × Kind)) → slice_get catalog place ≡ o → option_map (λ entry. (place, entry.1)) o ≡ Some one → IsThere catalog one
    by None e h = absurd (cc)
    by (Some entry) e h =
        let p = some_pair_parts place one.0 entry.1 one.1 h in
        subst (λ (k : ℕ). slice_get (kinds_of catalog) k ≡ Some one.1) p.0
        (slice_get-map (λ (x : List ℕ × Kind). x.1) catalog place ∙ ap (option_map (λ (x : List ℕ × Kind). x.1)) e ∙ ap Some p.1)

under_name : (catalog : Objects) (text : List ℕ) (one : ℕ × Kind) → object_named catalog text ≡ Some one → IsThere catalog one
unfolding object_named
under_name catalog text one h =
    option_and_then_some (λ name. option_and_then (object_at catalog) (place_of name catalog)) (name_from text) one h
    (λ name is found. option_and_then_some (object_at catalog) (place_of name catalog) one found (λ place at there. at_place catalog place one there))

-- An object that is found by its name is in the catalog.
pub named_there : (catalog : Objects) (text : List ℕ) → IfSome (object_named catalog text) (IsThere catalog)
named_there catalog text = by (object_named catalog text) refl
  where
    by : (o : Option (ℕ × Kind)) → object_named catalog text ≡ o → IfSome o (IsThere catalog)
    by None e = tt
    by (Some one) e = under_name catalog text one e

called_there : (catalog : Objects) (value : Data) → IfOk (object_called catalog value) (IsThere catalog)
unfolding object_called
called_there catalog value =
    behind_any (text_of members.On value) _ _ (λ on. found (object_named catalog on) UnknownObject _ (named_there catalog on))

call_there : (place : ℕ) (kind : Kind) (value : Data) → IfOk (call_of place kind value) (λ c. c.object ≡ place)
unfolding call_of
call_there place kind value =
    behind_any (method_of kind value) _ _ (λ method.
    behind_any (arguments_of kind method value) _ _ (λ list.
    behind_any (argument 0 list) _ _ (λ first. behind_any (argument 1 list) _ _ (λ second. behind_any (argument 2 list) _ _ (λ third. refl)))))

-- An operation is one on an object of the run, with numbers in the range of records.
abbrev pub IsReadableOp : Objects → Op → Type 0
IsReadableOp catalog op = IsTrue (objects.fits (kinds_of catalog) op) × IsTrue (objects.ranged op)

-- An operation that is read fits the catalog and is ranged.
pub readable_op : (catalog : Objects) (value : Data) → IfOk (op_of catalog value) (IsReadableOp catalog)
unfolding op_of
readable_op catalog value =
    behind (object_called catalog value) _ (IsThere catalog) _ (called_there catalog value) (λ one there.
    behind (call_of one.0 one.1 value) _ (λ c. c.object ≡ one.0) _ (call_there one.0 one.1 value) (λ c place.
    behind_any (member_of members.Answer value) _ _ (λ result.
    behind_any (answer_in (form_of one.1 c.method) result) _ _ (λ answer.
    found (op_made one.1 c answer) (WrongType members.Answer) _ (IfSome_then (op_made one.1 c answer) (made_is one.1 c answer) (λ op made.
    let stands : slice_get (kinds_of catalog) c.object ≡ Some one.1 = subst (λ (k : ℕ). slice_get (kinds_of catalog) k ≡ Some one.1) (sym place) there in
    (fits_there (kinds_of catalog) one.1 c answer op stands made, made.ranged)))))))

-- An item that is read has an id in range and an operation of the catalog.
pub readable_item : (catalog : Objects) (value : Data) → IfOk (item_of catalog value) (IsReadableItem catalog)
unfolding item_of
readable_item catalog value =
    behind (id_of value) _ (λ id. id ≤ 999_999_999) _ (small_id value) (λ id small.
    behind (op_of catalog value) _ (IsReadableOp catalog) _ (readable_op catalog value) (λ op h. (small, h.0, h.1)))

-- the elements
readable_element : (catalog : Objects) (value : Data) → IfOk (element_of catalog value) (IsReadableItem catalog)
unfolding element_of
readable_element catalog value = behind_any (ok_or (as_object value) (WrongType members.Ops)) _ _ (λ inside. readable_item catalog value)

abbrev AreMore : Objects → ℕ → List (Item Op) → Type 0
AreMore catalog n items = (length items ≡ n) × All (IsReadableItem catalog) items

one_more : (catalog : Objects) (before : List (Item Op)) (value : Data) → All (IsReadableItem catalog) before → IfOk (with_element catalog before value) (AreMore catalog (length before + 1))
unfolding with_element
one_more catalog before value all =
    behind (element_of catalog value) _ (IsReadableItem catalog) _ (readable_element catalog value)
    (λ one h. (length_push before one, All-push (IsReadableItem catalog) before one all h))

all_more : (catalog : Objects) (before : List (Item Op)) (values : Items) → All (IsReadableItem catalog) before → IfOk (elements_in catalog before values) (AreMore catalog (length before + count values))
unfolding elements_in
all_more catalog before no_items all = (omega arith, all)
all_more catalog before (item value values) all =
    behind (with_element catalog before value) _ (AreMore catalog (length before + 1)) _ (one_more catalog before value all) (λ longer h.
    IfOk-weaker (elements_in catalog longer values) (AreMore catalog (length longer + count values)) (AreMore catalog (length before + suc (count values)))
    (λ items more. (omega (arith, h.0, more.0), more.1))
    (all_more catalog longer values h.1))

-- A number for which the limit is no fault is within the limit.
pub within : (most n : ℕ) (fault : RecordFault) → IfOk (fault_if (nat_lt most n) fault) (λ _. n ≤ most)
within most n fault = by (nat_lt most n) refl
  where
    by : (b : Bool) → nat_lt most n ≡ b → IfOk (fault_if b fault) (λ _. n ≤ most)
    by true e = tt
    by false e = let few : n ≤ most = grind (arith, common_steps) in few

-- The items of a start that are read are in range and within the limit.
pub readable_ops : (catalog : Objects) (value : Data) → IfOk (ops_of catalog value) (AreReadable catalog)
unfolding ops_of
readable_ops catalog value =
    behind_any (array_of members.Ops value) _ _ (λ values.
    behind (fault_if (nat_lt MOST_START (count values)) TooManyStart) _ (λ _. count values ≤ MOST_START) _ (within MOST_START (count values) TooManyStart) (λ _ under.
    IfOk-weaker (elements_in catalog [] values) (AreMore catalog (0 + count values)) (AreReadable catalog)
    (λ items more. record { few = omega (arith, under, more.0); each = more.1 })
    (all_more catalog [] values (All-nil (IsReadableItem catalog)))))

-- the start
one_readable : (catalog : Objects) (value : Data) → IfOk (start_from catalog value >>= λ start. Ok (Some start)) (IsReadableStart catalog)
unfolding start_from
one_readable catalog value =
    behind (start_from catalog value) _ (λ start. AreReadable catalog start.ops) _
    (behind_any (ok_or (as_object value) (WrongType members.Start)) _ _ (λ inside.
    behind_any (name_of members.Tx value) _ _ (λ tx.
    behind (ops_of catalog value) _ (AreReadable catalog) _ (readable_ops catalog value) (λ ops h. h))))
    (λ start h. h)

given_readable : (catalog : Objects) (o : Option Data) → IfOk (start_given catalog o) (IsReadableStart catalog)
given_readable catalog None = tt
given_readable catalog (Some null) = tt
given_readable catalog (Some (boolean b)) = one_readable catalog (boolean b)
given_readable catalog (Some (number n)) = one_readable catalog (number n)
given_readable catalog (Some (string s)) = one_readable catalog (string s)
given_readable catalog (Some (array ds)) = one_readable catalog (array ds)
given_readable catalog (Some (object ms)) = one_readable catalog (object ms)

-- A property of no start and of the start of version 2 is a property of the start of either version.
pub in_either_version : (P : Option Start → Type 0) (version : Version) (catalog : Objects) (value : Data) → P None → IfOk (optional_start catalog value) P
    → IfOk (versioned_start version catalog value) P
in_either_version P First catalog value none some = none
in_either_version P Second catalog value none some = some

-- A start that is read in either version keeps to the ranges and the limit.
pub versioned_readable : (version : Version) (catalog : Objects) (value : Data) → IfOk (versioned_start version catalog value) (IsReadableStart catalog)
unfolding optional_start
versioned_readable version catalog value =
    in_either_version (IsReadableStart catalog) version catalog value tt (given_readable catalog (get (member_word members.Start) value))

-- The start of a header that is read keeps to the ranges and the limit.
pub header_readable : (line : List ℕ) → IfOk (header_of line) (λ h. IsReadableStart h.catalog h.start)
unfolding header_of
header_readable line =
    behind_any (object_of line) _ _ (λ value.
    behind_any (version_of value) _ _ (λ version.
    behind_any (text_of members.Style value) _ _ (λ word.
    behind_any (ok_or (named style_word styles word) UnknownStyle) _ _ (λ style.
    behind_any (catalog_of value) _ _ (λ catalog.
    behind (versioned_start version catalog value) _ (IsReadableStart catalog) _ (versioned_readable version catalog value) (λ start h. h))))))

-- A header that is read from a line has a start within the ranges and the limit.
pub start_law : (line : List ℕ) (h : Header) → header_of line ≡ Ok h → IsReadableStart h.catalog h.start
start_law line h read = IfOk-at_ok (λ h. IsReadableStart h.catalog h.start) read (header_readable line)
